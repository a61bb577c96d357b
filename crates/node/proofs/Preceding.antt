-- Telling which of two plans comes first: a cost by its three numbers, and then the tables. What is told is the order of plans.
use mathlib.Core.Path.{◌≡◌, refl}
use mathlib.Core.Bool.{Bool}
use mathlib.Core.List.{List, [], ◌∷◌}
use mathlib.Core.Logic.{◌⊎◌, ◌↔◌, inl, inr}
use Rattle.std.specs.Prelude.{Option, Some}
use Rattle.std.proofs.Common.{Ordering, Less, Equal, Greater}
use Rattle.std.specs.Ordering.{MatchOrdering, nat_cmp, is_lt, is_some_and, partial_ordering_then}
use Rattle.std.proofs.lemmas.Cmp.{ranked}
use Prim.Native.Nat.{ℕ, ◌<◌}
use native.Mathlib.Decide.{ℕ_discrete, dec_lt}
use native.Mathlib.Omega.{arith}
use lib.Dec.{ltb}
use lib.ListN.{length, get_or}
use Rattle.basis.specs.Tests.{Decides}
use Rattle.basis.proofs.Answers.{answer_yes, answer_no}
use Rattle.basis.proofs.Decide.{decides_by, decides_lt}
use Rattle.pacsolve.specs.declared.Cost.{Cost}
use Rattle.pacsolve.specs.Problem.{Problem}
use Rattle.pacsolve.specs.Plan.{Plan}
use Rattle.pacsolve.specs.Cost.{cost, numbers}
use Rattle.pacsolve.specs.Order.{Earlier, lower, Precedes, cheaper, tied}
use Rattle.pacsolve.proofs.Order.{earlier_cases, earlier_irrefl, earlier_total, same_numbers}
use Rattle.node.specs.Order.{Ahead}
use Rattle.node.proofs.Compared.{same_first, ended_first, Alike, earlier_at, not_earlier_at}

-- lists that are alike up to i compare as their numbers at i, unless those are equal and more could follow
pub compares_at : (s t : List ℕ) (i : ℕ) → i < length s → i < length t → Alike s t i → (get_or s i 0 ≡ get_or t i 0 → ¬ Earlier s t)
    → Decides (ltb (get_or s i 0) (get_or t i 0)) (Earlier s t)
compares_at s t i h l k same =
    decides_by (earlier_at s t i h l k) (λ e. lower_at e (dec_lt (get_or s i 0) (get_or t i 0)) (ℕ_discrete (get_or s i 0) (get_or t i 0))) (decides_lt _ _)
  where
    lower_at : Earlier s t → Dec (get_or s i 0 < get_or t i 0) → Dec (get_or s i 0 ≡ get_or t i 0) → get_or s i 0 < get_or t i 0
    lower_at e (yes x) y = x
    lower_at e (no n) (yes y) = absurd (same y e)
    lower_at e (no n) (no m) = absurd (not_earlier_at s t i k (omega arith) e)

-- an order that takes up the rest where two numbers are equal tells which list is earlier, as far as it tells so of what follows
module _ {a b : ℕ} {s t : List ℕ} where
  not_higher : b < a → ¬ Earlier (a ∷ s) (b ∷ t)
  not_higher h e = go (earlier_cases e)
    where
      go : (a < b) ⊎ ((a ≡ b) × Earlier s t) → ⊥
      go (inl l) = omega arith
      go (inr x) = omega (arith, x.0)

  number_then : (rest : Option Ordering) → Decides (is_some_and is_lt rest) (Earlier s t)
      → Decides (is_some_and is_lt (partial_ordering_then (Some (nat_cmp a b)) rest)) (Earlier (a ∷ s) (b ∷ t))
  number_then rest d = go (nat_cmp a b) (ranked a b (nat_cmp a b) refl)
    where
      go : (o : Ordering) → MatchOrdering o (a < b) (a ≡ b) (b < a) → Decides (is_some_and is_lt (partial_ordering_then (Some o) rest)) (Earlier (a ∷ s) (b ∷ t))
      go Less l = answer_yes (lower l)
      go Equal same = let both = same_first same in decides_by both.0 both.1 d
      go Greater h = answer_no (not_higher h)

  number_last : ¬ Earlier s t → Decides (is_some_and is_lt (Some (nat_cmp a b))) (Earlier (a ∷ s) (b ∷ t))
  number_last n = go (nat_cmp a b) (ranked a b (nat_cmp a b) refl)
    where
      go : (o : Ordering) → MatchOrdering o (a < b) (a ≡ b) (b < a) → Decides (is_some_and is_lt (Some o)) (Earlier (a ∷ s) (b ∷ t))
      go Less l = answer_yes (lower l)
      go Equal same = answer_no (λ e. n ((same_first same).1 e))
      go Greater h = answer_no (not_higher h)

-- the derived order of costs is that of their numbers
pub cost_lower : (a b : Cost) {r : Bool}
    → r ≡ is_some_and is_lt (partial_ordering_then (Some (nat_cmp a.first b.first)) (partial_ordering_then (Some (nat_cmp a.second b.second)) (Some (nat_cmp a.third b.third))))
    → Decides r (Earlier (numbers a) (numbers b))
cost_lower a b e = rw e (number_then _ (number_then _ (number_last (ended_first [] [] (inl refl)))))

-- costs neither of which is lower are equal
pub neither_lower : (a b : Cost) → ¬ Earlier (numbers a) (numbers b) → ¬ Earlier (numbers b) (numbers a) → a ≡ b
neither_lower a b n m = go (earlier_total (numbers a) (numbers b) refl)
  where
    go : Earlier (numbers a) (numbers b) ⊎ ((numbers a ≡ numbers b) ⊎ Earlier (numbers b) (numbers a)) → a ≡ b
    go (inl x) = absurd (n x)
    go (inr (inl x)) = same_numbers a b x
    go (inr (inr x)) = absurd (m x)

module _ {a b : Cost} {s t : List ℕ} where
  -- at equal cost the tables decide
  pub tied_ahead : {r : Bool} → a ≡ b → Decides r (Earlier s t) → Decides r (Ahead a s b t)
  tied_ahead same d = decides_by (λ e. inr (same, e)) tables d
    where
      tables : Ahead a s b t → Earlier s t
      tables (inl x) = absurd (earlier_irrefl (numbers b) (rw same at x))
      tables (inr x) = x.1

  -- at another, the costs
  pub not_ahead : ¬ Earlier (numbers a) (numbers b) → ¬ (a ≡ b) → ¬ Ahead a s b t
  not_ahead n other (inl x) = n x
  not_ahead n other (inr x) = other x.0

-- what is told is the order of plans
pub ahead_precedes : (p : Problem) (P Q : Plan) (a b : Cost) (s t : List ℕ) → a ≡ cost p P.set → s ≡ P.table → b ≡ cost p Q.set → t ≡ Q.table
    → Ahead a s b t ↔ Precedes p P Q
ahead_precedes p P Q a b s t ea es eb et = rw (ea, es, eb, et) (into, from)
  where
    into : Ahead (cost p P.set) P.table (cost p Q.set) Q.table → Precedes p P Q
    into (inl x) = cheaper x
    into (inr x) = tied x.0 x.1

    from : Precedes p P Q → Ahead (cost p P.set) P.table (cost p Q.set) Q.table
    from (cheaper x) = inl x
    from (tied e x) = inr (e, x)
