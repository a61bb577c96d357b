-- What drawing from prices comes to: one price lowered, amounts drawn one after the other, and amounts drawn along a walk through the members of a set.
use mathlib.Core.Path.{◌≡◌, refl, sym, ap, ◌∙◌}
use mathlib.Core.List.{List}
use mathlib.Core.Logic.{◌⊎◌, inl, inr}
use Prim.Native.Nat.{ℕ, ◌+◌, ◌-◌, ◌*◌, ◌^◌, ◌≤◌, ◌<◌}
use native.Mathlib.Nat.{one-mul, zero-mul}
use native.Mathlib.Decide.{ℕ_discrete}
use native.Mathlib.Omega.{arith}
use lib.ListN.{length, get_or, set, length-set}
use lib.Seq.{get_or-set_same, get_or-set_other}
use Rattle.basis.specs.Sum.{sum}
use Rattle.basis.proofs.Sums.{sum_same, sum_changed, term_le}
use Rattle.bitset.specs.Bits.{bit, Member}
use Rattle.bitset.specs.Walk.{Parts}
use Rattle.bitset.proofs.Subsets.{lowest_below}
use Rattle.bitset.proofs.Sets.{member_or_not, member_below, none_in_empty, bit_of_none}
use Rattle.bitset.proofs.Made.{rest_members}
use Rattle.bitset.proofs.MemberWalk.{Walked, walk_at, walk_on, walk_left}
use Rattle.price.specs.Prices.{price_of, everything, Meets, Has, Drawn, Low}

-- one term less by x: the sum is less by as much
sum_lowered : (f g : ℕ → ℕ) (n e x : ℕ) → e < n → f e ≡ g e + x → ((d : ℕ) → ¬ (d ≡ e) → f d ≡ g d) → x + sum g n ≡ sum f n
sum_lowered f g n e x l more others = omega (arith, sum_changed f g n e x l more others)

-- a member's term is at most the sum over the members
term_member : (g : ℕ → ℕ) (S n e : ℕ) → e < n → Member S e → g e ≤ sum (λ d. bit S d * g d) n
term_member g S n e h m =
    omega (arith, ap (λ (b : ℕ). b * g e) m ∙ one-mul (g e), term_le (λ d. bit S d * g d) n e h)

module _ (price : List ℕ) (d v x : ℕ) (small : d < 64) (there : d < length price) (less : v + x ≡ get_or price d 0) where
  -- a price lowered by x: a set that has the entry costs x less
  pub lowered : (S : ℕ) → Member S d → x + price_of (set price d v) S ≡ price_of price S
  unfolding price_of
  lowered S m = sum_lowered (λ e. bit S e * get_or price e 0) (λ e. bit S e * get_or (set price d v) e 0) 64 d x small at_d others
    where
      at_d : bit S d * get_or price d 0 ≡ bit S d * get_or (set price d v) d 0 + x
      at_d = rw (m, get_or-set_same price d v 0 there) (omega (arith, less))

      others : (e : ℕ) → ¬ (e ≡ d) → bit S e * get_or price e 0 ≡ bit S e * get_or (set price d v) e 0
      others e n = rw (get_or-set_other price d e v 0 n) refl

  -- and another set costs what it did
  pub untouched : (S : ℕ) → ¬ Member S d → price_of (set price d v) S ≡ price_of price S
  unfolding price_of
  untouched S n = sum_same (λ e. bit S e * get_or (set price d v) e 0) (λ e. bit S e * get_or price e 0) 64 (λ e h. at e (ℕ_discrete e d))
    where
      at : (e : ℕ) → Dec (e ≡ d) → bit S e * get_or (set price d v) e 0 ≡ bit S e * get_or price e 0
      at e (yes k) = rw (k, bit_of_none S d n) (zero-mul (get_or (set price d v) d 0) ∙ sym (zero-mul (get_or price d 0)))
      at e (no k) = rw (get_or-set_other price d e v 0 k) refl

  pub no_dearer : (S : ℕ) → price_of (set price d v) S ≤ price_of price S
  no_dearer S = go (member_or_not S d)
    where
      go : Dec (Member S d) → price_of (set price d v) S ≤ price_of price S
      go (yes m) = omega (arith, lowered S m)
      go (no n) = omega (arith, untouched S n)

-- everything has each number below 64
pub in_everything : (e : ℕ) → e < 64 → Member everything e
in_everything e h = (rest_members 64 0 e (omega arith)).1 (h, none_in_empty e)

-- a member's price is at most what the set costs
pub member_price : (price : List ℕ) (S e : ℕ) → e < 64 → Member S e → get_or price e 0 ≤ price_of price S
unfolding price_of
member_price price S e h m = term_member (λ d. get_or price d 0) S 64 e h m

pub drawn_then : {Q R : ℕ → Type 0} {a b c : List ℕ} {x y : ℕ} → Drawn Q a b x → Drawn R b c y → Drawn (λ set. Q set × R set) a c (x + y)
drawn_then f g =
    record {
      sized = g.sized ∙ f.sized;
      fair = λ set q. omega (arith, f.fair set q.0, g.fair set q.1);
      whole = omega (arith, f.whole, g.whole);
    }

pub drawn_for : {Q R : ℕ → Type 0} {a b : List ℕ} {x : ℕ} → ((set : ℕ) → R set → Q set) → Drawn Q a b x → Drawn R a b x
drawn_for h f = record { sized = f.sized; fair = λ set r. f.fair set (h set r); whole = f.whole }

-- drawn for what already holds of the sets that were drawn for
pub drawn_more : {Q R : ℕ → Type 0} {a b c : List ℕ} {x y : ℕ} → Drawn Q a b x → Drawn R b c y → ((set : ℕ) → Q set → R set) → Drawn Q a c (x + y)
drawn_more f g h = drawn_for (λ set q. (q, h set q)) (drawn_then f g)

-- what is left low is low
pub low_after : {Q : ℕ → Type 0} {a b : List ℕ} {x : ℕ} → Low a → Drawn Q a b x → Low b × (x < 2 ^ 62)
low_after l d = ((d.sized ∙ l.0, omega (arith, d.whole, l.1)), omega (arith, d.whole, l.1))

-- what holds of the members passed, and more
pub walk_weaker : {set rest : ℕ} {Q R : ℕ → Type 0} → Walked set rest Q → ((e : ℕ) → Q e → R e) → Walked set rest R
walk_weaker {rest = rest} {Q = Q} {R = R} w h = record { fits = w.fits; within = w.within; passed = λ e m. go e (w.passed e m) }
  where
    go : (e : ℕ) → Member rest e ⊎ Q e → Member rest e ⊎ R e
    go e (inl m) = inl m
    go e (inr q) = inr (h e q)

-- an amount taken from each member passed
pub record Taking (A amount : ℕ) (price₀ price : List ℕ) (rest : ℕ) : Type 0 where
  pub walked : Walked A rest (λ e. Unit {0})
  pub sized : length price ≡ length price₀
  pub same : (e : ℕ) → Member rest e → get_or price e 0 ≡ get_or price₀ e 0
  pub kept : (set : ℕ) → price_of price set ≤ price_of price₀ set
  pub taken : (set e : ℕ) → Member A e → Member set e → ¬ Member rest e → amount + price_of price set ≤ price_of price₀ set

module _ {A amount : ℕ} {price₀ price : List ℕ} {rest d less : ℕ} (t : Taking A amount price₀ price rest) (p : Parts rest d less) where
  pub taking_small : d < 64
  taking_small = lowest_below t.walked.fits p.lowest

  -- a member passed has the amount
  pub taking_enough : ((e : ℕ) → Member A e → amount ≤ get_or price₀ e 0) → amount ≤ get_or price d 0
  taking_enough enough = omega (arith, enough d (walk_at t.walked p), t.same d p.lowest.member)

  pub taking_on : length price₀ ≡ 64 → ((e : ℕ) → Member A e → amount ≤ get_or price₀ e 0) → Taking A amount price₀ (set price d (get_or price d 0 - amount)) less
  taking_on long enough =
      record {
        walked = walk_on t.walked p tt;
        sized = length-set price d v ∙ t.sized;
        same = λ e m. get_or-set_other price d e v 0 (walk_left t.walked p e m).1 ∙ t.same e ((p.rest.members taking_small e).0 m).0;
        kept = λ S. omega (arith, no_dearer price d v amount taking_small there whole S, t.kept S);
        taken = λ S e a m n. at S e a m n (member_or_not S d);
      }
    where
      v : ℕ
      v = get_or price d 0 - amount

      there : d < length price
      there = omega (arith, taking_small, t.sized, long)

      whole : v + amount ≡ get_or price d 0
      whole = omega (arith, taking_enough enough)

      at : (S e : ℕ) → Member A e → Member S e → ¬ Member less e → Dec (Member S d) → amount + price_of (set price d v) S ≤ price_of price₀ S
      at S e a m n (yes x) = omega (arith, lowered price d v amount taking_small there whole S x, t.kept S)
      at S e a m n (no x) =
          let passed : ¬ Member rest e = λ r. n ((p.rest.members taking_small e).1 (r, λ k. x (rw k at m))) in
          omega (arith, untouched price d v amount taking_small there whole S x, t.taken S e a m passed)

pub taking_end : {A amount : ℕ} {price₀ price : List ℕ} {rest : ℕ} → Taking A amount price₀ price rest → rest ≡ 0 → A < 2 ^ 64 → (e : ℕ) × Member A e
    → Drawn (Meets A) price₀ price amount
taking_end {A} {amount} {price₀} {price} {rest} t z h x =
    record {
      sized = t.sized;
      fair = λ S m. t.taken S m.0 m.1 m.2 (passed m.0);
      whole = t.taken everything x.0 x.1 (in_everything x.0 (member_below 64 A x.0 h x.1)) (passed x.0);
    }
  where
    passed : (e : ℕ) → ¬ Member rest e
    passed e m = none_in_empty e (rw z at m)

-- the whole price of each member passed drawn
pub record Emptying (A : ℕ) (price₀ price : List ℕ) (sum rest : ℕ) : Type 0 where
  pub walked : Walked A rest (λ e. Unit {0})
  pub drawn : Drawn (Has A) price₀ price sum

module _ {A : ℕ} {price₀ price : List ℕ} {sum rest d less : ℕ} (t : Emptying A price₀ price sum rest) (p : Parts rest d less) (ready : Low price₀) where
  pub emptying_small : d < 64
  emptying_small = lowest_below t.walked.fits p.lowest

  there : d < length price
  there = omega (arith, emptying_small, t.drawn.sized, ready.0)

  pub emptying_fits : sum + get_or price d 0 < 2 ^ 62
  emptying_fits = omega (arith, member_price price everything d emptying_small (in_everything d emptying_small), t.drawn.whole, ready.1)

  pub emptying_on : Emptying A price₀ (set price d 0) (sum + get_or price d 0) less
  emptying_on =
      record {
        walked = walk_on t.walked p tt;
        drawn = record {
          sized = length-set price d 0 ∙ t.drawn.sized;
          fair = λ S h. omega (arith, lowered price d 0 (get_or price d 0) emptying_small there (omega arith) S (h d (walk_at t.walked p)), t.drawn.fair S h);
          whole = omega (arith, lowered price d 0 (get_or price d 0) emptying_small there (omega arith) everything (in_everything d emptying_small), t.drawn.whole);
        };
      }
