-- Where cycles are forbidden a walk through a sound plan comes to an end: at each step fewer members are left that can be walked to. So no members can each step to
-- one of them again.
use mathlib.Core.Bool.{Bool, true, false}
use Prim.Native.Nat.{ℕ, zero, suc, ◌≤◌, ◌<◌}
use native.Mathlib.Omega.{arith}
use lib.Dec.{T}
use Rattle.basis.specs.Sum.{sum, one_if}
use Rattle.basis.proofs.Sums.{sum_less}
use Rattle.pacsolve.specs.Problem.{Problem}
use Rattle.pacsolve.specs.Plan.{Plan, Step, here, on, Rooted, Acyclic}
use Rattle.pacsolve.proofs.Walks.{Trail, hop?, trail_decides, walk_on}

one_if_le : (a b : Bool) → (T a → T b) → one_if a ≤ one_if b
one_if_le true true h = omega arith
one_if_le true false h = absurd (h tt)
one_if_le false true h = omega arith
one_if_le false false h = omega arith

one_if_less : (a b : Bool) → ¬ T a → T b → one_if a < one_if b
one_if_less true b n t = absurd (n tt)
one_if_less false true n t = omega arith
one_if_less false false n t = absurd t

module _ (p : Problem) (P : Plan) (rooted : Rooted p P) (acyclic : Acyclic p P) (forbidden : p.forbidden) where
  abbrev leads : ℕ → ℕ → Bool
  leads d e = hop? p P p.entries d e

  -- how many entries a walk of one step or more leads to
  abbrev ahead : ℕ → ℕ
  ahead d = sum (λ e. one_if (leads d e)) p.entries

  -- they are fewer after a step
  ahead_less : {d e : ℕ} → Step p P d e → ahead e < ahead d
  ahead_less {d} {e} s =
      sum_less (λ f. one_if (leads e f)) (λ f. one_if (leads d f)) p.entries e
      (λ f l. one_if_le (leads e f) (leads d f) λ t. (trail_decides p P rooted d f).full (farther f ((trail_decides p P rooted e f).sure t)))
      (rooted.existing e s.to)
      (one_if_less (leads e e) (leads d e) (λ t. returned ((trail_decides p P rooted e e).sure t)) ((trail_decides p P rooted d e).full (record { next = e; first = s; rest = here })))
    where
      farther : (f : ℕ) → Trail p P e f → Trail p P d f
      farther f t = record { next = e; first = s; rest = walk_on p P (on here t.first) t.rest }

      returned : ¬ Trail p P e e
      returned t = acyclic forbidden e t.next t.first t.rest

  module _ (Among : ℕ → Type 0) (onward : (d : ℕ) → Among d → (e : ℕ) × Step p P d e × Among e) where
    none_within : (k d : ℕ) → ahead d < k → ¬ Among d
    none_within zero d h a = omega arith
    none_within (suc k) d h a = let to = onward d a in none_within k to.0 (omega (arith, ahead_less to.1)) to.2

    pub none_onward : (d : ℕ) → ¬ Among d
    none_onward d = none_within (suc (ahead d)) d (omega arith)
