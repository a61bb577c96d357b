-- What a test of every number below a bound decides.
use mathlib.Core.Bool.{Bool, true, false}
use Prim.Native.Nat.{ℕ, ◌<◌}
use native.Mathlib.Nat.{zero-add}
use native.Mathlib.Omega.{arith}
use lib.ListN.{length}
use Rattle.std.proofs.Common.{MatchBool}
use Rattle.std.specs.List.{AllWithin, HoldsAt, range_with_len}
use Rattle.std.proofs.lemmas.List.FromFn.{length-range_with_len, get_or-range_with_len}
use Rattle.basis.specs.Tests.{Decides}
use Rattle.basis.proofs.Answers.{answer_yes, answer_no}

-- every number below n passed, or one did not
abbrev pub Asked : Bool → ℕ → (ℕ → Type 0) → (ℕ → Type 0) → Type 0
Asked r n Yes No =
    MatchBool r (AllWithin Yes (range_with_len 0 n) 0 (length (range_with_len 0 n)))
    ((k : ℕ) × (k < length (range_with_len 0 n)) × HoldsAt No (range_with_len 0 n) k)

pub decides_below : (r : Bool) (n : ℕ) (Yes No : ℕ → Type 0) → ((k : ℕ) → No k → ¬ Yes k) → Asked r n Yes No → Decides r ((k : ℕ) → k < n → Yes k)
decides_below true n Yes No differ a =
    answer_yes (λ k h. rw (get_or-range_with_len 0 n k 0 h, zero-add k) at (a k 0 (omega arith) (rw (length-range_with_len 0 n) h)))
decides_below false n Yes No differ a =
    let h : a.0 < n = rw (length-range_with_len 0 n) at a.1 in
    answer_no (λ f. differ a.0 (rw (get_or-range_with_len 0 n a.0 0 h, zero-add a.0) at (a.2 0)) (f a.0 h))
