-- Beginnings of texts: one byte more, and what follows them.
use mathlib.Core.Path.{◌≡◌}
use mathlib.Core.List.{List, [], ◌∷◌}
use Prim.Native.Nat.{ℕ, zero, suc, ◌+◌, ◌-◌, ◌<◌}
use native.Mathlib.Nat.{le_refl, not-suc-le-zero}
use native.Mathlib.Numerals.{add-one}
use native.Mathlib.Omega.{arith}
use lib.ListN.{length, get_or, take, drop, length-drop}
use lib.Seq.{take-suc, take_all}
use Rattle.basis.specs.Bytes.{All}

-- two texts that agree in i bytes, and in the next, agree in one more
pub take_more : (s t : List ℕ) (i : ℕ) → i < length s → i < length t → take i s ≡ take i t → get_or s i 0 ≡ get_or t i 0 → take (i + 1) s ≡ take (i + 1) t
take_more s t i k l same next = rw (add-one, take-suc s i 0 k, take-suc t i 0 l) (cc)

-- the slice of a text from k to its end
pub part_from : (text : List ℕ) (k : ℕ) → take (length text - k) (drop k text) ≡ drop k text
part_from text k = take_all (length text - k) (drop k text) (rw length-drop (le_refl (length text - k)))

-- what holds of each byte of a beginning holds of the byte at a place in it
pub all_at : (P : ℕ → Type 0) (text : List ℕ) (k i : ℕ) → All P (take k text) → i < k → i < length text → P (get_or text i 0)
all_at P [] k i p h l = absurd (not-suc-le-zero l)
all_at P (b ∷ text) zero i p h l = absurd (not-suc-le-zero h)
all_at P (b ∷ text) (suc k) zero p h l = p.0
all_at P (b ∷ text) (suc k) (suc i) p h l = all_at P text k i p.1 (omega arith) (omega arith)
