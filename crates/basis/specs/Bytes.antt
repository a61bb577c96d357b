-- Byte strings: a quoted text as the list of its bytes, and what holds of every byte of a list.
use Rattle.std.specs.Prelude.{List, [], ◌∷◌, ℕ}
use Prim.Native.String.{String, [] as no_text, ◌∷◌ as ◌before◌}
use Prim.Native.Char.{code}

-- the bytes of a text of characters below 128
abbrev pub bytes : String → List ℕ
bytes no_text = []
bytes (c before s) = code c ∷ bytes s

-- P holds of each element
abbrev pub All {ℓ} : {A : Type ℓ} → (A → Type 0) → List A → Type 0
All P [] = Unit {0}
All P (a ∷ l) = P a × All P l
