-- Tables as lists: within a list the default of a read does not matter.
use mathlib.Core.Path.{◌≡◌, refl}
use mathlib.Core.List.{List, [], ◌∷◌}
use Prim.Native.Nat.{ℕ, zero, suc, ◌<◌}
use native.Mathlib.Nat.{not-suc-le-zero, le_of_suc-le-suc}
use lib.ListN.{length, get_or}

pub get_d_within : (l : List ℕ) (i a b : ℕ) → i < length l → get_or l i a ≡ get_or l i b
get_d_within [] i a b h = absurd (not-suc-le-zero h)
get_d_within (x ∷ l) zero a b h = refl
get_d_within (x ∷ l) (suc i) a b h = get_d_within l i a b (le_of_suc-le-suc h)
