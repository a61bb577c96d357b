-- A problem whose fits are given by sets that index the catalogue is the catalogue's problem: the same sound plans, costs and order.
use mathlib.Core.List.{List}
use mathlib.Core.Logic.{◌↔◌}
use Prim.Native.Nat.{ℕ, ◌<◌}
use lib.ListN.{get_or}
use Rattle.bitset.specs.Bits.{Member}
use Rattle.pacsolve.specs.Plan.{Plan, Sound}
use Rattle.pacsolve.specs.Listing.{Asked, Least, NoneLeft}
use Rattle.pacsolve.proofs.Refit.{refit_sound, refit_least, refit_none_left}
use Rattle.catalogue.specs.Tables.{Lent, entry_count, slot_count}
use Rattle.catalogue.specs.Gives.{Fits, problem}
use Rattle.catalogue.specs.Survey.{Indexes, indexed}

module _ (L : Lent) (fits : List ℕ) (right : Indexes L fits) where
  pub index_agrees : (s e : ℕ) → s < slot_count L → e < entry_count L → Member (get_or fits s 0) e ↔ Fits L s e
  index_agrees s e h k = (λ m. ((right.members s h e).0 m).1, λ f. (right.members s h e).1 (k, f))

  pub indexed_sound : (P : Plan) → Sound (indexed L fits) P ↔ Sound (problem L) P
  indexed_sound P = refit_sound (problem L) (λ s e. Member (get_or fits s 0) e) index_agrees P

  pub indexed_least : (q : Asked) (P : Plan) → Least (indexed L fits) q P ↔ Least (problem L) q P
  indexed_least q P = refit_least (problem L) (λ s e. Member (get_or fits s 0) e) index_agrees q P

  pub indexed_none_left : (q : Asked) → NoneLeft (indexed L fits) q ↔ NoneLeft (problem L) q
  indexed_none_left q = refit_none_left (problem L) (λ s e. Member (get_or fits s 0) e) index_agrees q
