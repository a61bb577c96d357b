-- The floor of a node: what is drawn from the prices of its packages bounds the worth of every plan inside it.
use mathlib.Core.Path.{◌≡◌, refl}
use mathlib.Core.List.{List}
use mathlib.Core.Logic.{◌⊎◌, inl, inr, ⊎_elim}
use Prim.Native.Nat.{ℕ, ◌+◌, ◌*◌, ◌^◌, ◌≤◌, ◌<◌}
use native.Mathlib.Decide.{dec_lt}
use native.Mathlib.Omega.{arith}
use lib.ListN.{get_or}
use Rattle.bitset.specs.Bits.{Member}
use Rattle.bitset.specs.Changes.{With}
use Rattle.price.specs.declared.Rates.{Rates}
use Rattle.price.specs.declared.Scale.{Scale}
use Rattle.price.specs.declared.packages.Known.{Known}
use Rattle.price.specs.Prices.{Has, Serves, Drawn}
use Rattle.price.specs.Worth.{Small}
use Rattle.price.specs.Kinds.{OfOnePackage, Packaged, Raised}
use Rattle.price.specs.Needed.{Closed}
use Rattle.price.specs.Floor.{Moderate, Floors, Dear}
use Rattle.price.proofs.Bounds.{price_le, raised_low}
use Rattle.price.proofs.Drawing.{drawn_then}
use Rattle.price.proofs.Units.{times_le}

-- one entry more, whose price is the limit or more
pub dear_more : {dear e r its limit : ℕ} → With dear e r → limit ≤ its → (x : ℕ) → Member r x → Member dear x ⊎ ((x ≡ e) × (limit ≤ its))
dear_more {dear} {e} {r} {its} {limit} w h x m = go (dec_lt e 64)
  where
    go : Dec (e < 64) → Member dear x ⊎ ((x ≡ e) × (limit ≤ its))
    go (yes l) = ⊎_elim (λ k. inr (k, h)) (λ k. inl k) ((w.members l x).0 m)
    go (no n) = inl (rw (w.beyond (omega arith)) at m)

pub dear_on : {price : List ℕ} {limit dear e r : ℕ} → Dear price limit dear → With dear e r → e < 64 → limit ≤ get_or price e 0 → Dear price limit r
dear_on {price} {limit} {e = e} d w small h = record { dear = λ x m. ⊎_elim (λ k. rw k h) (d.dear x) ((w.members small x).0 m) }

-- what duplicates and dependencies count one member late fits
pub credit_fits : (scale : Scale) (packages : ℕ) → Small scale → packages ≤ 64 → (scale.double * packages ≤ 34628173888) × (scale.count + scale.double * packages < 2 ^ 62)
credit_fits scale packages s h =
    let product = times_le 34628173888 s.double h refl in (product, omega (arith, product, s.count))

pub laid : {rates : Rates} {first : List ℕ} {must : ℕ} {choices raised after_all after_slots price : List ℕ} {known : Known} {fixed shared beyond : ℕ}
    → Moderate rates.base rates.scale → ((entries : List ℕ) → OfOnePackage entries rates.alike → Packaged entries known) → known.packages ≤ 64
    → Raised rates.base known.entries rates.scale.double raised → Drawn (Has must) raised after_all fixed → Drawn (Serves first must choices) after_all after_slots shared
    → Drawn (Closed first must choices) after_slots price beyond
    → Floors rates first must choices price (record { sum = fixed + shared + beyond; credit = rates.scale.count + rates.scale.double * known.packages })
laid {rates} {raised = raised} {known = known} moderate packaged fits up one two three =
    let paid = drawn_then (drawn_then one two) three in
    let low = raised_low rates.base raised known.entries rates.scale.double moderate.each moderate.small.double up in
    record {
      sum = omega (arith, paid.whole, low.1);
      credit = (credit_fits rates.scale known.packages moderate.small fits).1;
      sized = omega (arith, paid.sized, up.sized);
      below = λ entries objectives all fits settings alike scaled prices few set exist has serves.
          let drawn = paid.fair set ((has, λ e s h m. serves e s h (has e m)), (has, serves)) in
          let bound = price_le entries all settings objectives fits set few exist rates.scale rates.base scaled prices known (packaged entries alike) raised up in
          omega (arith, drawn, bound);
    }
