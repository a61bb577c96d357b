-- Rounds of the search: a plan that a round finds is the least of all, and where the last round finds none there is none, since its bound is above every cost.
use mathlib.Core.Path.{◌≡◌, refl, ◌∙◌}
use mathlib.Core.List.{List}
use mathlib.Core.Logic.{◌⊎◌, inl, inr}
use Prim.Native.Nat.{ℕ, zero, suc, ◌+◌, ◌*◌, ◌/◌, ◌≤◌, ◌<◌}
use native.Mathlib.Omega.{arith}
use native.Mathlib.Nat.{mul-le-mul_right}
use lib.ListN.{length, get_or}
use Rattle.std.specs.Prelude.{Bool, true, Option, Some, None, is_some}
use Rattle.basis.proofs.Sums.{sum_mono}
use Rattle.bitset.specs.Bits.{bit}
use Rattle.pacsolve.specs.declared.Listed.{Listed}
use Rattle.pacsolve.specs.Problem.{Problem}
use Rattle.pacsolve.specs.Cost.{weight_of, amount}
use Rattle.pacsolve.specs.Listing.{Asked}
use Rattle.pacsolve.specs.Order.{lower}
use Rattle.catalogue.specs.declared.Settings.{Settings}
use Rattle.catalogue.specs.Spans.{Rising, Spans}
use Rattle.catalogue.specs.Survey.{tabled}
use Rattle.price.specs.Worth.{Apart, code_at, Scaled, BasePrices}
use Rattle.price.specs.Prices.{everything}
use Rattle.price.proofs.Bounds.{base_small}
use Rattle.price.proofs.Drawing.{in_everything}
use Rattle.price.proofs.Worth.{Modest, first_number, other_amount, scaled_small}
use Rattle.node.specs.declared.Facts.{Facts}
use Rattle.node.specs.declared.Given.{Given}
use Rattle.node.specs.declared.Node.{Node}
use Rattle.node.specs.Clashing.{Clashes, Alikes}
use Rattle.node.specs.Facts.{FactsOf}
use Rattle.node.proofs.Slotted.{tabled_slotted}
use Rattle.search.specs.Found.{Posed, Whole, Above, firstly, Found, none_left, the_least, FoundUnder, none_under, found_least}

module _ {p : Problem} {q : Asked} {bound : ℕ} {buffer₀ buffer : List ℕ} {r : Option Listed} {buffer' : List ℕ} (same : buffer ≡ buffer₀) where
  -- a round ends the search where it finds a plan, or where its bound is above every cost
  pub round_ends : {top : ℕ} → Above p top → (r ≡ None → bound ≡ top) → FoundUnder p q (firstly bound) buffer r buffer' → Found p q buffer₀ r buffer'
  round_ends above last (none_under e n k) = none_left e (λ Q good wanted. n Q good wanted (rw (last e) (lower (above Q.set)))) (k ∙ same)
  round_ends above last (found_least e l k) = the_least e l k

  -- nothing was written
  pub round_leaves : r ≡ None → FoundUnder p q (firstly bound) buffer r buffer' → buffer' ≡ buffer₀
  round_leaves f (none_under e n k) = k ∙ same
  round_leaves f (found_least e l k) = cc

-- a bound that is not yet the top has risen
pub risen : (bound more : ℕ) {top r : ℕ} → (r ≡ top) ⊎ ((r ≡ bound + more) × (r < top)) → ¬ (r ≡ top) → (r ≡ bound + more) × (r < top)
risen bound more (inl e) n = absurd (n e)
risen bound more (inr h) n = h

-- where narrowing leaves no node there is no plan
pub found_none : {p : Problem} {q : Asked} {after : Option Node} {choices : List ℕ} {r : Option Listed} (buffer : List ℕ) → Whole p q after choices → after ≡ None → r ≡ None
    → Found p q buffer r buffer
found_none {after = after} buffer whole e none = none_left none (λ Q good wanted. let x = whole.whole Q good wanted in let some : after ≡ Some x.0 = x.1 in cc) refl

-- a value that is there is not None
pub not_none : {A : Type 0} (r : Option A) {b : Bool} → b ≡ is_some r → b ≡ true → ¬ (r ≡ None)
not_none None e f g = cc
not_none (Some x) e f g = cc

-- the weights of all entries together, and what the other numbers stay below
module _ (p : Problem) (modest : Modest p) where
  heaviest : (set : ℕ) → weight_of p set ≤ weight_of p everything
  unfolding weight_of
  heaviest set =
      sum_mono (λ e. bit set e * p.weight e) (λ e. bit everything e * p.weight e) p.entries
      (λ e h. rw (in_everything e (omega (arith, modest.entries))) (mul-le-mul_right (p.weight e) (bit_le e)))
    where
      bit_le : (e : ℕ) → bit set e ≤ 1
      bit_le e = omega arith

  under_span : (set code : ℕ) → amount p set code < weight_of p everything + 128
  unfolding amount
  under_span set zero = omega (arith, heaviest set)
  under_span set (suc code) = omega (arith, other_amount p set modest code)

  pub above_all : Above p (weight_of p everything + 128)
  above_all set = rw (first_number p set) (under_span set (code_at p.objectives 0))

-- what is posed for a buffer is posed for an equal one
pub posed_again : {p : Problem} {given : Option Given} {buffer₀ buffer : List ℕ} → buffer ≡ buffer₀ → Posed p given buffer₀ → Posed p given buffer
posed_again same posed = rw same posed

-- the owners of a slot table that is posed never fall
pub posed_rising : (entries slots : List ℕ) (settings : Settings) (objectives fits : List ℕ) {given : Option Given} {buffer : List ℕ}
    → Posed (tabled entries slots settings objectives fits) given buffer → Rising slots
posed_rising entries slots settings objectives fits posed s h =
    let slotted = tabled_slotted entries slots settings objectives fits in
    rw (slotted.owner s (omega arith), slotted.owner (suc s) h) at (posed.rising s h)

-- what is worked out of the tables
pub worked_out : (entries slots objectives : List ℕ) (mode : ℕ) (facts : Facts) → length entries / 5 ≤ 64 → Rising slots → Apart objectives
    → ((e : ℕ) → get_or entries (e * 5 + 4) 0 ≤ 65535) → Clashes entries mode facts.clash → Alikes entries facts.rates.alike → Scaled objectives facts.rates.scale
    → BasePrices entries objectives facts.rates.scale facts.rates.base → (Rising slots → Spans slots facts.spans.first) → FactsOf entries slots objectives mode facts
worked_out entries slots objectives mode facts few rising apart light clashes alikes scaled prices spans =
    let small = scaled_small objectives facts.rates.scale scaled apart in
    record {
      spans = spans rising;
      clashes = clashes;
      alikes = record { sized = alikes.sized; alike = alikes.only };
      scaled = scaled;
      priced = prices;
      moderate = record { small = small; sized = prices.sized; each = base_small entries objectives facts.rates.scale facts.rates.base small prices light };
      few = few;
      light = light;
    }
