-- Listings by computation: the one law by which each example is proved, from a test that passes and a list that computes.
use mathlib.Core.List.{List}
use mathlib.Core.Path.{◌≡◌}
use Prim.Native.Nat.{ℕ, ◌≤◌}
use native.Mathlib.Omega.{arith}
use lib.Dec.{T}
use Rattle.bitset.specs.Bits.{count}
use Rattle.constraint.specs.Meaning.{Constraint}
use Rattle.pacsolve.specs.Plan.{Plan}
use Rattle.pacsolve.specs.Cost.{weight_of, members_of, earlier, duplicates_of, amount, cost}
use Rattle.pacsolve.proofs.Walks.{hop?}
use Rattle.pacsolve.proofs.Conditions.{sound?}
use Rattle.pacsolve.proofs.Sorted.{insert, sorted}
use Rattle.pacsolve.proofs.Enumerated.{set_of, tables, candidates, listed, listing_exists}
use Rattle.catalogue.specs.Tables.{Lent, entry_count}
use Rattle.catalogue.specs.Gives.{problem}
use Rattle.catalogue.proofs.Sane.{few_entries, unrefused}
use Rattle.catalogue.proofs.Computed.{AllRead, computes_by}
use Rattle.demands.specs.Claims.{Yields}
use Rattle.demands.proofs.Unrefused.{reads_all?, all_read, fine?, sane_by}

module _ (L : Lent) (constraints : ℕ → Constraint) where
  -- the list of the sound plans, in order. Whoever unfolds it sees it compute
  unfoldable pub computed : entry_count L ≤ 255 → AllRead L constraints → List Plan
  unfolding listed candidates tables set_of sorted insert sound? hop? cost amount weight_of members_of earlier duplicates_of count computes_by
  computed few all = listed (problem L) (computes_by L constraints few all)

  pub yields_by : (room : ℕ) (Ps : List Plan) → T (fine? L room) → T (reads_all? L constraints)
      → ((few : entry_count L ≤ 255) (all : AllRead L constraints) → computed few all ≡ Ps) → Yields L room Ps
  unfolding computed
  yields_by room Ps fine read same =
      let all = all_read L constraints read in
      let sane = sane_by L room fine all in
      let few : entry_count L ≤ 255 = omega (arith, few_entries L room sane) in
      record {
        unrefused = unrefused L room sane;
        listing = rw (same few all) at (listing_exists (problem L) (computes_by L constraints few all));
      }
