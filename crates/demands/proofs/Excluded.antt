-- Errors of reasoning about plans are excluded by the definitions.
use mathlib.Core.List.{[], ◌∷◌}
use mathlib.Core.Logic.{inl, inr}
use mathlib.Core.Path.{refl}
use Prim.Native.Nat.{ℕ}
use lib.Dec.{lit≤}
use lib.ListN.{get_or}
use Rattle.basis.specs.Rows.{Gives}
use Rattle.constraint.specs.Meaning.{Constraint, any, bound, equal}
use Rattle.pacsolve.specs.Plan.{Rooted, Named, Fitting, Consistent, Acyclic, faults}
use Rattle.pacsolve.proofs.Walks.{hop?}
use Rattle.pacsolve.proofs.Conditions.{Computes, rooted_decides, reached_decides, named_decides, fitting_decides, consistent_decides, acyclic_decides}
use Rattle.catalogue.specs.Gives.{problem}
use Rattle.catalogue.proofs.Computed.{computes_by}
use Rattle.demands.specs.Claims.{version, forbidden, allowed}
use Rattle.demands.specs.Excluded.{plug_in, with_plug_in, dead_end, cheap_cycle, tie, twice, Excluded}
use Rattle.demands.proofs.Unrefused.{all_read}
use Rattle.demands.proofs.Listed.{computed, yields_by}

plug_in_rooted : Rooted (problem plug_in) with_plug_in
unfolding plug_in
plug_in_rooted = (rooted_decides (problem plug_in) with_plug_in).sure tt

plug_in_unreached : Gives (faults (problem plug_in) with_plug_in) 2
unfolding plug_in hop?
plug_in_unreached = inr (λ n. n plug_in_rooted, inl ((reached_decides (problem plug_in) with_plug_in plug_in_rooted).full, refl))

plug_in_else_sound : Rooted (problem plug_in) with_plug_in
    × (Named (problem plug_in) with_plug_in
    × (Fitting (problem plug_in) with_plug_in × (Consistent (problem plug_in) with_plug_in × Acyclic (problem plug_in) with_plug_in)))
unfolding plug_in hop? computes_by
plug_in_else_sound =
    let p = problem plug_in in
    let c : Computes p = computes_by plug_in (λ s. any) (lit≤ tt) (all_read plug_in (λ s. any) tt) in (
      plug_in_rooted,
      (
        (named_decides p with_plug_in).sure tt,
        (
          (fitting_decides p c with_plug_in).sure tt,
          ((consistent_decides p c with_plug_in plug_in_rooted).sure tt, (acyclic_decides p c with_plug_in plug_in_rooted).sure tt),
        ),
      ),
    )

-- the last slot of the cheap cycle wants one version, the others any
wants : ℕ → Constraint
wants s = get_or (any ∷ any ∷ bound equal (version 2 0 0) ∷ []) s any

pub excluded : Excluded
unfolding plug_in dead_end cheap_cycle tie twice wants computed
excluded =
    record {
      plug_in_left_out = yields_by plug_in (λ s. any) 2 _ tt tt (λ few all. refl);
      plug_in_unreached = plug_in_unreached;
      plug_in_else_sound = plug_in_else_sound;
      older_taken = yields_by dead_end (λ s. any) 2 _ tt tt (λ few all. refl);
      cheapest_has_cycle = yields_by (cheap_cycle allowed) wants 3 _ tt tt (λ few all. refl);
      dearer_without = yields_by (cheap_cycle forbidden) wants 3 _ tt tt (λ few all. refl);
      tied = refl;
      tie_listed = yields_by tie (λ s. any) 1 _ tt tt (λ few all. refl);
      choices_differ = yields_by twice (λ s. any) 2 _ tt tt (λ few all. refl);
    }
