-- The two shortest listings of the P table, and where they end: the root alone, which has one plan, and a need that nothing meets, which leaves none.
use mathlib.Core.List.{[], ◌∷◌}
use mathlib.Core.Logic.{inl, inr}
use mathlib.Core.Path.{refl}
use Rattle.basis.proofs.Rows.{gives_after}
use Rattle.constraint.specs.Meaning.{any}
use Rattle.pacsolve.specs.Plan.{plan}
use Rattle.pacsolve.specs.Listing.{from_the_start, after, NoneLeft}
use Rattle.pacsolve.proofs.Listing.{onward_from_listing, onward_tail, onward_end}
use Rattle.catalogue.specs.Refusals.{rows}
use Rattle.catalogue.specs.Gives.{problem}
use Rattle.lister.specs.Answers.{refused}
use Rattle.demands.specs.Claims.{Yields}
use Rattle.demands.specs.Bench.{alone, RootAlone, unmet, NeedUnmet}
use Rattle.demands.proofs.Listed.{computed, yields_by}

alone_plans : Yields alone 0 (plan 1 [] ∷ [])
unfolding alone computed
alone_plans = yields_by alone (λ s. any) 0 _ tt tt (λ few all. refl)

alone_none_after : NoneLeft (problem alone) (after (plan 1 []))
alone_none_after = let p = problem alone in onward_end p (onward_tail p (onward_from_listing p alone_plans.listing))

-- next tests the plan that it is given before it looks for one after it
pub root_alone : RootAlone
root_alone =
    record {
      plans = alone_plans;
      none_after = alone_none_after;
      then_eleven =
          refused
          (gives_after (rows alone 0) _ 11 alone_plans.unrefused
          (inr (λ unsound. unsound (alone_plans.listing.good (plan 1 []) (inl refl)).sound, inl (alone_none_after, refl))))
          refl refl;
    }

unmet_plans : Yields unmet 1 []
unfolding unmet computed
unmet_plans = yields_by unmet (λ s. any) 1 _ tt tt (λ few all. refl)

unmet_none : NoneLeft (problem unmet) from_the_start
unmet_none = onward_end (problem unmet) (onward_from_listing (problem unmet) unmet_plans.listing)

pub need_unmet : NeedUnmet
need_unmet =
    record {
      plans = unmet_plans;
      none_at_all = unmet_none;
      eleven_at_once = λ byte. refused (gives_after (rows unmet 1) _ 11 unmet_plans.unrefused (inl (unmet_none, refl))) refl refl;
    }
