-- The loop catalogue of the P table.
use mathlib.Core.Path.{refl}
use Rattle.constraint.specs.Meaning.{any}
use Rattle.catalogue.specs.Gives.{npm, pip}
use Rattle.demands.specs.Claims.{forbidden, allowed}
use Rattle.demands.specs.Bench.{loop, LoopCatalogue}
use Rattle.demands.proofs.Listed.{computed, yields_by}

pub loop_catalogue : LoopCatalogue
unfolding loop computed
loop_catalogue =
    record {
      npm_allowed = yields_by (loop npm allowed) (λ s. any) 3 _ tt tt (λ few all. refl);
      npm_forbidden = yields_by (loop npm forbidden) (λ s. any) 3 _ tt tt (λ few all. refl);
      pip_forbidden = yields_by (loop pip forbidden) (λ s. any) 3 _ tt tt (λ few all. refl);
    }
