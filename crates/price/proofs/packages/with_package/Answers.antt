-- `price::packages::with_package` meets its contract.
use mathlib.Core.Path.{refl}
use Rattle.price.proofs.Filling.{named_more}
use Rattle.price.proofs.packages.with_package.Goals as goal

pub returns : goal.returns
returns c = named_more _ _ _ _ refl refl
