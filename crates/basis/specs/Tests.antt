-- A test, of a program or of a computation, that tells exactly whether a proposition holds.
use Rattle.std.specs.Prelude.{Bool, T}

pub record Decides (b : Bool) (A : Type 0) : Type 0 where
  pub sure : T b → A
  pub full : A → T b
