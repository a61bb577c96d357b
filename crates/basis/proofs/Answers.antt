-- Tests as a program answers and asks them: what holds after a test that came out true or false, and the test true or false itself as an answer.
use mathlib.Core.Path.{◌≡◌}
use mathlib.Core.Bool.{Bool, true, false, not}
use borrow.Author.Tests.{not-true, not-false}
use Rattle.basis.specs.Tests.{Decides}

-- the test came out true, or false
pub holds : {b : Bool} {A : Type 0} → Decides b A → b ≡ true → A
holds {b} {A} d e = d.sure (rw e tt)

pub fails : {b : Bool} {A : Type 0} → Decides b A → b ≡ false → ¬ A
fails {b} {A} d e a = rw e at (d.full a)

-- the same of a test that is asked negated
pub denied : {b : Bool} {A : Type 0} → Decides b A → not b ≡ true → ¬ A
denied {b} {A} d e = fails d (not-true b e)

pub granted : {b : Bool} {A : Type 0} → Decides b A → not b ≡ false → A
granted {b} {A} d e = holds d (not-false b e)

-- the answers true and false
pub answer_yes : {A : Type 0} → A → Decides true A
answer_yes a = record { sure = λ t. a; full = λ a'. tt }

pub answer_no : {A : Type 0} → ¬ A → Decides false A
answer_no n = record { sure = λ t. absurd t; full = λ a. n a }
