-- The text of the P table: its bytes are in the layout, and the tables that its lines say give the two plans.
use mathlib.Core.List.{[], ◌∷◌}
use mathlib.Core.Logic.{inr}
use mathlib.Core.Path.{refl}
use Prim.Native.Nat.{ℕ}
use native.Mathlib.Omega.{arith}
use lib.ListN.{get_or}
use Rattle.constraint.specs.Meaning.{Constraint, any, bound, at_most, no_less, caret}
use Rattle.catalogue.specs.Gives.{cargo, pip}
use Rattle.csv_text.specs.Layout.{LineOk, Lays}
use Rattle.csv_text.proofs.Outcome.{read_of}
use Rattle.demands.specs.Claims.{version}
use Rattle.demands.specs.Bench.{box_text, box_lines, box, TheInput}
use Rattle.demands.proofs.Tested.{all_tested}
use Rattle.demands.proofs.Lines.{line_tested}
use Rattle.demands.proofs.Listed.{computed, yields_by}

box_lays : Lays box_text box_lines
unfolding box_text box_lines
box_lays = record { whole = inr refl; each = (all_tested LineOk line_tested box_lines).1.sure tt; first = tt; short = omega arith }

-- what the five slots' parts are read as
wants : ℕ → Constraint
wants s =
    get_or (any ∷ bound caret (version 1 0 0) ∷ bound no_less (version 2 0 0) ∷ bound caret (version 1 0 0) ∷ bound at_most (version 1 9 9) ∷ []) s any

pub the_input : TheInput
unfolding box_text box_lines box wants computed
the_input =
    record {
      lays = box_lays;
      read = λ entries slots e s. read_of entries slots box_lays e s (omega arith) (omega arith) (omega arith);
      plans = yields_by (box cargo) wants 5 _ tt tt (λ few all. refl);
      first_cost = refl;
      second_cost = refl;
      under_pip = yields_by (box pip) wants 5 _ tt tt (λ few all. refl);
    }
