-- `constraint::word::begins` meets its contract: a text begins with a word exactly if the two agree in all of it.
use native.Mathlib.Omega.{arith}
use Rattle.std.proofs.lemmas.Bool.Decides.{nat_tests}
use Rattle.constraint.proofs.Beginnings.{agreed_word, agreed_all}
use Rattle.constraint.proofs.word.begins.Goals as goal

pub returns : goal.returns
returns c =
    record {
      sure = λ t. agreed_word c.agreed.ensures (grind (arith, nat_tests));
      full = λ b. let whole = agreed_all c.agreed.ensures b in grind (arith, nat_tests);
    }
