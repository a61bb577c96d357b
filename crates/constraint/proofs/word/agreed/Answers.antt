-- `constraint::word::agreed` meets its contract: it counts the pairs of bytes that are alike before the first that are not.
use Rattle.std.proofs.Common.{rules, tests}
use Rattle.std.proofs.lemmas.Iterator.{YieldsList-from_slice, YieldsList-from_zip}
use Rattle.std.proofs.lemmas.Iterator.Consumers.{count_from_yields_List}
use Rattle.std.proofs.lemmas.Iterator.Search.{YieldsList-from_take_while}
use Rattle.std.proofs.lemmas.List.Folds.{length-prefix_len}
use Rattle.constraint.proofs.Words.{alike, agrees_zip}
use Rattle.constraint.proofs.word.agreed.Goals as goal

pub returns : goal.returns
returns c =
    let size =
    count_from_yields_List c.take_while.result c.count.result c.count.ensures.ran
    (YieldsList-from_take_while _ alike
    (YieldsList-from_zip (YieldsList-from_slice c.args.rest.now (cc)) (YieldsList-from_slice c.args.word.now (cc)))
    (cc) (cc) (λ x b q k. search (rules, tests))) in
    rw (size, length-prefix_len) (agrees_zip c.args.rest.now c.args.word.now)
