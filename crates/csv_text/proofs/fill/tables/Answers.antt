-- `csv_text::fill::tables` meets its contract. The loop's invariant: of the text's lines some are passed, and their numbers stand in front of what was lent. The measure is what is left of the text.
use mathlib.Core.Path.{refl, ◌∙◌}
use mathlib.Core.List.{[], ◌∷◌, ◌++◌}
use Rattle.csv_text.proofs.Filled.{filling_none, all_filled}
use Rattle.csv_text.proofs.fill.tables.Goals as goal

pub loop-here-init : goal.loop-here-init
loop-here-init c = (c.requires.lines, [], filling_none c.requires (c.none-names.ensures.empty c.args.text.now) (c.none-names.ensures.room c.args.text.now c.requires.limited.lays.short), refl, refl)

pub loop-here-preserved : goal.loop-here-preserved
loop-here-preserved c =
    let r = c.next-here.ensures.filled _ _ c.loop-here.invariant.0 c.loop-here.invariant.1 c.loop-here.invariant.2 in
    (c.loop-here.invariant.0, c.loop-here.invariant.1 ++ (r.0 ∷ []), r.1, c.next-here.auto.entries ∙ c.loop-here.invariant.3, c.next-here.auto.slots ∙ c.loop-here.invariant.4)

pub returns : goal.returns
returns c = all_filled c.loop-here.invariant.2 c.loop-here-test.false
