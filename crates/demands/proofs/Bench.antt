-- THE P TABLE HOLDS: the one theorem over all worked examples.
use Rattle.demands.specs.Bench.{PTable}
use Rattle.demands.proofs.Carets.{caret_lines}
use Rattle.demands.proofs.Input.{the_input}
use Rattle.demands.proofs.Loop.{loop_catalogue}
use Rattle.demands.proofs.Ends.{root_alone, need_unmet}

pub p_table : PTable
p_table = record { carets = caret_lines; the_input = the_input; loop_catalogue = loop_catalogue; root_alone = root_alone; need_unmet = need_unmet }
