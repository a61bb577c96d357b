-- The output that belongs to the example's text, byte by byte.
use Rattle.std.specs.Prelude.{List, ◌++◌, ℕ}
use Rattle.basis.specs.Bytes.{bytes}
use Rattle.report.specs.Output.{Prints}
use Rattle.demands.specs.Bench.{box_text}

unfoldable pub box_output : List ℕ
box_output =
    bytes "plan,package,version\r\n"
    ++ bytes "1,box,1.0.0\r\n"
    ++ bytes "1,player,2.0.0\r\n"
    ++ bytes "1,guide,1.1.0\r\n"
    ++ bytes "1,codec,2.0.0\r\n"
    ++ bytes "1,codec,1.3.0\r\n"
    ++ bytes "2,box,1.0.0\r\n"
    ++ bytes "2,player,1.4.0\r\n"
    ++ bytes "2,guide,1.1.0\r\n"
    ++ bytes "2,codec,1.3.0\r\n"

-- the definition of what is printed gives that output for that input
abbrev pub PaperPrinted : Type 0
PaperPrinted = Prints box_text box_output
