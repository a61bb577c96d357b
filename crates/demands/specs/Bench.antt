-- The P table: worked examples, each under its line P, as data and as claims about the definitions. Constraints and the input start from their
-- bytes; the other catalogues are the lent tables, five numbers per entry and four per slot.
use Rattle.std.specs.Prelude.{◌≡◌, List, [], ◌∷◌, ◌++◌, ℕ, true, false, length, drop, Ok, Err}
use Rattle.basis.specs.Bytes.{bytes}
use Rattle.basis.specs.declared.Refusal.TheVariants.{NoPlan}
use Rattle.constraint.specs.Reading.{Answers}
use Rattle.pacsolve.specs.Plan.{plan}
use Rattle.pacsolve.specs.Cost.{cost}
use Rattle.pacsolve.specs.Listing.{from_the_start, after, NoneLeft}
use Rattle.catalogue.specs.Tables.{Lent, lent}
use Rattle.catalogue.specs.Gives.{npm, cargo, pip, problem}
use Rattle.lister.specs.Answers.{Firsts, Nexts}
use Rattle.csv_text.specs.Layout.{Line, entry, slot, Lays}
use Rattle.csv_text.specs.Says.{entry_table, slot_table}
use Rattle.csv_text.specs.Reading.{Reads}
use Rattle.demands.specs.Claims.{version, costs, settings, forbidden, allowed, Yields}

-- what the reading of a constraint answers for a version
pub record CaretLines : Type 0 where
  -- P `(^ 0 0 3)`: 0.0.3 fits, 0.0.4 and 0.1.0 don't.
  pub zero_zero_three_fits : Answers (bytes "(^ 0 0 3)") (version 0 0 3) (Ok true)
  pub zero_zero_three_later_patch : Answers (bytes "(^ 0 0 3)") (version 0 0 4) (Ok false)
  pub zero_zero_three_later_minor : Answers (bytes "(^ 0 0 3)") (version 0 1 0) (Ok false)
  -- P `(^ 0 2 1)`: 0.2.5 fits, 0.2.0 and 0.3.0 don't.
  pub zero_two_one_fits : Answers (bytes "(^ 0 2 1)") (version 0 2 5) (Ok true)
  pub zero_two_one_earlier_patch : Answers (bytes "(^ 0 2 1)") (version 0 2 0) (Ok false)
  pub zero_two_one_later_minor : Answers (bytes "(^ 0 2 1)") (version 0 3 0) (Ok false)
  -- P `(^ 1 2 3)`: 1.3.0 fits, 1.2.2 and 2.0.0 don't.
  pub one_two_three_fits : Answers (bytes "(^ 1 2 3)") (version 1 3 0) (Ok true)
  pub one_two_three_earlier_patch : Answers (bytes "(^ 1 2 3)") (version 1 2 2) (Ok false)
  pub one_two_three_later_major : Answers (bytes "(^ 1 2 3)") (version 2 0 0) (Ok false)

-- the input: a catalogue of six entries as text
unfoldable pub box_text : List ℕ
box_text =
    bytes "package,version,weight,needs,constraint\r\n"
    ++ bytes "box,1.0.0,0,,\r\n"
    ++ bytes ",,,player,*\r\n"
    ++ bytes ",,,guide,(^ 1 0 0)\r\n"
    ++ bytes "player,2.0.0,0,,\r\n"
    ++ bytes ",,,codec,(>= 2 0 0)\r\n"
    ++ bytes "player,1.4.0,5,,\r\n"
    ++ bytes ",,,codec,(^ 1 0 0)\r\n"
    ++ bytes "guide,1.1.0,0,,\r\n"
    ++ bytes ",,,codec,(<= 1 9 9)\r\n"
    ++ bytes "codec,2.0.0,0,,\r\n"
    ++ bytes "codec,1.3.0,3,,\r\n"

-- what its lines declare
unfoldable pub box_lines : List Line
box_lines =
    entry (bytes "box") (bytes "1") (bytes "0") (bytes "0") (bytes "0")
    ∷ slot (bytes "player") (bytes "*")
    ∷ slot (bytes "guide") (bytes "(^ 1 0 0)")
    ∷ entry (bytes "player") (bytes "2") (bytes "0") (bytes "0") (bytes "0")
    ∷ slot (bytes "codec") (bytes "(>= 2 0 0)")
    ∷ entry (bytes "player") (bytes "1") (bytes "4") (bytes "0") (bytes "5")
    ∷ slot (bytes "codec") (bytes "(^ 1 0 0)")
    ∷ entry (bytes "guide") (bytes "1") (bytes "1") (bytes "0") (bytes "0")
    ∷ slot (bytes "codec") (bytes "(<= 1 9 9)")
    ∷ entry (bytes "codec") (bytes "2") (bytes "0") (bytes "0") (bytes "0")
    ∷ entry (bytes "codec") (bytes "1") (bytes "3") (bytes "0") (bytes "3")
    ∷ []

-- what is lent for it: the tables that the lines say and the text, with root 0, a mode, cycles forbidden, objectives 0 1 2
unfoldable pub box : ℕ → Lent
box mode = lent (entry_table box_lines) (slot_table box_lines) box_text (settings 0 mode forbidden) (0 ∷ 1 ∷ 2 ∷ [])

pub record TheInput : Type 0 where
  -- the text is in the layout, and these are its lines
  pub lays : Lays box_text box_lines
  -- read fills lent tables of 320 and 1024 numbers with what the lines say: 6 entries, 5 slots
  pub read : (entries slots : List ℕ) → length entries ≡ 320 → length slots ≡ 1024
      → Reads box_text entries slots (Ok (record { entries = 6; slots = 5 })) (entry_table box_lines ++ drop 30 entries) (slot_table box_lines ++ drop 20 slots)
  -- P The input above: plan 1 is set 59, table 1 3 4 255 5, cost 3 4 1; plan 2 is set 45, table 2 3 255 5 5, cost 8 3 0.
  pub plans : Yields (box cargo) 5 (plan 59 (1 ∷ 3 ∷ 4 ∷ 255 ∷ 5 ∷ []) ∷ plan 45 (2 ∷ 3 ∷ 255 ∷ 5 ∷ 5 ∷ []) ∷ [])
  pub first_cost : cost (problem (box cargo)) 59 ≡ costs 3 4 1
  pub second_cost : cost (problem (box cargo)) 45 ≡ costs 8 3 0
  -- Under pip only set 45.
  pub under_pip : Yields (box pip) 5 (plan 45 (2 ∷ 3 ∷ 255 ∷ 5 ∷ 5 ∷ []) ∷ [])

-- Loop catalogue: root 0; A 1.0.0 (1); A 2.0.0 (2) needs B; B 1.0.0 (3) needs A; root needs A; all `*`. Objective 1.
-- The root is of package 0, A is package 1, B is package 2; nothing weighs anything
unfoldable pub loop : ℕ → ℕ → Lent
loop mode cycles =
    lent
    (0 ∷ 1 ∷ 0 ∷ 0 ∷ 0
    ∷ 1 ∷ 1 ∷ 0 ∷ 0 ∷ 0
    ∷ 1 ∷ 2 ∷ 0 ∷ 0 ∷ 0
    ∷ 2 ∷ 1 ∷ 0 ∷ 0 ∷ 0 ∷ [])
    (0 ∷ 1 ∷ 0 ∷ 1
    ∷ 2 ∷ 2 ∷ 0 ∷ 1
    ∷ 3 ∷ 1 ∷ 0 ∷ 1 ∷ [])
    (bytes "*") (settings 0 mode cycles) (1 ∷ [])

pub record LoopCatalogue : Type 0 where
  -- P npm, cycles allowed: tables 1 255 255, then 2 3 2, then 2 3 1, sets 3, 13, 15.
  pub npm_allowed : Yields (loop npm allowed) 3 (plan 3 (1 ∷ 255 ∷ 255 ∷ []) ∷ plan 13 (2 ∷ 3 ∷ 2 ∷ []) ∷ plan 15 (2 ∷ 3 ∷ 1 ∷ []) ∷ [])
  -- P Forbidden: 1 255 255, then 2 3 1.
  pub npm_forbidden : Yields (loop npm forbidden) 3 (plan 3 (1 ∷ 255 ∷ 255 ∷ []) ∷ plan 15 (2 ∷ 3 ∷ 1 ∷ []) ∷ [])
  -- P pip, forbidden: only 1 255 255.
  pub pip_forbidden : Yields (loop pip forbidden) 3 (plan 3 (1 ∷ 255 ∷ 255 ∷ []) ∷ [])

-- a catalogue of the root alone, with the settings of the program
unfoldable pub alone : Lent
alone = lent (0 ∷ 1 ∷ 0 ∷ 0 ∷ 0 ∷ []) [] [] (settings 0 cargo forbidden) (0 ∷ 1 ∷ 2 ∷ [])

pub record RootAlone : Type 0 where
  -- P A catalogue of the root alone, no slots: one plan, empty table, then 11.
  pub plans : Yields alone 0 (plan 1 [] ∷ [])
  pub none_after : NoneLeft (problem alone) (after (plan 1 []))
  pub then_eleven : Nexts alone 1 [] (Err NoPlan) []

-- a root whose one slot wants package 1, of which there is no entry
unfoldable pub unmet : Lent
unmet = lent (0 ∷ 1 ∷ 0 ∷ 0 ∷ 0 ∷ []) (0 ∷ 1 ∷ 0 ∷ 1 ∷ []) (bytes "*") (settings 0 cargo forbidden) (0 ∷ 1 ∷ 2 ∷ [])

pub record NeedUnmet : Type 0 where
  -- P The root needs a package without entries: 11 at once.
  pub plans : Yields unmet 1 []
  pub none_at_all : NoneLeft (problem unmet) from_the_start
  pub eleven_at_once : (byte : ℕ) → Firsts unmet (byte ∷ []) (Err NoPlan) (byte ∷ [])

-- THE TABLE: all examples marked P
pub record PTable : Type 0 where
  pub carets : CaretLines
  pub the_input : TheInput
  pub loop_catalogue : LoopCatalogue
  pub root_alone : RootAlone
  pub need_unmet : NeedUnmet
