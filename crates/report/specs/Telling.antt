-- How far a plan's members are told, and how far the plans of a listing are.
use Rattle.std.specs.Prelude.{◌≡◌, List, [], ◌∷◌, ◌++◌, ℕ, suc, ◌+◌, ◌*◌, ◌≤◌, ◌<◌, eqb, length, take, Option, MatchOption}
use Rattle.basis.specs.Rows.{GivesNone}
use Rattle.bitset.specs.Bits.{bit}
use Rattle.pacsolve.specs.Plan.{Plan, plan}
use Rattle.pacsolve.specs.Listing.{Listing}
use Rattle.catalogue.specs.declared.Lent.{Lent as Lending}
use Rattle.catalogue.specs.Refusals.{rows}
use Rattle.catalogue.specs.Gives.{problem}
use Rattle.catalogue.specs.Tables.{lent_of}
use Rattle.csv_text.specs.declared.line.EntryParts.{EntryParts}
use Rattle.csv_text.specs.Layout.{Line, Lays}
use Rattle.csv_text.specs.Says.{entry_count, slot_count, entry_table, slot_table}
use Rattle.csv_text.specs.Reader.{EntryFound}
use Rattle.csv_text.specs.Walk.{Walked}
use Rattle.csv_text.specs.Filling.{Limited}
use Rattle.report.specs.declared.members.Place.{Place}
use Rattle.report.specs.declared.members.Shown.{Shown}
use Rattle.report.specs.declared.put.Output.{Output}
use Rattle.report.specs.Output.{record_of, present, members, shown, lent_by, read_rows, Prints}
use Rattle.report.specs.Adding.{Room, Adds}

-- the longest record of a member, in bytes: a digit, a comma, 32 letters, a comma, three numbers of five digits with two dots, CR LF
abbrev pub longest : ℕ
longest = 54

-- the longest records of one plan: 64 members
abbrev pub longest_plan : ℕ
longest_plan = 3456

-- an entry's line begins the text, the plan's number is one digit, and there is room for the entry's record
pub record MemberRoom (text : List ℕ) (e : EntryParts) (s : Shown) (o : Output) : Type 0 where
  pub found : EntryFound text e
  pub one_digit : s.number < 10
  pub room : Room o longest

-- its record is put where it is a member
abbrev pub MemberTold : (text : List ℕ) (e : EntryParts) (s : Shown) (index : ℕ) (o o' : Output) → Type 0
MemberTold text e s index o o' = (f : EntryFound text e) → Adds o (present (eqb (bit s.set index) 1) (record_of s.number f.name f.x f.y f.z)) o'

-- of the text's lines, those done are passed, and the records of the members among them are put
pub record Telling (text : List ℕ) (s : Shown) (start : Output) (lines done : List Line) (p : Place) (o : Output) : Type 0 where
  pub limited : Limited text lines
  pub one_digit : s.number < 10
  pub room : Room start longest_plan
  pub walked : Walked text done p.at
  pub declared : p.entries ≡ entry_count done
  pub told : Adds start (members s.number s.set done) o

-- some lines are passed, and more follow
pub record Underway (text : List ℕ) (s : Shown) (p : Place) (o : Output) : Type 0 where
  pub start : Output
  pub lines : List Line
  pub done : List Line
  pub telling : Telling text s start lines done p o
  pub more : p.at + 2 < length text

-- one line more is passed
pub record Tells (text : List ℕ) (s : Shown) (p : Place) (o : Output) (r : Place) (o' : Output) : Type 0 where
  pub onward : p.at < r.at
  pub told : (start : Output) (lines done : List Line) → Telling text s start lines done p o → (line : Line) × Telling text s start lines (done ++ (line ∷ [])) r o'

-- what telling all members starts from, and what it leaves
pub record Tellable (text : List ℕ) (s : Shown) (o : Output) : Type 0 where
  pub lines : List Line
  pub limited : Limited text lines
  pub one_digit : s.number < 10
  pub room : Room o longest_plan

abbrev pub AllTold : (text : List ℕ) (s : Shown) (o o' : Output) → Type 0
AllTold text s o o' = (lines : List Line) → Lays text lines → Adds o (members s.number s.set lines) o'

-- what is lent is what the text's lines say, and no refusal of read applies
pub record Catalogued (lines : List Line) (l : Lending) : Type 0 where
  pub accepted : GivesNone (read_rows l.text.now)
  pub limited : Limited l.text.now lines
  pub lends : lent_of l ≡ lent_by l.text.now lines

-- nothing is printed yet, and there is room for eight plans
pub record Empty (o : Output) : Type 0 where
  pub unfilled : o.filled ≡ 0
  pub roomy : 32768 ≤ length o.bytes.now

-- of the listing's plans those before the last one are shown, and the last one too, which the set and the plan buffer hold; more follow
pub record Showing (l : Lending) (lines : List Line) (table : List ℕ) (start : Output) (before more : List Plan) (s : Shown) (o : Output) : Type 0 where
  pub catalogued : Catalogued lines l
  pub size : length table ≡ slot_count lines
  pub unrefused : GivesNone (rows (lent_by l.text.now lines) (slot_count lines))
  pub listing : Listing (problem (lent_by l.text.now lines)) (before ++ (plan s.set table ∷ more))
  pub numbered : s.number ≡ suc (length before)
  pub few : s.number ≤ 8
  pub empty : Empty start
  pub told : Adds start (shown lines (before ++ (plan s.set table ∷ []))) o
  pub room : o.filled ≤ 22 + longest_plan * s.number

-- fewer than eight plans are shown
pub record Unfinished (l : Lending) (table : List ℕ) (s : Shown) (o : Output) : Type 0 where
  pub lines : List Line
  pub start : Output
  pub before : List Plan
  pub more : List Plan
  pub showing : Showing l lines table start before more s o
  pub fewer : s.number < 8

-- whatever was shown before is shown with what came since
abbrev pub Carries : (l : Lending) (table : List ℕ) (s : Shown) (o : Output) (table' : List ℕ) (s' : Shown) (o' : Output) → Type 0
Carries l table s o table' s' o' =
    (lines : List Line) (start : Output) (before more : List Plan) → Showing l lines table start before more s o
    → (before' : List Plan) × (more' : List Plan) × Showing l lines table' start before' more' s' o'

-- one plan more is shown
pub record Further (l : Lending) (table : List ℕ) (s : Shown) (o : Output) (table' : List ℕ) (o' : Output) (s' : Shown) : Type 0 where
  pub further : s.number < s'.number
  pub carries : Carries l table s o table' s' o'

-- there is none, and nothing is put
pub record NoFurther (l : Lending) (table : List ℕ) (s : Shown) (o o' : Output) : Type 0 where
  pub kept : o' ≡ o
  pub none : (lines : List Line) (start : Output) (before more : List Plan) → Showing l lines table start before more s o → more ≡ []

abbrev pub Advances : (l : Lending) (table : List ℕ) (s : Shown) (o : Output) (r : Option Shown) (table' : List ℕ) (o' : Output) → Type 0
Advances l table s o r table' o' = MatchOption r (NoFurther l table s o o') (Further l table s o table' o')

-- the least plan is in the plan buffer, and there is room for eight
pub record FirstKnown (l : Lending) (set : ℕ) (table : List ℕ) (o : Output) : Type 0 where
  pub lines : List Line
  pub more : List Plan
  pub catalogued : Catalogued lines l
  pub size : length table ≡ slot_count lines
  pub unrefused : GivesNone (rows (lent_by l.text.now lines) (slot_count lines))
  pub listing : Listing (problem (lent_by l.text.now lines)) (plan set table ∷ more)
  pub empty : Empty o

-- at most eight plans of the listing are shown
abbrev pub AllShown : (text : List ℕ) (o o' : Output) → Type 0
AllShown text o o' =
    (lines : List Line) → Lays text lines → (Ps : List Plan) → Listing (problem (lent_by text lines)) Ps → Adds o (shown lines (take 8 Ps)) o'

-- what is printed for the text is put
pub record PrintedIn (text : List ℕ) (o o' : Output) : Type 0 where
  pub out : List ℕ
  pub prints : Prints text out
  pub put : Adds o out o'

-- what the output for a catalogue starts from: the tables of a text, and a plan buffer of one byte per slot
pub record Listable (text entries slots : List ℕ) (o : Output) : Type 0 where
  pub lines : List Line
  pub accepted : GivesNone (read_rows text)
  pub limited : Limited text lines
  pub entered : entries ≡ entry_table lines
  pub slotted : slots ≡ slot_table lines
  pub empty : Empty o

pub record Showable (l : Lending) (table : List ℕ) (o : Output) : Type 0 where
  pub lines : List Line
  pub catalogued : Catalogued lines l
  pub size : length table ≡ slot_count lines
  pub empty : Empty o
