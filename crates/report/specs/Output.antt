-- What the program prints for a text.
use Rattle.std.specs.Prelude.{◌≡◌, Bool, true, false, List, [], ◌∷◌, ◌++◌, ℕ, suc, ◌+◌, ◌/◌, ◌%◌, ◌≤◌, eqb, ltb, length, take, drop, replicate}
use Rattle.basis.specs.Bytes.{bytes}
use Rattle.basis.specs.Rows.{Row, Gives, GivesNone}
use Rattle.bitset.specs.Bits.{bit}
use Rattle.pacsolve.specs.Plan.{Plan}
use Rattle.pacsolve.specs.Listing.{Listing, from_the_start}
use Rattle.catalogue.specs.declared.Settings.{Settings}
use Rattle.catalogue.specs.Tables.{Lent, lent}
use Rattle.catalogue.specs.Gives.{cargo, problem}
use Rattle.lister.specs.Answers.{ask_rows}
use Rattle.csv_text.specs.Layout.{crlf, Line, entry, slot, Lays}
use Rattle.csv_text.specs.Says.{slot_count, entry_table, slot_table}
use Rattle.csv_text.specs.Reading.{rows}

-- the digits of a number, one or two of them
abbrev pub one_or_two : Bool → ℕ → List ℕ
one_or_two true n = (48 + n) ∷ []
one_or_two false n = (48 + n / 10) ∷ (48 + n % 10) ∷ []

-- a number below 100 in decimal
abbrev pub decimal : ℕ → List ℕ
decimal n = one_or_two (ltb n 10) n

-- a member's record: the plan's number, and the text's own package and version fields
abbrev pub record_of : (number : ℕ) (name x y z : List ℕ) → List ℕ
record_of number name x y z = decimal number ++ (bytes "," ++ (name ++ (bytes "," ++ (x ++ (bytes "." ++ (y ++ (bytes "." ++ (z ++ crlf))))))))

-- these bytes where a test holds
abbrev pub present : Bool → List ℕ → List ℕ
present true bs = bs
present false bs = []

-- the records of a plan's members: they rise by entry number, since the lines declare the entries in that order. `declared` entries stand before these lines
abbrev pub members_from : (number set declared : ℕ) → List Line → List ℕ
members_from number set declared [] = []
members_from number set declared (entry name x y z weight ∷ lines) =
    present (eqb (bit set declared) 1) (record_of number name x y z) ++ members_from number set (suc declared) lines
members_from number set declared (slot name constraint ∷ lines) = members_from number set declared lines

abbrev pub members : (number set : ℕ) → List Line → List ℕ
members number set lines = members_from number set 0 lines

-- the plans' records, the first plan with the given number
abbrev pub plans_from : ℕ → List Line → List Plan → List ℕ
plans_from number lines [] = []
plans_from number lines (P ∷ Ps) = members number P.set lines ++ plans_from (suc number) lines Ps

-- root 0, cargo, cycles forbidden
abbrev pub settings : Settings
settings = record { root = 0; mode = cargo; cycles = 0 }

-- what the lines say, with the program's settings and objectives 0 1 2
unfoldable pub lent_by : List ℕ → List Line → Lent
lent_by text lines = lent (entry_table lines) (slot_table lines) text settings (0 ∷ 1 ∷ 2 ∷ [])

-- read's refusals, with tables of the right size
abbrev pub read_rows : List ℕ → List Row
read_rows text = rows text (replicate 320 0) (replicate 1024 0)

-- the refusals of the first plan, with a plan buffer of one byte per slot
abbrev pub first_rows : List ℕ → List Line → List Row
first_rows text lines = ask_rows (lent_by text lines) (slot_count lines) from_the_start

-- the header, and plans numbered from 1
abbrev pub shown : List Line → List Plan → List ℕ
shown lines Ps = bytes "plan,package,version" ++ (crlf ++ plans_from 1 lines Ps)

-- on a refusal only the record `refusal` and a record with its number
abbrev pub refusing : ℕ → List ℕ
refusing n = bytes "refusal" ++ (crlf ++ (decimal n ++ crlf))

-- THE RELATION: for a text, what is printed: a refusal of read or of the first plan, or at most eight plans of the listing. That 11 after a plan just ends the
-- output needs no words: the listing ends there
pub data Prints (text out : List ℕ) : Type 0 where
  unread : (n : ℕ) → Gives (read_rows text) n → out ≡ refusing n → Prints text out
  refused : (lines : List Line) (n : ℕ) → GivesNone (read_rows text) → Lays text lines → Gives (first_rows text lines) n → out ≡ refusing n → Prints text out
  listed : (lines : List Line) (Ps : List Plan) → GivesNone (read_rows text) → Lays text lines → GivesNone (first_rows text lines)
      → Listing (problem (lent_by text lines)) Ps → out ≡ shown lines (take 8 Ps) → Prints text out

-- what is printed stands in front of a lent buffer, the rest of which is as it was; r is its length
pub record Printed (text lent : List ℕ) (r : ℕ) (buffer : List ℕ) : Type 0 where
  pub out : List ℕ
  pub prints : Prints text out
  pub counted : r ≡ length out
  pub within : r ≤ length buffer
  pub written : buffer ≡ out ++ drop r lent
