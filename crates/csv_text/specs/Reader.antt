-- What the readers of the parts of a sheet answer: how many bytes of a text a reader has used, and what they say.
use Rattle.std.specs.Prelude.{◌≡◌, List, [], ◌∷◌, ◌++◌, ◌⊎◌, ℕ, ◌+◌, ◌≤◌, ◌<◌, length, get_or, take, Option, MatchOption}
use Rattle.basis.specs.Bytes.{All}
use Rattle.constraint.specs.Numeral.{value}
use Rattle.csv_text.specs.declared.line.Release.{Release}
use Rattle.csv_text.specs.declared.line.EntryParts.{EntryParts}
use Rattle.csv_text.specs.declared.line.SlotParts.{SlotParts}
use Rattle.csv_text.specs.declared.line.Record.{Record}
use Rattle.csv_text.specs.declared.line.Record.TheVariants.{Entry, Slot}
use Rattle.csv_text.specs.Layout.{crlf, header, Number, Line, entry, slot, written, EntryLine, SlotLine, LineOk}

-- a text begins with a word
abbrev pub Begins : List ℕ → List ℕ → Type 0
Begins word text = (s : List ℕ) × (text ≡ word ++ s)

-- a record may end here: the text does, or goes on with CR LF
abbrev pub AtEnd : List ℕ → Type 0
AtEnd s = (s ≡ []) ⊎ Begins crlf s

-- a text whose first record is the header
abbrev pub Headed : List ℕ → Type 0
Headed text = (s : List ℕ) × AtEnd s × (text ≡ header ++ s)

-- the first r bytes of a text have P, and the next has not
pub record Run (P : ℕ → Type 0) (text : List ℕ) (r : ℕ) : Type 0 where
  pub within : r ≤ length text
  pub each : All P (take r text)
  pub stops : r < length text → ¬ P (get_or text r 0)

-- no field that has P stands in front of the byte a
abbrev pub NoField : (List ℕ → Type 0) → ℕ → List ℕ → Type 0
NoField P a text = (bs s : List ℕ) → P bs → ¬ (text ≡ bs ++ (a ∷ s))

-- a field that has P stands there, and is u bytes long
pub record FieldFound (P : List ℕ → Type 0) (a : ℕ) (text : List ℕ) (u : ℕ) : Type 0 where
  pub bs : List ℕ
  pub rest : List ℕ
  pub is : P bs
  pub whole : text ≡ bs ++ (a ∷ rest)
  pub size : u ≡ length bs

-- its length, if there is one
abbrev pub Field : (List ℕ → Type 0) → ℕ → List ℕ → Option ℕ → Type 0
Field P a text r = MatchOption r (NoField P a text) (FieldFound P a text)

-- a version and the comma behind it, and then s
abbrev pub dotted : (x y z s : List ℕ) → List ℕ
dotted x y z s = x ++ (46 ∷ (y ++ (46 ∷ (z ++ (44 ∷ s)))))

-- a text begins with no version and a comma
abbrev pub NoVersion : List ℕ → Type 0
NoVersion text = (x y z s : List ℕ) → Number x → Number y → Number z → ¬ (text ≡ dotted x y z s)

-- a text begins with a version and a comma, of so many bytes together
pub record VersionFound (text : List ℕ) (r : Release) : Type 0 where
  pub x : List ℕ
  pub y : List ℕ
  pub z : List ℕ
  pub rest : List ℕ
  pub major : Number x
  pub minor : Number y
  pub patch : Number z
  pub whole : text ≡ dotted x y z rest
  pub of_major : r.version.major ≡ value x
  pub of_minor : r.version.minor ≡ value y
  pub of_patch : r.version.patch ≡ value z
  pub used : r.used ≡ length x + 1 + (length y + 1) + (length z + 1)

-- the version that a text begins with, if there is one
abbrev pub Released : List ℕ → Option Release → Type 0
Released text r = MatchOption r (NoVersion text) (VersionFound text)

-- the two kinds of lines
abbrev pub IsEntry : Line → Type 0
IsEntry (entry name x y z weight) = Unit {0}
IsEntry (slot name constraint) = ⊥

abbrev pub IsSlot : Line → Type 0
IsSlot (entry name x y z weight) = ⊥
IsSlot (slot name constraint) = Unit {0}

abbrev pub IsLine : Line → Type 0
IsLine line = Unit {0}

-- a text begins with an entry's line that ends there, and its parts are these
pub record EntryFound (text : List ℕ) (e : EntryParts) : Type 0 where
  pub name : List ℕ
  pub x : List ℕ
  pub y : List ℕ
  pub z : List ℕ
  pub weight : List ℕ
  pub rest : List ℕ
  pub ok : EntryLine name x y z weight
  pub whole : text ≡ written (entry name x y z weight) ++ rest
  pub ends : AtEnd rest
  pub of_name : e.name ≡ length name
  pub of_major : e.version.major ≡ value x
  pub of_minor : e.version.minor ≡ value y
  pub of_patch : e.version.patch ≡ value z
  pub of_weight : e.weight ≡ value weight
  pub used : e.used ≡ length (written (entry name x y z weight))

-- the same of a slot's line
pub record SlotFound (text : List ℕ) (e : SlotParts) : Type 0 where
  pub name : List ℕ
  pub constraint : List ℕ
  pub rest : List ℕ
  pub ok : SlotLine name constraint
  pub whole : text ≡ written (slot name constraint) ++ rest
  pub ends : AtEnd rest
  pub of_name : e.name ≡ length name
  pub of_constraint : e.constraint ≡ length constraint
  pub used : e.used ≡ length (written (slot name constraint))

-- no line of the kind K begins the text
abbrev pub NoLine : (Line → Type 0) → List ℕ → Type 0
NoLine K text = (line : Line) → K line → LineOk line → (s : List ℕ) → AtEnd s → ¬ (text ≡ written line ++ s)

-- what the readers of one kind answer
abbrev pub ParsesEntry : List ℕ → Option EntryParts → Type 0
ParsesEntry text r = MatchOption r (NoLine IsEntry text) (EntryFound text)

abbrev pub ParsesSlot : List ℕ → Option SlotParts → Type 0
ParsesSlot text r = MatchOption r (NoLine IsSlot text) (SlotFound text)

-- a record's line, of either kind
abbrev pub RecordFound : List ℕ → Record → Type 0
RecordFound text (Entry e) = EntryFound text e
RecordFound text (Slot e) = SlotFound text e

-- a text begins with a line that ends there; or with none
abbrev pub Parses : List ℕ → Option Record → Type 0
Parses text r = MatchOption r (NoLine IsLine text) (RecordFound text)
