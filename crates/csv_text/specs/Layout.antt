-- The layout of a catalogue's text: RFC 4180 records under a fixed header. As with constraints there is no parser in
-- this: a text is in the layout if it is the text of some lines.
use Rattle.std.specs.Prelude.{◌≡◌, List, [], ◌∷◌, ◌++◌, ◌⊎◌, ℕ, ◌≤◌, length}
use Rattle.basis.specs.Bytes.{bytes, All}
use Rattle.constraint.specs.Numeral.{Numeral, value}

abbrev pub header : List ℕ
header = bytes "package,version,weight,needs,constraint"

abbrev pub crlf : List ℕ
crlf = 13 ∷ 10 ∷ []

-- what a record declares, by the bytes of its fields: an entry, its name, the three numbers of its version and its weight; or a slot of the entry
-- last declared, the name that it wants and its constraint
pub data Line : Type 0 where
  entry : (name x y z weight : List ℕ) → Line
  slot : (name constraint : List ℕ) → Line

-- a record's bytes. An entry has the last two fields empty, a slot the first three
abbrev pub written : Line → List ℕ
written (entry name x y z weight) = name ++ (bytes "," ++ (x ++ (bytes "." ++ (y ++ (bytes "." ++ (z ++ (bytes "," ++ (weight ++ bytes ",,"))))))))
written (slot name constraint) = bytes ",,," ++ (name ++ (bytes "," ++ constraint))

-- a to z, 0 to 9 and -
abbrev pub NameByte : ℕ → Type 0
NameByte b = ((97 ≤ b) × (b ≤ 122)) ⊎ (((48 ≤ b) × (b ≤ 57)) ⊎ (b ≡ 45))

-- a name: 1 to 32 such bytes
pub record Name (bs : List ℕ) : Type 0 where
  pub filled : 1 ≤ length bs
  pub short : length bs ≤ 32
  pub plain : All NameByte bs

-- no field holds a comma, quote, CR or LF
pub record FieldByte (b : ℕ) : Type 0 where
  pub no_comma : ¬ (b ≡ 44)
  pub no_quote : ¬ (b ≡ 34)
  pub no_cr : ¬ (b ≡ 13)
  pub no_lf : ¬ (b ≡ 10)

-- a number as in constraints
abbrev pub Number : List ℕ → Type 0
Number bs = Numeral bs (value bs)

pub record EntryLine (name x y z weight : List ℕ) : Type 0 where
  pub named : Name name
  pub major : Number x
  pub minor : Number y
  pub patch : Number z
  pub weighed : Number weight

-- any other byte may stand in the constraint field, which is only checked for being non-empty
pub record SlotLine (name constraint : List ℕ) : Type 0 where
  pub named : Name name
  pub filled : 1 ≤ length constraint
  pub plain : All FieldByte constraint

abbrev pub LineOk : Line → Type 0
LineOk (entry name x y z weight) = EntryLine name x y z weight
LineOk (slot name constraint) = SlotLine name constraint

-- a slot before any entry is outside the layout
abbrev pub EntryFirst : List Line → Type 0
EntryFirst [] = Unit {0}
EntryFirst (entry name x y z weight ∷ lines) = Unit {0}
EntryFirst (slot name constraint ∷ lines) = ⊥

-- CR LF stands between records, and may stand after the last: what follows the header
abbrev pub body : List Line → List ℕ
body [] = []
body (line ∷ lines) = crlf ++ (written line ++ body lines)

-- the text is the header and the lines, in at most 65,535 bytes
pub record Lays (text : List ℕ) (lines : List Line) : Type 0 where
  pub whole : (text ≡ header ++ body lines) ⊎ (text ≡ header ++ (body lines ++ crlf))
  pub each : All LineOk lines
  pub first : EntryFirst lines
  pub short : length text ≤ 65535
