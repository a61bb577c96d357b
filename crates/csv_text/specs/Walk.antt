-- How far a text has been read: the lines that are passed, and what the two passes over the text answer.
use Rattle.std.specs.Prelude.{◌≡◌, List, [], ◌∷◌, ◌++◌, ℕ, ◌+◌, ◌≤◌, ◌<◌, length, drop, Option, MatchOption}
use Rattle.basis.specs.Bytes.{All}
use Rattle.csv_text.specs.declared.count.Progress.{Progress}
use Rattle.csv_text.specs.Layout.{header, Line, LineOk, EntryFirst, body, Lays}
use Rattle.csv_text.specs.Says.{entry_count, slot_count}
use Rattle.csv_text.specs.Reader.{AtEnd}

-- the lines done are passed, and the record behind them, if there is one, begins with the CR LF at the byte `at`
pub record Walked (text : List ℕ) (done : List Line) (at : ℕ) : Type 0 where
  pub whole : text ≡ header ++ (body done ++ drop at text)
  pub there : at ≡ length header + length (body done)
  pub within : at ≤ length text
  pub each : All LineOk done
  pub first : EntryFirst done
  pub ends : AtEnd (drop at text)

-- they are counted too, in a text that is not too long
pub record Counting (text : List ℕ) (done : List Line) (p : Progress) : Type 0 where
  pub walked : Walked text done p.at
  pub entries : p.entries ≡ entry_count done
  pub slots : p.slots ≡ slot_count done
  pub short : length text ≤ 65535

-- some lines are passed, and more follow
abbrev pub Unfinished : List ℕ → Progress → Type 0
Unfinished text p = ((done : List Line) × Counting text done p) × (p.at + 2 < length text)

-- the text is outside the layout
abbrev pub Outside : List ℕ → Type 0
Outside text = (lines : List Line) → ¬ Lays text lines

-- one line more is passed
pub record Onward (text : List ℕ) (p next : Progress) : Type 0 where
  pub further : p.at < next.at
  pub counting : (done : List Line) → Counting text done p → (line : Line) × Counting text (done ++ (line ∷ [])) next

-- that, or the text is outside the layout
abbrev pub Advances : List ℕ → Progress → Option Progress → Type 0
Advances text p r = MatchOption r (Outside text) (Onward text p)

-- the text is in the layout, with so many entries and slots
pub record Counted (text : List ℕ) (p : Progress) : Type 0 where
  pub lines : List Line
  pub lays : Lays text lines
  pub entries : p.entries ≡ entry_count lines
  pub slots : p.slots ≡ slot_count lines

-- that, or the text is outside it
abbrev pub Counts : List ℕ → Option Progress → Type 0
Counts text r = MatchOption r (Outside text) (Counted text)
