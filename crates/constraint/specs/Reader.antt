-- What the readers of the parts of a constraint answer: how many bytes of a text a reader has used, and what they spell.
use Rattle.std.specs.Prelude.{◌≡◌, List, [], ◌∷◌, ◌++◌, ◌⊎◌, ℕ, ◌+◌, ◌*◌, ◌-◌, ◌≤◌, ◌<◌, length, get_or, take, Option, None, Some, MatchOption}
use Rattle.basis.specs.Bytes.{bytes}
use Rattle.constraint.specs.declared.Version.{Version}
use Rattle.constraint.specs.declared.Spelled.{Spelled}
use Rattle.constraint.specs.declared.range.Sign.{Sign}
use Rattle.constraint.specs.declared.reader.Sides.{Sides}
use Rattle.constraint.specs.Meaning.{Bound, Constraint, any, bound, both, either, depth}
use Rattle.constraint.specs.Numeral.{Digit, Numeral}
use Rattle.constraint.specs.Range.{bound_of}
use Rattle.constraint.specs.Selection.{Picks}
use Rattle.constraint.specs.Spelling.{sign, Spells}

-- r is the length of the longest beginning that a text and a word have in common
pub record Agrees (text word : List ℕ) (r : ℕ) : Type 0 where
  pub within_text : r ≤ length text
  pub within_word : r ≤ length word
  pub same : take r text ≡ take r word
  pub stops : r < length text → r < length word → ¬ (get_or text r 0 ≡ get_or word r 0)

-- the number before a byte, which is 0 where there is none
abbrev pub so_far : Option ℕ → ℕ
so_far None = 0
so_far (Some n) = n

-- why a byte b cannot continue the number before it: it is no digit, it follows a leading 0, or the number gets too large
abbrev pub Over : Option ℕ → ℕ → Type 0
Over before b = ¬ Digit b ⊎ ((before ≡ Some 0) ⊎ (65535 < so_far before * 10 + (b - 48)))

-- the byte makes n of that number
pub record Grown (before : Option ℕ) (b n : ℕ) : Type 0 where
  pub digit : Digit b
  pub plain : ¬ (before ≡ Some 0)
  pub worth : n ≡ so_far before * 10 + (b - 48)
  pub small : n ≤ 65535

-- what the byte does to that number: it continues it, or it cannot
abbrev pub Grows : Option ℕ → ℕ → Option ℕ → Type 0
Grows before b r = MatchOption r (Over before b) (λ n. Grown before b n)

-- the longest number that a text begins with is n, in u bytes
pub record Longest (text : List ℕ) (n u : ℕ) : Type 0 where
  pub within : u ≤ length text
  pub numeral : Numeral (take u text) n
  pub longest : (k m : ℕ) → k ≤ length text → Numeral (take k text) m → k ≤ u

-- a text begins with no number
abbrev pub Unnumbered : List ℕ → Type 0
Unnumbered text = (k m : ℕ) → k ≤ length text → ¬ Numeral (take k text) m

-- what reading the longest number that a text begins with answers
abbrev pub ReadsLongest : List ℕ → Option (Spelled ℕ) → Type 0
ReadsLongest text a = MatchOption a (Unnumbered text) (λ r. Longest text r.value r.used)

-- a text begins with so many bytes that have P
pub record Begins (P : List ℕ → Type 0) (text : List ℕ) (used : ℕ) : Type 0 where
  pub within : used ≤ length text
  pub holds : P (take used text)

-- no beginning of a text has P
abbrev pub Never : (List ℕ → Type 0) → List ℕ → Type 0
Never P text = (used : ℕ) → ¬ Begins P text used

-- what reading a value, which the bytes that have P of it spell, answers: it, and how many bytes spell it; or none, where the text begins with none
abbrev pub Reads : {T : Type 0} → (T → List ℕ → Type 0) → List ℕ → Option (Spelled T) → Type 0
Reads {T} P text a = MatchOption a ((x : T) → Never (P x) text) (λ r. Begins (P r.value) text r.used)

-- the bytes are a word
abbrev pub Is : List ℕ → List ℕ → Type 0
Is word bs = bs ≡ word

-- a number n and the byte that ends it
pub record Ended (stop n : ℕ) (bs : List ℕ) : Type 0 where
  pub digits : List ℕ
  pub numeral : Numeral digits n
  pub whole : bs ≡ digits ++ (stop ∷ [])

-- what reading a number that the byte stop ends answers
abbrev pub ReadsField : ℕ → List ℕ → Option (Spelled ℕ) → Type 0
ReadsField stop text a = Reads (λ n. Ended stop n) text a

-- what opens a bound: `(`, its sign and a space
abbrev pub opened : Bound → List ℕ
opened o = bytes "(" ++ (sign o ++ bytes " ")

-- what reading it answers
abbrev pub ReadsOpening : List ℕ → Option (Spelled Sign) → Type 0
ReadsOpening text a = Reads (λ s. Is (opened (bound_of s))) text a

-- what closes a bound of the version b: its three numbers and `)`, with one space between the numbers
pub record Closed (b : Version) (bs : List ℕ) : Type 0 where
  pub x : List ℕ
  pub y : List ℕ
  pub z : List ℕ
  pub major : Numeral x b.major
  pub minor : Numeral y b.minor
  pub patch : Numeral z b.patch
  pub whole : bs ≡ x ++ (bytes " " ++ (y ++ (bytes " " ++ (z ++ bytes ")"))))

-- what reading it answers
abbrev pub ReadsTriple : List ℕ → Option (Spelled Version) → Type 0
ReadsTriple text a = Reads (λ b. Closed b) text a

-- the constraints that a reader is to read: bounds alone, or all of at most so much depth
abbrev pub IsBound : Constraint → Type 0
IsBound any = ⊥
IsBound (bound o b) = Unit {0}
IsBound (both c d) = ⊥
IsBound (either c d) = ⊥

abbrev pub Shallow : ℕ → Constraint → Type 0
Shallow left c = depth c ≤ left

-- a text begins with the spelling of a constraint that is Meant, in so many bytes, and a set has the keys that satisfy it
pub record Found (Meant : Constraint → Type 0) (text keys : List ℕ) (set used : ℕ) : Type 0 where
  pub what : Constraint
  pub meant : Meant what
  pub spelled : Begins (Spells what) text used
  pub picked : Picks keys what set

-- what reading one of the constraints that are Meant answers: its set, and the number of bytes that spell it; or none where the text begins with the spelling
-- of none
abbrev pub Parses : (Constraint → Type 0) → List ℕ → List ℕ → Option (Spelled ℕ) → Type 0
Parses Meant text keys a = MatchOption a ((c : Constraint) → Meant c → Never (Spells c) text) (λ r. Found Meant text keys r.value r.used)

-- what closes a pair of the constraints c and d: the two and `)`, with one space between the two
pub record Coupled (c d : Constraint) (bs : List ℕ) : Type 0 where
  pub l : List ℕ
  pub r : List ℕ
  pub left : Spells c l
  pub right : Spells d r
  pub whole : bs ≡ l ++ (bytes " " ++ (r ++ bytes ")"))

-- a text begins with the two sides of a pair, each of at most so much depth, in so many bytes, and two sets have the keys that satisfy the one and the other
pub record FoundPair (left : ℕ) (text keys : List ℕ) (first second used : ℕ) : Type 0 where
  pub one : Constraint
  pub other : Constraint
  pub one_shallow : depth one ≤ left
  pub other_shallow : depth other ≤ left
  pub spelled : Begins (Coupled one other) text used
  pub one_picked : Picks keys one first
  pub other_picked : Picks keys other second

-- what reading the two sides answers
abbrev pub ReadsPair : ℕ → List ℕ → List ℕ → Option (Spelled Sides) → Type 0
ReadsPair left text keys a =
    MatchOption a ((c d : Constraint) → depth c ≤ left → depth d ≤ left → Never (Coupled c d) text) (λ r. FoundPair left text keys r.value.one r.value.other r.used)
