-- The bytes that spell a constraint, and the limits within which a constraint is read. There is no parser in this: a part spells c if it is c's own spelling.
use Rattle.std.specs.Prelude.{◌≡◌, List, ◌++◌, ℕ, ◌≤◌, length}
use Rattle.basis.specs.Bytes.{bytes}
use Rattle.constraint.specs.declared.Version.{Version}
use Rattle.constraint.specs.Meaning.{Bound, equal, at_most, no_less, caret, Constraint, any, bound, both, either, depth}
use Rattle.constraint.specs.Numeral.{Numeral}

-- the sign of a bound
abbrev pub sign : Bound → List ℕ
sign equal = bytes "="
sign at_most = bytes "<="
sign no_less = bytes ">="
sign caret = bytes "^"

-- a bound: `(`, its sign, three numbers, `)`, and one space between the parts
pub record Bounded (o : Bound) (b : Version) (bs : List ℕ) : Type 0 where
  pub x : List ℕ
  pub y : List ℕ
  pub z : List ℕ
  pub major : Numeral x b.major
  pub minor : Numeral y b.minor
  pub patch : Numeral z b.patch
  pub whole : bs ≡ bytes "(" ++ (sign o ++ (bytes " " ++ (x ++ (bytes " " ++ (y ++ (bytes " " ++ (z ++ bytes ")")))))))

-- a pair: `(`, its word, two constraints, `)`, and one space between the parts. Left and Right say what the two sides spell
pub record Paired (word : List ℕ) (Left Right : List ℕ → Type 0) (bs : List ℕ) : Type 0 where
  pub l : List ℕ
  pub r : List ℕ
  pub left : Left l
  pub right : Right r
  pub whole : bs ≡ bytes "(" ++ (word ++ (bytes " " ++ (l ++ (bytes " " ++ (r ++ bytes ")")))))

-- the bytes bs spell the constraint
abbrev pub Spells : Constraint → List ℕ → Type 0
Spells any bs = bs ≡ bytes "*"
Spells (bound o b) bs = Bounded o b bs
Spells (both c d) bs = Paired (bytes "and") (Spells c) (Spells d) bs
Spells (either c d) bs = Paired (bytes "or") (Spells c) (Spells d) bs

-- a part is read as c: it spells c, of depth at most 16, in at most 255 bytes
pub record ReadAs (part : List ℕ) (c : Constraint) : Type 0 where
  pub spelled : Spells c part
  pub shallow : depth c ≤ 16
  pub short : length part ≤ 255

-- a part is read as some constraint
abbrev pub Readable : List ℕ → Type 0
Readable part = (c : Constraint) × ReadAs part c
