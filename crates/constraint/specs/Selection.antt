-- One constraint read once for many versions: each version packed into one number, and the set of those that satisfy the constraint.
use Rattle.std.specs.Prelude.{List, ◌↔◌, ℕ, ◌+◌, ◌*◌, ◌/◌, ◌%◌, ◌^◌, ◌<◌, length, get_or, Option, MatchOption}
use Rattle.bitset.specs.Bits.{Member}
use Rattle.constraint.specs.declared.Version.{Version}
use Rattle.constraint.specs.Meaning.{Constraint, Satisfies}
use Rattle.constraint.specs.Spelling.{ReadAs, Readable}

-- a version as one number: sixteen bits each for major, minor and patch
abbrev pub key : Version → ℕ
key v = (v.major * 2 ^ 16 + v.minor) * 2 ^ 16 + v.patch

-- the version of a number
abbrev pub unkey : ℕ → Version
unkey k = record { major = k / 2 ^ 32; minor = k / 2 ^ 16 % 2 ^ 16; patch = k % 2 ^ 16 }

-- the set of the versions that satisfy a constraint
abbrev pub Picks : List ℕ → Constraint → ℕ → Type 0
Picks keys c set = (e : ℕ) → Member set e ↔ ((e < length keys) × Satisfies (unkey (get_or keys e 0)) c)

-- what the reading may answer for a part and packed versions: the set of those that satisfy the constraint, or none where the part is read as no constraint
abbrev pub Selects : List ℕ → List ℕ → Option ℕ → Type 0
Selects part keys a = MatchOption a (¬ Readable part) (λ set. (c : Constraint) × ReadAs part c × Picks keys c set)
