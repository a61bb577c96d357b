-- What condition 5 asks of two entries, told by the entries' table.
use Rattle.std.specs.Prelude.{◌≡◌, List, ℕ, ◌+◌, ◌*◌, get_or}
use Rattle.constraint.specs.declared.Version.{Version}
use Rattle.catalogue.specs.Tables.{entry_width}
use Rattle.catalogue.specs.Gives.{Together}

-- field k of entry e
abbrev pub field : List ℕ → ℕ → ℕ → ℕ
field entries e k = get_or entries (e * entry_width + k) 0

abbrev pub version : List ℕ → ℕ → Version
version entries e = record { major = field entries e 1; minor = field entries e 2; patch = field entries e 3 }

-- d and e are of different packages, or may stand together
abbrev pub Beside : List ℕ → ℕ → ℕ → ℕ → Type 0
Beside entries mode d e = field entries d 0 ≡ field entries e 0 → Together mode (version entries d) (version entries e)
