-- Entries of packages that are known to be there: all but one of each package are duplicates.
use Rattle.std.specs.Prelude.{◌≡◌, List, ℕ, ◌+◌, ◌*◌, ◌≤◌, ◌<◌, length, get_or}
use Rattle.basis.specs.Sum.{sum, same}
use Rattle.bitset.specs.Bits.{bit, Member}
use Rattle.plan.specs.Pairs.{field}
use Rattle.price.specs.declared.packages.Known.{Known}

-- how many members before e are of its package
abbrev pub before_it : List ℕ → ℕ → ℕ → ℕ
before_it entries set e = sum (λ d. bit set d * same (field entries d 0) (field entries e 0)) e

-- how many members two sets have in common
unfoldable pub shared : ℕ → ℕ → ℕ
shared set others = sum (λ e. bit set e * bit others e) 64

-- how many members of a set are among others and the first of their package in the set
unfoldable pub firsts : List ℕ → ℕ → ℕ → ℕ
firsts entries set others = sum (λ e. bit set e * (bit others e * same (before_it entries set e) 0)) 64

-- row e holds nothing but entries of e's package
pub record OfOnePackage (entries rows : List ℕ) : Type 0 where
  pub sized : length rows ≡ 64
  pub alike : (e f : ℕ) → Member (get_or rows e 0) f → field entries f 0 ≡ field entries e 0

-- entries of so many packages: no set has more first members among them
pub record Packaged (entries : List ℕ) (k : Known) : Type 0 where
  pub few : (set : ℕ) → firsts entries set k.entries ≤ k.packages

-- what is known with one entry's package more, where that was not known: `its` holds nothing but entries of its package
pub record WithPackage (known : Known) (e its : ℕ) (r : Known) : Type 0 where
  pub few : (entries : List ℕ) → ((f : ℕ) → Member its f → field entries f 0 ≡ field entries e 0) → (set : ℕ) → firsts entries set known.entries ≤ known.packages
      → firsts entries set r.entries ≤ r.packages
  pub more : r.packages ≤ known.packages + 1

-- prices with what a duplicate counts added for the known entries
pub record Raised (base : List ℕ) (known double : ℕ) (price : List ℕ) : Type 0 where
  pub sized : length price ≡ 64
  pub each : (e : ℕ) → e < 64 → get_or price e 0 ≡ get_or base e 0 + bit known e * double
