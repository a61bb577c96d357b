-- The seven forms of a constraint and what each asks of a version.
use Rattle.std.specs.Prelude.{◌≡◌, ◌⊎◌, ℕ, suc, max, ◌≤◌, ◌<◌}
use Rattle.constraint.specs.declared.Version.{Version}

-- the four bounds: =, <=, >=, ^
pub data Bound : Type 0 where
  equal at_most no_less caret : Bound

-- `*`, a bound with its version, `and` and `or` of two constraints
pub data Constraint : Type 0 where
  any : Constraint
  bound : Bound → Version → Constraint
  both : Constraint → Constraint → Constraint
  either : Constraint → Constraint → Constraint

-- the same version
pub record Same (v w : Version) : Type 0 where
  pub major : v.major ≡ w.major
  pub minor : v.minor ≡ w.minor
  pub patch : v.patch ≡ w.patch

-- v is below w: by major, then minor, then patch
pub data Below (v w : Version) : Type 0 where
  by_major : v.major < w.major → Below v w
  by_minor : v.major ≡ w.major → v.minor < w.minor → Below v w
  by_patch : v.major ≡ w.major → v.minor ≡ w.minor → v.patch < w.patch → Below v w

abbrev pub AtMost : Version → Version → Type 0
AtMost v w = Below v w ⊎ Same v w

-- v fits `^` of the bound b: the same major, and then one of three cases by the bound
pub record Caret (b v : Version) : Type 0 where
  pub same_major : v.major ≡ b.major
  -- major 0 and the bound's minor 0: minor 0 and the same patch
  pub zero_zero : b.major ≡ 0 → b.minor ≡ 0 → (v.minor ≡ 0) × (v.patch ≡ b.patch)
  -- major 0, the bound's minor above 0: the same minor, patch at least the bound's
  pub zero_above : b.major ≡ 0 → 0 < b.minor → (v.minor ≡ b.minor) × (b.patch ≤ v.patch)
  -- major above 0: same minor and patch at least the bound's, or a higher minor
  pub above : 0 < b.major → ((v.minor ≡ b.minor) × (b.patch ≤ v.patch)) ⊎ (b.minor < v.minor)

-- what a bound b asks of a version v
abbrev pub Meets : Bound → Version → Version → Type 0
Meets equal b v = Same v b
Meets at_most b v = AtMost v b
Meets no_less b v = AtMost b v
Meets caret b v = Caret b v

-- v satisfies a constraint
abbrev pub Satisfies : Version → Constraint → Type 0
Satisfies v any = Unit {0}
Satisfies v (bound o b) = Meets o b v
Satisfies v (both c d) = Satisfies v c × Satisfies v d
Satisfies v (either c d) = Satisfies v c ⊎ Satisfies v d

-- `*` and the bounds have depth 1, a pair one more than its deeper side
abbrev pub depth : Constraint → ℕ
depth any = 1
depth (bound o b) = 1
depth (both c d) = suc (max (depth c) (depth d))
depth (either c d) = suc (max (depth c) (depth d))
