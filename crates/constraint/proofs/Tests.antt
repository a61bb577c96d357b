-- A test that tells whether a version satisfies a constraint. It computes at closed versions, by the tests on their numbers.
use mathlib.Core.Path.{◌≡◌}
use mathlib.Core.Bool.{Bool, true, not, ◌&&◌, ◌||◌}
use mathlib.Core.Logic.{◌⊎◌, inl, inr}
use Prim.Native.Nat.{◌<◌}
use lib.Dec.{eqb, ltb, leb}
use Rattle.basis.specs.Tests.{Decides}
use Rattle.basis.proofs.Decide.{decides_by, decides_unit, decides_and, decides_or, decides_if, decides_eq, decides_lt, decides_le}
use Rattle.constraint.specs.declared.Version.{Version}
use Rattle.constraint.specs.Meaning.{Bound, equal, at_most, no_less, caret, Constraint, any, bound, both, either, Satisfies, Same, Below, by_major, by_minor, by_patch, AtMost, Caret, Meets}

-- v and w are the same version
abbrev pub is_same : Version → Version → Bool
is_same v w = eqb v.major w.major && (eqb v.minor w.minor && eqb v.patch w.patch)

-- v is below w
abbrev pub is_below : Version → Version → Bool
is_below v w =
    ltb v.major w.major
    || (eqb v.major w.major && ltb v.minor w.minor
    || eqb v.major w.major && (eqb v.minor w.minor && ltb v.patch w.patch))

abbrev pub is_at_most : Version → Version → Bool
is_at_most v w = is_below v w || is_same v w

-- v has b's minor, and at least b's patch
abbrev pub is_patched : Version → Version → Bool
is_patched b v = eqb v.minor b.minor && leb b.patch v.patch

-- v fits `^` of the bound b
abbrev pub is_caret : Version → Version → Bool
is_caret b v =
    eqb v.major b.major
    && ((not (eqb b.major 0) || (not (eqb b.minor 0) || eqb v.minor 0 && eqb v.patch b.patch))
    && ((not (eqb b.major 0) || (not (ltb 0 b.minor) || is_patched b v))
    && (not (ltb 0 b.major) || (is_patched b v || ltb b.minor v.minor))))

-- v meets what a bound b asks
abbrev pub meets : Bound → Version → Version → Bool
meets equal b v = is_same v b
meets at_most b v = is_at_most v b
meets no_less b v = is_at_most b v
meets caret b v = is_caret b v

-- v satisfies a constraint
abbrev pub satisfied : Version → Constraint → Bool
satisfied v any = true
satisfied v (bound o b) = meets o b v
satisfied v (both c d) = satisfied v c && satisfied v d
satisfied v (either c d) = satisfied v c || satisfied v d

same_decides : (v w : Version) → Decides (is_same v w) (Same v w)
same_decides v w =
    decides_by
    (λ p. record { major = p.0; minor = p.1.0; patch = p.1.1 })
    (λ s. (s.major, (s.minor, s.patch)))
    (decides_and (decides_eq v.major w.major) (decides_and (decides_eq v.minor w.minor) (decides_eq v.patch w.patch)))

-- the three ways to be below, as one proposition
abbrev Ways : Version → Version → Type 0
Ways v w =
    (v.major < w.major)
    ⊎ (((v.major ≡ w.major) × (v.minor < w.minor)) ⊎ ((v.major ≡ w.major) × ((v.minor ≡ w.minor) × (v.patch < w.patch))))

below_by : {v w : Version} → Ways v w → Below v w
below_by (inl h) = by_major h
below_by (inr (inl p)) = by_minor p.0 p.1
below_by (inr (inr p)) = by_patch p.0 p.1.0 p.1.1

by_below : {v w : Version} → Below v w → Ways v w
by_below (by_major h) = inl h
by_below (by_minor e h) = inr (inl (e, h))
by_below (by_patch e f h) = inr (inr (e, (f, h)))

below_decides : (v w : Version) → Decides (is_below v w) (Below v w)
below_decides v w =
    let same_major = decides_eq v.major w.major in
    decides_by below_by by_below
    (decides_or (decides_lt v.major w.major)
    (decides_or (decides_and same_major (decides_lt v.minor w.minor))
    (decides_and same_major (decides_and (decides_eq v.minor w.minor) (decides_lt v.patch w.patch)))))

at_most_decides : (v w : Version) → Decides (is_at_most v w) (AtMost v w)
at_most_decides v w = decides_or (below_decides v w) (same_decides v w)

caret_decides : (b v : Version) → Decides (is_caret b v) (Caret b v)
caret_decides b v =
    let patched = decides_and (decides_eq v.minor b.minor) (decides_le b.patch v.patch) in
    let major_zero = decides_eq b.major 0 in
    decides_by
    (λ p. record { same_major = p.0; zero_zero = p.1.0; zero_above = p.1.1.0; above = p.1.1.1 })
    (λ c. (c.same_major, (c.zero_zero, (c.zero_above, c.above))))
    (decides_and (decides_eq v.major b.major)
    (decides_and
    (decides_if major_zero (λ z. decides_if (decides_eq b.minor 0) (λ y. decides_and (decides_eq v.minor 0) (decides_eq v.patch b.patch))))
    (decides_and (decides_if major_zero (λ z. decides_if (decides_lt 0 b.minor) (λ y. patched)))
    (decides_if (decides_lt 0 b.major) (λ z. decides_or patched (decides_lt b.minor v.minor))))))

meets_decides : (o : Bound) (b v : Version) → Decides (meets o b v) (Meets o b v)
meets_decides equal b v = same_decides v b
meets_decides at_most b v = at_most_decides v b
meets_decides no_less b v = at_most_decides b v
meets_decides caret b v = caret_decides b v

pub satisfied_decides : (v : Version) (c : Constraint) → Decides (satisfied v c) (Satisfies v c)
satisfied_decides v any = decides_unit
satisfied_decides v (bound o b) = meets_decides o b v
satisfied_decides v (both c d) = decides_and (satisfied_decides v c) (satisfied_decides v d)
satisfied_decides v (either c d) = decides_or (satisfied_decides v c) (satisfied_decides v d)
