-- Packed versions: a version and its key are one another's, and comparing keys is comparing versions by major, minor and patch. So a version meets a bound
-- exactly if its key lies in the bound's range.
use mathlib.Core.Path.{◌≡◌}
use mathlib.Core.Logic.{◌⊎◌, ◌↔◌, inl, inr}
use Prim.Native.Nat.{ℕ, ◌+◌, ◌-◌, ◌*◌, ◌/◌, ◌%◌, ◌^◌, ◌≤◌, ◌<◌}
use native.Mathlib.Decide.{dec_lt}
use native.Mathlib.Omega.{arith}
use Rattle.constraint.specs.declared.Version.{Version}
use Rattle.constraint.specs.Meaning.{equal, at_most, no_less, caret, Same, Below, by_major, by_minor, by_patch, AtMost, Caret}
use Rattle.constraint.specs.Range.{Between, Spans, CaretEnds}
use Rattle.constraint.specs.Selection.{key, unkey}

-- the numbers of a version are below 2 ^ 16
pub record Small (v : Version) : Type 0 where
  pub major : v.major < 2 ^ 16
  pub minor : v.minor < 2 ^ 16
  pub patch : v.patch < 2 ^ 16

-- so its key is below 2 ^ 48
pub key_below : (v : Version) → Small v → key v < 2 ^ 48
key_below v s = omega arith

-- the version of a version's key
pub unkey_key : (v : Version) → Small v → unkey (key v) ≡ v
unkey_key v s =
    let major : key v / 2 ^ 32 ≡ v.major = omega arith in
    let minor : key v / 2 ^ 16 % 2 ^ 16 ≡ v.minor = omega arith in
    let patch : key v % 2 ^ 16 ≡ v.patch = omega arith in
    λ i. record { major = major i; minor = minor i; patch = patch i }

-- of two versions whose minor and patch are below 2 ^ 16: the order of the keys is that of the versions
module _ (v w : Version) (vm : v.minor < 2 ^ 16) (vp : v.patch < 2 ^ 16) (wm : w.minor < 2 ^ 16) (wp : w.patch < 2 ^ 16) where
  below_key : Below v w → key v < key w
  below_key (by_major h) = omega arith
  below_key (by_minor e h) = omega arith
  below_key (by_patch e f h) = omega arith

  key_below_by : key v < key w → Below v w
  key_below_by h = go (dec_lt v.major w.major) (dec_lt v.minor w.minor)
    where
      go : Dec (v.major < w.major) → Dec (v.minor < w.minor) → Below v w
      go (yes l) y = by_major l
      go (no f) (yes l) = by_minor (omega arith) l
      go (no f) (no g) = by_patch (omega arith) (omega arith) (omega arith)

  pub same_keys : Same v w ↔ (key v ≡ key w)
  same_keys = (λ s. omega arith, λ e. record { major = omega arith; minor = omega arith; patch = omega arith })

  pub at_most_keys : AtMost v w ↔ (key v ≤ key w)
  at_most_keys = (into, λ h. from h (dec_lt (key v) (key w)))
    where
      into : AtMost v w → key v ≤ key w
      into (inl b) = omega (arith, below_key b)
      into (inr s) = omega (arith, same_keys.0 s)

      from : key v ≤ key w → Dec (key v < key w) → AtMost v w
      from h (yes l) = inl (key_below_by l)
      from h (no f) = inr (same_keys.1 (omega arith))

-- the versions that fit `^` of b: up to the next major, or, of major 0, up to the next minor, or b alone
module _ (b : Version) (s : Small b) where
  pub caret_major : (high : ℕ) → 0 < b.major → high ≡ (b.major + 1) * 2 ^ 32 - 1 → (k : ℕ) → Caret b (unkey k) ↔ Between (key b) high k
  caret_major high above end k = (into, from)
    where
      ranked : (((unkey k).minor ≡ b.minor) × (b.patch ≤ (unkey k).patch)) ⊎ (b.minor < (unkey k).minor) → (unkey k).major ≡ b.major → key b ≤ k
      ranked (inl h) e = omega arith
      ranked (inr h) e = omega arith

      into : Caret b (unkey k) → Between (key b) high k
      into c = (ranked (c.above above) c.same_major, omega (arith, c.same_major))

      split : Between (key b) high k → Dec (b.minor < (unkey k).minor)
          → (((unkey k).minor ≡ b.minor) × (b.patch ≤ (unkey k).patch)) ⊎ (b.minor < (unkey k).minor)
      split h (yes l) = inr l
      split h (no f) = inl (omega arith, omega arith)

      from : Between (key b) high k → Caret b (unkey k)
      from h =
          record {
            same_major = omega arith;
            zero_zero = λ z y. absurd (omega arith);
            zero_above = λ z y. absurd (omega arith);
            above = λ a. split h (dec_lt b.minor (unkey k).minor);
          }

  pub caret_minor : (high : ℕ) → b.major ≡ 0 → 0 < b.minor → high ≡ (b.minor + 1) * 2 ^ 16 - 1 → (k : ℕ) → Caret b (unkey k) ↔ Between (key b) high k
  caret_minor high zero above end k = (
    λ c. let same = c.zero_above zero above in (omega (arith, c.same_major), omega (arith, c.same_major)),
    λ h. record {
      same_major = omega arith;
      zero_zero = λ z y. absurd (omega arith);
      zero_above = λ z y. (omega arith, omega arith);
      above = λ a. absurd (omega arith);
    },
  )

  pub caret_patch : (high : ℕ) → b.major ≡ 0 → b.minor ≡ 0 → high ≡ b.patch → (k : ℕ) → Caret b (unkey k) ↔ Between (key b) high k
  caret_patch high zero none end k = (
    λ c. let same = c.zero_zero zero none in (omega (arith, c.same_major), omega (arith, c.same_major)),
    λ h. record {
      same_major = omega arith;
      zero_zero = λ z y. (omega arith, omega arith);
      zero_above = λ z y. absurd (omega arith);
      above = λ a. absurd (omega arith);
    },
  )

-- the range of each bound
module _ (b : Version) (s : Small b) where
  pub spans_equal : Spans equal b (key b) (key b)
  spans_equal = record { meets = meets }
    where
      meets : (k : ℕ) → k < 2 ^ 64 → Same (unkey k) b ↔ Between (key b) (key b) k
      meets k h =
          let one = same_keys (unkey k) b (omega arith) (omega arith) s.minor s.patch in
          (λ m. (omega (arith, one.0 m), omega (arith, one.0 m)), λ p. one.1 (omega arith))

  pub spans_at_most : Spans at_most b 0 (key b)
  spans_at_most = record { meets = meets }
    where
      meets : (k : ℕ) → k < 2 ^ 64 → AtMost (unkey k) b ↔ Between 0 (key b) k
      meets k h =
          let order = at_most_keys (unkey k) b (omega arith) (omega arith) s.minor s.patch in
          (λ m. (omega arith, omega (arith, order.0 m)), λ p. order.1 (omega arith))

  pub spans_at_least : Spans no_less b (key b) (2 ^ 64 - 1)
  spans_at_least = record { meets = meets }
    where
      meets : (k : ℕ) → k < 2 ^ 64 → AtMost b (unkey k) ↔ Between (key b) (2 ^ 64 - 1) k
      meets k h =
          let order = at_most_keys b (unkey k) s.minor s.patch (omega arith) (omega arith) in
          (λ m. (omega (arith, order.0 m), omega arith), λ p. order.1 (omega arith))

-- what fits `^` is a range from the bound's own key on
pub spans_caret : (b : Version) (high : ℕ) → CaretEnds b high → Spans caret b (key b) high
spans_caret b high e = record { meets = λ k h. e.fits k }
