-- The slots of an entry are those of its span; and how the spans are found, one entry after the other.
use mathlib.Core.Path.{◌≡◌}
use mathlib.Core.List.{List}
use mathlib.Core.Logic.{◌↔◌}
use Prim.Native.Nat.{ℕ, zero, suc, ◌+◌, ◌-◌, ◌/◌, ◌≤◌, ◌<◌}
use native.Mathlib.Decide.{ℕ_discrete, dec_lt}
use native.Mathlib.Nat.{add-zero, add-suc, le_refl, not-suc-le-zero}
use native.Mathlib.Omega.{arith}
use lib.ListN.{length, get_or, set, replicate}
use lib.Seq.{get_or-set_same, get_or-set_other}
use Rattle.std.specs.Prelude.{Option, None, Some, MatchOption}
use Rattle.std.specs.Option.{unwrap_or}
use Rattle.catalogue.specs.Spans.{owner_in, Rising, Spans, Past}

module _ {slots first : List ℕ} (spans : Spans slots first) where
  -- a slot in the span of e is a slot of e
  pub span_owner : (e s : ℕ) → e < 64 → get_or first e 0 ≤ s → s < get_or first (e + 1) 0 → (s < length slots / 4) × (owner_in slots s ≡ e)
  span_owner e s h low high =
      let there : s < length slots / 4 = omega (arith, spans.within (e + 1) (omega arith)) in
      let not_below : ¬ (owner_in slots s < e) = λ below. absurd (omega (arith, (spans.upto e s (omega arith) there).1 below)) in
      (there, omega (arith, not_below, (spans.upto (e + 1) s (omega arith) there).0 high))

  -- a slot of e is in the span of e
  pub span_of : (e s : ℕ) → e < 64 → s < length slots / 4 → owner_in slots s ≡ e → (get_or first e 0 ≤ s) × (s < get_or first (e + 1) 0)
  span_of e s h there its =
      let not_before : ¬ (s < get_or first e 0) = λ before. absurd (omega (arith, (spans.upto e s (omega arith) there).0 before)) in
      (omega (arith, not_before), (spans.upto (e + 1) s (omega arith) there).1 (omega arith))

-- owners never fall, however far apart
risen : (slots : List ℕ) → Rising slots → (s k : ℕ) → s + k < length slots / 4 → owner_in slots s ≤ owner_in slots (s + k)
risen slots rising s zero h = rw (add-zero s) (le_refl (owner_in slots s))
risen slots rising s (suc k) h =
    let last : owner_in slots (s + k) ≤ owner_in slots (suc (s + k)) = rising (s + k) (omega arith) in
    rw (add-suc s k) (omega (arith, risen slots rising s k (omega arith), last))

-- what a search among the slots from one on tells, and what it comes to where their number stands for finding none
abbrev pub Searched : List ℕ → ℕ → ℕ → Option ℕ → Type 0
Searched slots from e r =
    MatchOption
    r
    ((s : ℕ) → from ≤ s → s < length slots / 4 → owner_in slots s < e)
    (λ s. (from ≤ s) × (s < length slots / 4) × (e ≤ owner_in slots s) × ((t : ℕ) → from ≤ t → t < s → owner_in slots t < e))

pub past_found : (slots : List ℕ) (from e : ℕ) (r : Option ℕ) → from ≤ length slots / 4 → Searched slots from e r → Past slots from e (unwrap_or r (length slots / 4))
past_found slots from e None h none = record { low = h; high = omega arith; passed = none; stopped = λ l. absurd (omega (arith, l)) }
past_found slots from e (Some s) h x = record { low = x.0; high = omega (arith, x.1); passed = x.3; stopped = λ l. x.2 }

-- the spans of the entries below e are stored, and the slots before `at` have lower owners
pub record SpansTo (slots : List ℕ) (e at : ℕ) (first : List ℕ) : Type 0 where
  pub within : (d : ℕ) → d < e → get_or first d 0 ≤ length slots / 4
  pub upto : (d s : ℕ) → d < e → s < length slots / 4 → (s < get_or first d 0) ↔ (owner_in slots s < d)
  pub before : (s : ℕ) → s < at → owner_in slots s < e

pub spans_none : (slots : List ℕ) → SpansTo slots 0 0 (replicate 65 0)
spans_none slots =
    record { within = λ d h. absurd (not-suc-le-zero h); upto = λ d s h. absurd (not-suc-le-zero h); before = λ s h. absurd (not-suc-le-zero h) }

pub spans_more : {slots first : List ℕ} {e at r : ℕ} → Rising slots → e < 65 → length first ≡ 65 → SpansTo slots e at first → Past slots at e r
    → SpansTo slots (e + 1) r (set first e r)
spans_more {slots} {first} {e} {at} {r} rising h sized was past =
    record { within = λ d l. within d l (ℕ_discrete d e); upto = λ d s l there. upto d s l there (ℕ_discrete d e); before = λ s l. omega (arith, lower s l (dec_lt s at)) }
  where
    here : e < length first
    here = omega (arith, sized)

    lower : (s : ℕ) → s < r → Dec (s < at) → owner_in slots s < e
    lower s l (yes b) = was.before s b
    lower s l (no n) = past.passed s (omega arith) l

    higher : (s : ℕ) → s < length slots / 4 → r ≤ s → e ≤ owner_in slots s
    higher s there l = far s there (s - r) (omega arith)
      where
        far : (s : ℕ) → s < length slots / 4 → (k : ℕ) → s ≡ r + k → e ≤ owner_in slots s
        far s there k q = rw q (omega (arith, past.stopped (omega arith), risen slots rising r k (rw q at there)))

    within : (d : ℕ) → d < e + 1 → Dec (d ≡ e) → get_or (set first e r) d 0 ≤ length slots / 4
    within d l (yes q) = rw (q, get_or-set_same first e r 0 here) past.high
    within d l (no n) = rw (get_or-set_other first e d r 0 n) (was.within d (omega arith))

    upto : (d s : ℕ) → d < e + 1 → s < length slots / 4 → Dec (d ≡ e) → (s < get_or (set first e r) d 0) ↔ (owner_in slots s < d)
    upto d s l there (yes q) =
        rw (q, get_or-set_same first e r 0 here) (λ b. lower s b (dec_lt s at), λ b. at_last (dec_lt s r) b)
      where
        at_last : Dec (s < r) → owner_in slots s < e → s < r
        at_last (yes b) o = b
        at_last (no n) o = absurd (omega (arith, higher s there (omega arith)))
    upto d s l there (no n) = rw (get_or-set_other first e d r 0 n) (was.upto d s (omega arith) there)

pub spans_end : {slots first : List ℕ} {e at : ℕ} → 65 ≤ e → length first ≡ 65 → SpansTo slots e at first → Spans slots first
spans_end {e = e} h sized all =
    record { sized = sized; within = λ d l. all.within d (omega arith); upto = λ d s l. all.upto d s (omega arith) }

-- what is stored stays within a bound
pub stored_within : (first : List ℕ) (e r n : ℕ) → e < length first → ((d : ℕ) → get_or first d 0 ≤ n) → r ≤ n → (d : ℕ) → get_or (set first e r) d 0 ≤ n
stored_within first e r n here was h d = go (ℕ_discrete d e)
  where
    go : Dec (d ≡ e) → get_or (set first e r) d 0 ≤ n
    go (yes q) = rw (q, get_or-set_same first e r 0 here) h
    go (no f) = rw (get_or-set_other first e d r 0 f) (was d)
