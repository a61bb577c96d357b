-- An array of 64 filled one after the other, packages named and prices raised along a walk through the members of a set.
use mathlib.Core.Path.{◌≡◌, sym, ap, ◌∙◌}
use mathlib.Core.List.{List}
use mathlib.Core.Logic.{◌⊎◌, inl, inr, ⊎_elim}
use Prim.Native.Nat.{ℕ, ◌+◌, ◌^◌, ◌≤◌, ◌<◌}
use native.Mathlib.Decide.{ℕ_discrete, dec_lt}
use native.Mathlib.Omega.{arith}
use lib.Bits.{bit_or}
use lib.ListN.{length, get_or, set, length-set, replicate, length-replicate, get_or-replicate, get_or-eq_default}
use lib.Seq.{get_or-set_same, get_or-set_other}
use Rattle.bitset.specs.Bits.{count, Member}
use Rattle.bitset.specs.Walk.{Parts}
use Rattle.bitset.specs.declared.Rising.{Rising}
use Rattle.bitset.proofs.Counts.{count_le}
use Rattle.bitset.proofs.Subsets.{lowest_below, left_within, left_count}
use Rattle.bitset.proofs.MemberWalk.{Walked, walk_start, walk_at, walk_on, walk_other, walk_left}
use Rattle.price.specs.declared.packages.Known.{Known}
use Rattle.price.specs.Kinds.{firsts, OfOnePackage, WithPackage}
use Rattle.price.proofs.Drawing.{walk_weaker}
use Rattle.price.proofs.FirstMembers.{firsts_none, firsts_one, firsts_more}

-- filled by f below i, and 0 from there on
pub record Filling (f : ℕ → ℕ) (xs : List ℕ) (i : ℕ) : Type 0 where
  pub sized : length xs ≡ 64
  pub inside : i ≤ 64
  pub done : (k : ℕ) → k < i → get_or xs k 0 ≡ f k
  pub rest : (k : ℕ) → i ≤ k → get_or xs k 0 ≡ 0

pub filling_start : (f : ℕ → ℕ) → Filling f (replicate 64 0) 0
filling_start f =
    record { sized = length-replicate {A = ℕ} 64 0; inside = omega arith; done = λ k h. absurd (omega arith); rest = λ k h. zeros k (dec_lt k 64) }
  where
    zeros : (k : ℕ) → Dec (k < 64) → ◌≡◌ {A = ℕ} (get_or (replicate 64 0) k 0) 0
    zeros k (yes l) = get_or-replicate {A = ℕ} 64 k 0 0 l
    zeros k (no n) =
        let past : length (replicate {A = ℕ} 64 0) ≤ k = omega (arith, length-replicate {A = ℕ} 64 0) in
        get_or-eq_default (replicate 64 0) 0 past

-- one package more is known, where its first entry was not
pub named_more : (known : Known) (e its : ℕ) (r : Known) → r.entries ≡ bit_or known.entries its → r.packages ≡ known.packages + 1 → WithPackage known e its r
named_more known e its r a b =
    record {
      few = λ entries alike S h.
          let one = firsts_one entries S its (λ c d m n. alike c m ∙ sym (alike d n)) in
          let more = firsts_more entries S known.entries its in
          rw (a, b) (omega (arith, one, more));
      more = omega (arith, b);
    }

-- the packages of the members passed
pub record Naming (set : ℕ) (alike : List ℕ) (found : Known) (rest : ℕ) : Type 0 where
  pub walked : Walked set rest (λ e. Unit {0})
  pub room : found.packages + count rest ≤ 64
  pub few : (entries : List ℕ) → OfOnePackage entries alike → (S : ℕ) → firsts entries S found.entries ≤ found.packages

pub naming_start : {set : ℕ} (alike : List ℕ) {walk made : Rising} → walk ≡ made → made.rest ≡ set → set < 2 ^ 64
    → Naming set alike (record { entries = 0; packages = 0 }) walk.rest
naming_start alike {walk} s m h =
    record { walked = walk_start (λ e. Unit {0}) s m h; room = omega (arith, count_le walk.rest); few = λ entries o S. omega (arith, firsts_none entries S) }

module _ {set : ℕ} {alike : List ℕ} {found : Known} {rest d less : ℕ} (t : Naming set alike found rest) (p : Parts rest d less) where
  naming_less : count less < count rest
  naming_less = left_count t.walked.fits p.lowest p.rest

  pub naming_on : {r : Known} → WithPackage found d (get_or alike d 0) r → Naming set alike r less
  naming_on x =
      record {
        walked = walk_on t.walked p tt;
        room = omega (arith, x.more, t.room, naming_less);
        few = λ entries o S. x.few entries (o.alike d) S (t.few entries o S);
      }

-- prices raised for each member passed
pub record Raising (base : List ℕ) (known double : ℕ) (price : List ℕ) (rest : ℕ) : Type 0 where
  pub walked : Walked known rest (λ e. get_or price e 0 ≡ get_or base e 0 + double)
  pub sized : length price ≡ 64
  pub left : (e : ℕ) → Member rest e ⊎ (¬ Member known e) → get_or price e 0 ≡ get_or base e 0

module _ {base : List ℕ} {known double : ℕ} {price : List ℕ} {rest d less : ℕ} (t : Raising base known double price rest) (p : Parts rest d less) where
  -- the price of the member is what it was
  pub raising_at : get_or price d 0 ≡ get_or base d 0
  raising_at = t.left d (inl p.lowest.member)

  pub raising_on : Raising base known double (set price d (get_or price d 0 + double)) less
  raising_on =
      record {
        walked = record { fits = further.fits; within = further.within; passed = λ e m. go e m (walk_other t.walked p e m) (ℕ_discrete e d) };
        sized = length-set price d v ∙ t.sized;
        left = λ e m. left e m;
      }
    where
      v : ℕ
      v = get_or price d 0 + double

      further : Walked known less (λ e. Unit {0})
      further = walk_on (walk_weaker t.walked (λ e q. tt)) p tt

      there : d < length price
      there = omega (arith, lowest_below t.walked.fits p.lowest, t.sized)

      go : (e : ℕ) → Member known e → (¬ (e ≡ d) → Member less e ⊎ (get_or price e 0 ≡ get_or base e 0 + double)) → Dec (e ≡ d)
          → Member less e ⊎ (get_or (set price d v) e 0 ≡ get_or base e 0 + double)
      go e m f (yes s) = inr (rw s (get_or-set_same price d v 0 there ∙ ap (λ (x : ℕ). x + double) raising_at))
      go e m f (no n) = ⊎_elim (λ k. inl k) (λ q. inr (get_or-set_other price d e v 0 n ∙ q)) (f n)

      left : (e : ℕ) → Member less e ⊎ (¬ Member known e) → get_or (set price d v) e 0 ≡ get_or base e 0
      left e (inl m) = let its = walk_left t.walked p e m in get_or-set_other price d e v 0 its.1 ∙ t.left e (inl (left_within t.walked.fits p.lowest p.rest e m))
      left e (inr n) = get_or-set_other price d e v 0 (λ s. n (rw s (walk_at t.walked p))) ∙ t.left e (inr n)
