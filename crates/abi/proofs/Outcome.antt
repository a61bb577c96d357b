-- A C function has one outcome: no two fit one input, neither in the number nor in any slice. That some outcome fits every input is the function itself.
use mathlib.Core.Path.{◌≡◌, sym, ap, ◌∙◌}
use mathlib.Core.List.{List, [], ◌∷◌}
use Prim.Native.Nat.{ℕ}
use lib.ListN.{length, get_or}
use Rattle.constraint.specs.declared.Version.{Version}
use Rattle.constraint.proofs.Outcome.{reading_one}
use Rattle.catalogue.specs.Tables.{Lent}
use Rattle.plan.proofs.Outcome.{check_one}
use Rattle.lister.specs.Answers.{Answer}
use Rattle.lister.specs.declared.ListingRecord.{ListingRecord}
use Rattle.lister.specs.Turns.{listing}
use Rattle.lister.proofs.TurnOutcome.{turn_one}
use Rattle.csv_text.proofs.Outcome.{read_one}
use Rattle.abi.specs.Crossing.{FitsC, ChecksC, ListsC, TurnsC, ReadsC, short, answered}

pub fits_c_one : (part : List ℕ) (v : Version) (fit : List ℕ) (m n : ℕ) (x y : List ℕ) → FitsC part v fit m x → FitsC part v fit n y → (m ≡ n) × (x ≡ y)
fits_c_one part v fit m n x y (short s p q) (short t u w) = (cc, cc)
fits_c_one part v fit m n x y (short s p q) (answered l a u w) = absurd (s l)
fits_c_one part v fit m n x y (answered l a p q) (short t u w) = absurd (t l)
fits_c_one part v fit m n x y (answered {a = a} l g p q) (answered {a = b} k h u w) = let same : a ≡ b = reading_one part v a b g h in (cc, cc)

pub check_c_one : (L : Lent) (set : ℕ) (table condition cost : List ℕ) (m n : ℕ) (x y c d : List ℕ) → ChecksC L set table condition cost m x c
    → ChecksC L set table condition cost n y d → (m ≡ n) × (x ≡ y) × (c ≡ d)
check_c_one L set table condition cost m n x y c d (short s p q r) (short t u w z) = (cc, cc, cc)
check_c_one L set table condition cost m n x y c d (short s p q r) (answered l k h u w z) = absurd (s (l, k))
check_c_one L set table condition cost m n x y c d (answered l k g p q r) (short t u w z) = absurd (t (l, k))
check_c_one L set table condition cost m n x y c d (answered {a = a} l k g p q r) (answered {a = b} l' k' h u w z) =
    let same : a ≡ b = check_one L set table a b g h in (cc, cc, cc)

-- first and next, of which each call has one outcome
pub lists_c_one : (Call : Answer → List ℕ → Type 0) → ((a b : Answer) (x y : List ℕ) → Call a x → Call b y → (a ≡ b) × (x ≡ y))
    → (buffer set cost : List ℕ) (m n : ℕ) (x y s t c d : List ℕ) → ListsC Call buffer set cost m x s c → ListsC Call buffer set cost n y t d
    → (m ≡ n) × (x ≡ y) × (s ≡ t) × (c ≡ d)
lists_c_one Call one buffer set cost m n x y s t c d (short f p q r e) (short g u v w z) = (cc, cc, cc, cc)
lists_c_one Call one buffer set cost m n x y s t c d (short f p q r e) (answered l k h u v w) = absurd (f (l, k))
lists_c_one Call one buffer set cost m n x y s t c d (answered l k h p q r) (short g u v w z) = absurd (g (l, k))
lists_c_one Call one buffer set cost m n x y s t c d (answered {a = a} l k g p q r) (answered {a = b} l' k' h u v w) =
    let same : a ≡ b = (one a b x y g h).0 in (cc, (one a b x y g h).1, cc, cc)

-- a record is what its two slices hold
record_one : (r s : ListingRecord) (stage last : List ℕ) → stage ≡ r.stage ∷ [] → stage ≡ s.stage ∷ [] → last ≡ r.last ∷ [] → last ≡ s.last ∷ [] → r ≡ s
record_one r s stage last e f g h =
    ap (λ (k : ℕ). listing k r.last) (ap (λ (xs : List ℕ). get_or xs 0 0) (sym e ∙ f)) ∙ ap (λ (k : ℕ). listing s.stage k) (ap (λ (xs : List ℕ). get_or xs 0 0) (sym g ∙ h))

module _ (L : Lent) (stage last buffer set cost : List ℕ) where
  turn_c_short : (r : ListingRecord) → stage ≡ r.stage ∷ [] → last ≡ r.last ∷ [] → length set ≡ 1 → length cost ≡ 3
      → (length stage ≡ 1) × ((length last ≡ 1) × ((length set ≡ 1) × (length cost ≡ 3)))
  turn_c_short r e f l k = (ap length e, (ap length f, (l, k)))

  pub turn_c_one : (m n : ℕ) (g g' l l' x y s t c d : List ℕ) → TurnsC L stage last buffer set cost m g l x s c → TurnsC L stage last buffer set cost n g' l' y t d
      → (m ≡ n) × (g ≡ g') × (l ≡ l') × (x ≡ y) × (s ≡ t) × (c ≡ d)
  turn_c_one m n g g' l l' x y s t c d (short f p q r e h i) (short f' p' q' r' e' h' i') = (cc, cc, cc, cc, cc, cc)
  turn_c_one m n g g' l l' x y s t c d (short f p q r e h i) (answered {r = b} e' f' j k v p' q' r' h' i') = absurd (f (turn_c_short b e' f' j k))
  turn_c_one m n g g' l l' x y s t c d (answered {r = b} e' f' j k v p' q' r' h' i') (short f p q r e h i) = absurd (f (turn_c_short b e' f' j k))
  turn_c_one m n g g' l l' x y s t c d (answered {a = a} {r = r} {r' = w} e f j k v p q o h i) (answered {a = b} {r = z} {r' = u} e' f' j' k' v' p' q' o' h' i') =
      let one = turn_one L r buffer a b w u x y v (rw (record_one z r stage last e' e f' f) at v') in
      let same_answer : a ≡ b = one.0 in
      let same_record : w ≡ u = one.1 in
      (cc, cc, cc, one.2, cc, cc)

pub read_c_one : (text entries slots counts : List ℕ) (m n : ℕ) (e e' s s' c c' : List ℕ) → ReadsC text entries slots counts m e s c
    → ReadsC text entries slots counts n e' s' c' → (m ≡ n) × (e ≡ e') × (s ≡ s') × (c ≡ c')
read_c_one text entries slots counts m n e e' s s' c c' (short f p q r z) (short g u v w y) = (cc, cc, cc, cc)
read_c_one text entries slots counts m n e e' s s' c c' (short f p q r z) (answered l h u v) = absurd (f l)
read_c_one text entries slots counts m n e e' s s' c c' (answered l h u v) (short f p q r z) = absurd (f l)
read_c_one text entries slots counts m n e e' s s' c c' (answered {a = a} l h p q) (answered {a = b} k i u v) =
    let one = read_one text entries slots a b e e' s s' h i in
    let same : a ≡ b = one.0 in
    (cc, one.1, one.2, cc)
