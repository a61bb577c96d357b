-- Rows of entries, made bit by bit and stored one after the other, over any relation; what two rows share; and the rows of a call.
use mathlib.Core.Path.{◌≡◌, sym, ◌∙◌}
use mathlib.Core.List.{List}
use mathlib.Core.Logic.{◌↔◌}
use Prim.Native.Nat.{ℕ, ◌+◌, ◌≤◌, ◌<◌}
use native.Mathlib.Decide.{ℕ_discrete}
use native.Mathlib.Nat.{not-suc-le-zero}
use native.Mathlib.Omega.{arith}
use lib.Bits.{bit_and}
use lib.ListN.{length, get_or, set, length-set, replicate, length-replicate}
use Rattle.bitset.specs.Bits.{Member}
use Rattle.bitset.specs.Changes.{Without}
use Rattle.bitset.proofs.Made.{meet_members}
use Rattle.catalogue.specs.Gives.{cargo, pip}
use Rattle.plan.specs.Pairs.{field, Beside}
use Rattle.plan.proofs.Closing.{stored_here, stored_elsewhere}
use Rattle.plan.proofs.Trails.{fresh_none}
use Rattle.node.specs.Clashing.{Placed, Row, Rows, Both, Shared, Clashes, Alikes}

-- a row of those below f
pub record Upto (Q : ℕ → Type 0) (f row : ℕ) : Type 0 where
  pub holds : (g : ℕ) → Member row g ↔ ((g < f) × Q g)

module _ {Q : ℕ → Type 0} {f row : ℕ} (u : Upto Q f row) where
  later : (g : ℕ) → Member row g → (g < f + 1) × Q g
  later g m = let x = (u.holds g).0 m in (omega (arith, x.0), x.1)

  pub upto_end : {count : ℕ} (entries : List ℕ) → ((e : ℕ) → (e < count) ↔ Placed entries e) → f ≤ count → count ≤ f → Row entries Q row
  upto_end entries all l h =
      record {
        holds = λ g. (
          λ m. let x = (u.holds g).0 m in ((all g).0 (omega (arith, x.0)), x.1),
          λ x. (u.holds g).1 (omega (arith, (all g).1 x.0), x.1),
        );
      }

module _ (entries : List ℕ) (R : ℕ → ℕ → Type 0) where
  -- the rows below n are stored
  pub record RowsTo (n : ℕ) (rows : List ℕ) : Type 0 where
    pub sized : length rows ≡ 64
    pub only : (e f : ℕ) → Member (get_or rows e 0) f → R e f
    pub all : (e f : ℕ) → e < n → Placed entries f → R e f → Member (get_or rows e 0) f

  pub rows_none : RowsTo 0 (replicate 64 0)
  rows_none =
      record { sized = length-replicate {A = ℕ} 64 0; only = λ e f m. absurd (fresh_none e f m); all = λ e f l. absurd (not-suc-le-zero l) }

  -- what is stored holds only entries that stand in the relation, and of placed ones all
  pub rows_more :
      {n : ℕ} {rows : List ℕ} (v : ℕ) → n < 64 → RowsTo n rows → ((f : ℕ) → Member v f → R n f) → ((f : ℕ) → Placed entries f → R n f → Member v f)
      → RowsTo (n + 1) (set rows n v)
  rows_more {n} {rows} v l t into from =
      record { sized = length-set rows n v ∙ t.sized; only = λ e f m. only e f m (ℕ_discrete e n); all = λ e f h p r. all e f h p r (ℕ_discrete e n) }
    where
      here : n < length rows
      here = omega (arith, t.sized)

      only : (e f : ℕ) → Member (get_or (set rows n v) e 0) f → Dec (e ≡ n) → R e f
      only e f m (yes same) = rw same (into f ((stored_here rows n v here e f same).0 m))
      only e f m (no other) = t.only e f ((stored_elsewhere rows n v e f other).0 m)

      all : (e f : ℕ) → e < n + 1 → Placed entries f → R e f → Dec (e ≡ n) → Member (get_or (set rows n v) e 0) f
      all e f h p r (yes same) = (stored_here rows n v here e f same).1 (from f p (rw same at r))
      all e f h p r (no other) = (stored_elsewhere rows n v e f other).1 (t.all e f (omega arith) p r)

  pub rows_end : {n : ℕ} {rows : List ℕ} → ((e : ℕ) → Placed entries e → e < n) → RowsTo n rows → Rows entries R rows
  rows_end past t = record { sized = t.sized; only = t.only; all = λ e f p. t.all e f (past e p) }

  -- a relation that nothing stands in
  pub rows_empty : ((e f : ℕ) → ¬ R e f) → Rows entries R (replicate 64 0)
  rows_empty none = record { sized = rows_none.sized; only = rows_none.only; all = λ e f p q r. absurd (none e f r) }

-- of what two rows share, the rows below n are stored
abbrev pub SharedTo : List ℕ → List ℕ → ℕ → List ℕ → Type 0
SharedTo one other n rows = (entries : List ℕ) → RowsTo entries (Both one other) n rows

pub shared_more :
    {one other rows : List ℕ} {e v : ℕ} → e < 64 → SharedTo one other e rows → Without (bit_and (get_or one e 0) (get_or other e 0)) e v
    → SharedTo one other (e + 1) (set rows e v)
shared_more {one} {other} {e = e} {v = v} l t w entries = rows_more entries _ v l (t entries) into (λ f p. from f)
  where
    into : (f : ℕ) → Member v f → Both one other e f
    into f m =
        let x = (w.members l f).0 m in
        let both = (meet_members (get_or one e 0) (get_or other e 0) f).0 x.0 in
        record { in_one = both.0; in_other = both.1; distinct = λ same. x.1 (sym same) }

    from : (f : ℕ) → Both one other e f → Member v f
    from f x = (w.members l f).1 ((meet_members (get_or one e 0) (get_or other e 0) f).1 (x.in_one, x.in_other), λ same. x.distinct (sym same))

-- the rows of a call: what clashes is of one package, and stands in another relation
clashes_by :
    {S : ℕ → ℕ → Type 0} {entries one other rows : List ℕ} {mode : ℕ} → ((e f : ℕ) → ((field entries f 0 ≡ field entries e 0) × S e f) ↔ ¬ Beside entries mode e f)
    → Alikes entries one → Rows entries S other → Shared one other rows → Clashes entries mode rows
clashes_by {entries = entries} clash a o s =
    let both = s entries in
    record {
      sized = both.sized;
      only = λ e f m. let x = both.only e f m in (x.distinct, (clash e f).0 (a.only e f x.in_one, o.only e f x.in_other));
      all = λ e f p q x.
          let y = (clash e f).1 x.1 in
          both.all e f p q (record { in_one = a.all e f p q y.0; in_other = o.all e f p q y.1; distinct = x.0 });
    }

one_package : (entries : List ℕ) {mode : ℕ} (e f : ℕ) → ¬ Beside entries mode e f → field entries f 0 ≡ field entries e 0
one_package entries e f n = from (ℕ_discrete (field entries f 0) (field entries e 0))
  where
    from : Dec (field entries f 0 ≡ field entries e 0) → field entries f 0 ≡ field entries e 0
    from (yes same) = same
    from (no other) = absurd (n (λ same. absurd (other (sym same))))

-- under pip two of one package always clash
pub clashes_pip : {entries alike rows : List ℕ} {mode : ℕ} → mode ≡ pip → Alikes entries alike → Shared alike alike rows → Clashes entries mode rows
clashes_pip {entries} m a =
    clashes_by (λ e f. (λ x b. (b (sym x.0)).by_pip m, λ n. (one_package entries e f n, one_package entries e f n))) a a

-- under cargo where their majors are one
pub clashes_cargo :
    {entries alike majors rows : List ℕ} {mode : ℕ} → mode ≡ cargo → Alikes entries alike → Rows entries (λ e f. field entries f 1 ≡ field entries e 1) majors
    → Shared alike majors rows → Clashes entries mode rows
clashes_cargo {entries} {mode = mode} m =
    clashes_by (λ e f. (
      λ x b. (b (sym x.0)).by_cargo m (sym x.1),
      λ n. (one_package entries e f n, from e f n (ℕ_discrete (field entries f 1) (field entries e 1))),
    ))
  where
    from : (e f : ℕ) → ¬ Beside entries mode e f → Dec (field entries f 1 ≡ field entries e 1) → field entries f 1 ≡ field entries e 1
    from e f n (yes same) = same
    from e f n (no other) = absurd (n (λ k. record { by_cargo = λ c same. other (sym same); by_pip = λ p. omega arith }))

-- where neither is asked for, nothing does
pub clashes_none : {entries : List ℕ} {mode : ℕ} → ¬ (mode ≡ pip) → ¬ (mode ≡ cargo) → Clashes entries mode (replicate 64 0)
clashes_none {entries} no_pip no_cargo = rows_empty entries _ (λ e f x. x.1 (λ k. record { by_cargo = λ m. absurd (no_cargo m); by_pip = no_pip }))
