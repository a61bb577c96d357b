-- The sets of entries that a survey makes: the entries of a package, gathered one by one; those of them that satisfy a slot's constraint; and the list of every slot's
-- set, filled from the front.
use mathlib.Core.Path.{◌≡◌, ◌∙◌}
use mathlib.Core.List.{List}
use mathlib.Core.Logic.{◌⊎◌, ◌↔◌, inl, inr, ⊎_elim}
use Prim.Native.Nat.{ℕ, ◌+◌, ◌≤◌, ◌<◌}
use native.Mathlib.Nat.{not-suc-le-zero}
use native.Mathlib.Decide.{ℕ_discrete}
use native.Mathlib.Omega.{arith}
use lib.Bits.{bit_and}
use lib.ListN.{length, get_or, set as store, replicate, length-set, length-replicate}
use lib.Seq.{get_or-set_same, get_or-set_other}
use borrow.Author.Count.{below_more}
use Rattle.std.specs.Prelude.{Result, Err}
use Rattle.basis.specs.declared.Refusal.{Refusal}
use Rattle.basis.specs.declared.Refusal.TheVariants.{Constraint as Unread}
use Rattle.bitset.specs.Bits.{Member}
use Rattle.bitset.specs.Changes.{With}
use Rattle.bitset.proofs.Sets.{none_in_empty}
use Rattle.bitset.proofs.Made.{meet_members}
use Rattle.constraint.specs.Meaning.{Constraint}
use Rattle.constraint.specs.Spelling.{ReadAs, Readable}
use Rattle.constraint.specs.Selection.{Picks}
use Rattle.constraint.proofs.Unique.{read_once}
use Rattle.catalogue.specs.Tables.{Lent, entry_count, package_of, slot_count, wanted_by, part_of}
use Rattle.catalogue.specs.Refusals.{ConstraintUnread}
use Rattle.catalogue.specs.Gives.{Fits}
use Rattle.catalogue.specs.Survey.{Indexes}
use Rattle.catalogue.specs.Steps.{Keys, OfPackage, FitsOf, FindsAll}
use Rattle.catalogue.proofs.Searches.{zero_at}

module _ (L : Lent) (wanted : ℕ) where
  -- a set with entry e too, where e is of the package
  pub marks_with : (set e r : ℕ) → e < 64 → package_of L e ≡ wanted → With set e r
      → (d : ℕ) → Member r d ↔ (Member set d ⊎ ((d ≡ e) × (package_of L e ≡ wanted)))
  marks_with set e r h p w d = (λ m. from ((w.members h d).0 m), λ m. (w.members h d).1 (into m))
    where
      from : (d ≡ e) ⊎ Member set d → Member set d ⊎ ((d ≡ e) × (package_of L e ≡ wanted))
      from (inl q) = inr (q, p)
      from (inr m) = inl m

      into : Member set d ⊎ ((d ≡ e) × (package_of L e ≡ wanted)) → (d ≡ e) ⊎ Member set d
      into (inl m) = inr m
      into (inr q) = inl q.0

  pub marks_same : (set e : ℕ) → ¬ (package_of L e ≡ wanted) → (d : ℕ) → Member set d ↔ (Member set d ⊎ ((d ≡ e) × (package_of L e ≡ wanted)))
  marks_same set e n d = (λ m. inl m, λ m. ⊎_elim (λ x. x) (λ x. absurd (n x.1)) m)

  pub package_none : OfPackage L wanted 0 0
  package_none e = (λ m. absurd (none_in_empty e m), λ x. absurd (not-suc-le-zero x.0))

  pub package_more : (n set r : ℕ) → OfPackage L wanted n set → ((d : ℕ) → Member r d ↔ (Member set d ⊎ ((d ≡ n) × (package_of L n ≡ wanted))))
      → OfPackage L wanted (n + 1) r
  package_more n set r o k e = (λ m. from ((k e).0 m), λ x. (k e).1 (into (ℕ_discrete e n) x))
    where
      from : Member set e ⊎ ((e ≡ n) × (package_of L n ≡ wanted)) → (e < n + 1) × (package_of L e ≡ wanted)
      from (inl m) = let x = (o e).0 m in (omega (arith, x.0), x.1)
      from (inr q) = (omega (arith, q.0), rw q.0 q.1)

      into : Dec (e ≡ n) → (e < n + 1) × (package_of L e ≡ wanted) → Member set e ⊎ ((e ≡ n) × (package_of L n ≡ wanted))
      into (yes q) x = inr (q, rw q at x.1)
      into (no f) x = inl ((o e).1 (omega (arith, x.0), x.1))

module _ (L : Lent) (keys : List ℕ) (keyed : Keys L.entries keys) where
  -- the entries whose version satisfies the slot's constraint, met with those of the wanted package, are those that fit the slot
  met_fits : (s : ℕ) {c : Constraint} (set others : ℕ) → ReadAs (part_of L s) c → Picks keys c set → OfPackage L (wanted_by L s) (entry_count L) others
      → FitsOf L s (bit_and set others)
  met_fits s {c} set others r picks o e = (λ m. from ((meet_members set others e).0 m), λ x. (meet_members set others e).1 (into x.0 x.1))
    where
      from : Member set e × Member others e → (e < entry_count L) × Fits L s e
      from m =
          let x = (picks e).0 m.0 in
          let y = (o e).0 m.1 in
          (y.0, record { wanted = y.1; constraint = c; read = r; satisfied = rw (keyed.back e y.0) at x.1 })

      into : e < entry_count L → Fits L s e → Member set e × Member others e
      into h f = (
        (picks e).1 (omega (arith, keyed.size), rw (keyed.back e h) (rw (read_once f.read r) at f.satisfied)),
        (o e).1 (h, f.wanted),
      )

  pub finds_set : (s : ℕ) {part : List ℕ} (set wanted others : ℕ) → part ≡ part_of L s → (c : Constraint) × ReadAs part c × Picks keys c set → wanted ≡ wanted_by L s
      → OfPackage L wanted (entry_count L) others → Readable (part_of L s) × FitsOf L s (bit_and set others)
  finds_set s set wanted others p answers w o =
      let got : (c : Constraint) × ReadAs (part_of L s) c × Picks keys c set = rw p at answers in
      ((got.0, got.1), met_fits s set others got.1 got.2 (rw w at o))

-- the sets of the slots below n, and 0 from there on
pub record Filled (L : Lent) (n : ℕ) (fits : List ℕ) : Type 0 where
  pub size : length fits ≡ 256
  pub read : (s : ℕ) → s < n → Readable (part_of L s)
  pub members : (s : ℕ) → s < n → FitsOf L s (get_or fits s 0)
  pub beyond : (s : ℕ) → n ≤ s → get_or fits s 0 ≡ 0

module _ (L : Lent) where
  pub filled_none : Filled L 0 (replicate 256 0)
  filled_none =
      record {
        size = length-replicate {A = ℕ} 256 0;
        read = λ s h. absurd (not-suc-le-zero h);
        members = λ s h. absurd (not-suc-le-zero h);
        beyond = λ s h. zero_at 256 s;
      }

  pub filled_one_more : (n set : ℕ) (fits : List ℕ) → n < 256 → Readable (part_of L n) → FitsOf L n set → Filled L n fits → Filled L (n + 1) (store fits n set)
  filled_one_more n set fits h r f filled =
      let here : get_or (store fits n set) n 0 ≡ set = get_or-set_same fits n set 0 (omega (arith, filled.size)) in
      let there : (s : ℕ) → ¬ (s ≡ n) → get_or (store fits n set) s 0 ≡ get_or fits s 0 = λ s d. get_or-set_other fits n s set 0 d in
      record {
        size = length-set fits n set ∙ filled.size;
        read = below_more (λ s. Readable (part_of L s)) n filled.read r;
        members =
            below_more
            (λ s. FitsOf L s (get_or (store fits n set) s 0))
            n
            (λ s k. rw (there s (λ q. omega arith)) (filled.members s k))
            (rw here f);
        beyond = λ s k. there s (λ q. omega arith) ∙ filled.beyond s (omega arith);
      }

  pub one_unread : {a : Result (List ℕ) Refusal} (s : ℕ) (r : Refusal) → s < slot_count L → ¬ Readable (part_of L s) → r ≡ Unread → a ≡ Err r → FindsAll L a
  one_unread s r h u e k = rw k ((s, h, u), e)

  pub filled_all : (fits : List ℕ) → Filled L (slot_count L) fits → (¬ ConstraintUnread L) × Indexes L fits
  filled_all fits filled = (λ u. u.2 (filled.read u.0 u.1), record { members = filled.members; beyond = filled.beyond })
