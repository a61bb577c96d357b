-- Entries by one number each. Two names are equal exactly if package and version are, so an entry stands twice exactly if a name does.
use mathlib.Core.Path.{◌≡◌, sym, ap, ◌∙◌}
use mathlib.Core.Bool.{Bool}
use mathlib.Core.List.{List}
use Prim.Native.Nat.{ℕ, ◌+◌, ◌*◌, ◌^◌, ◌≤◌, ◌<◌}
use native.Mathlib.Omega.{arith}
use lib.Dec.{eqb, eqb→eq}
use lib.ListN.{length, get_or, take}
use lib.Seq.{length-take-le, get_or-take}
use Rattle.std.proofs.lemmas.List.{get_or_default}
use Rattle.basis.specs.Tests.{Decides}
use Rattle.basis.proofs.Decide.{decides_by, decides_eq}
use Rattle.constraint.specs.declared.Version.{Version}
use Rattle.constraint.specs.Meaning.{Same}
use Rattle.constraint.specs.Selection.{unkey}
use Rattle.constraint.proofs.Packed.{Small, key_below, unkey_key}
use Rattle.catalogue.specs.Tables.{Lent, entry_count, package_of, version_of}
use Rattle.catalogue.specs.Refusals.{EntryTwice}
use Rattle.catalogue.specs.Parts.{entry_key, entry_name, Lists, StandsTwice, Repeats}

-- every number of a table fits 16 bits
abbrev pub Numbers16 : List ℕ → Type 0
Numbers16 l = (i : ℕ) → get_or l i 0 < 2 ^ 16

module _ (L : Lent) (small : Numbers16 L.entries) where
  small_version : (e : ℕ) → Small (version_of L e)
  small_version e = record { major = small (e * 5 + 1); minor = small (e * 5 + 2); patch = small (e * 5 + 3) }

  pub version_below : (e : ℕ) → entry_key L e < 2 ^ 48
  version_below e = key_below (version_of L e) (small_version e)

  pub version_back : (e : ℕ) → unkey (entry_key L e) ≡ version_of L e
  version_back e = unkey_key (version_of L e) (small_version e)

  -- equal names: equal package and version, and the other way round
  pub same_name : (d e : ℕ) → entry_name L d ≡ entry_name L e → (package_of L d ≡ package_of L e) × Same (version_of L d) (version_of L e)
  same_name d e h =
      let packages : package_of L d ≡ package_of L e = omega (arith, version_below d, version_below e) in
      let keys : entry_key L d ≡ entry_key L e = omega arith in
      let versions : version_of L d ≡ version_of L e = sym (version_back d) ∙ ap unkey keys ∙ version_back e in
      (packages, record { major = ap (λ (v : Version). v.major) versions; minor = ap (λ (v : Version). v.minor) versions; patch = ap (λ (v : Version). v.patch) versions })

  pub name_same : (d e : ℕ) → (package_of L d ≡ package_of L e) × Same (version_of L d) (version_of L e) → entry_name L d ≡ entry_name L e
  name_same d e h = omega arith

  -- so an entry stands twice exactly if a name does
  pub names_twice : {b : Bool} (names : List ℕ) → entry_count L ≤ 64 → Lists L (entry_name L) names → Decides b (StandsTwice (take (entry_count L) names))
      → Decides b (EntryTwice L)
  names_twice names few listed = decides_by from into
    where
      n : ℕ
      n = entry_count L

      size : length (take n names) ≡ n
      size = length-take-le n names (omega (arith, listed.size))

      name_at : (e : ℕ) → e < n → get_or (take n names) e 0 ≡ entry_name L e
      name_at e h = get_or-take n names e 0 h ∙ listed.each e h

      from : StandsTwice (take n names) → EntryTwice L
      from t =
          let e = t.0 in
          let d = t.2.0 in
          let h : e < n = omega (arith, t.1, size) in
          let l : d < n = omega (arith, t.2.1) in
          (e, h, (d, t.2.1, same_name d e (sym (name_at d l) ∙ t.2.2 ∙ name_at e h)))

      into : EntryTwice L → StandsTwice (take n names)
      into t =
          let e = t.0 in
          let d = t.2.0 in
          let l : d < n = omega (arith, t.1, t.2.1) in
          (e, omega (arith, t.1, size), (d, t.2.1, name_at d l ∙ name_same d e t.2.2 ∙ sym (name_at e t.1)))

-- numbers that are told apart by their equality
pub numbers_twice : {b : Bool} (numbers : List ℕ) → Decides b (Repeats eqb numbers) → Decides b (StandsTwice numbers)
numbers_twice numbers =
    decides_by
    (λ x. (x.0, x.1, (x.2.0, x.2.1, eqb→eq _ _ (x.2.2 0))))
    (λ x. (
      x.0,
      x.1,
      (
        x.2.0,
        x.2.1,
        λ past. (decides_eq _ _).full
            (get_or_default numbers x.2.0 past 0 (omega (arith, x.1, x.2.1)) ∙ x.2.2 ∙ get_or_default numbers x.0 0 past x.1),
      ),
    ))
