-- A survey's steps put together: the keys that are handed on, and the refusal of a constraint that is not read.
use mathlib.Core.Path.{◌≡◌, ◌∙◌}
use mathlib.Core.List.{List}
use Prim.Native.Nat.{ℕ, ◌≤◌, ◌<◌}
use native.Mathlib.Omega.{arith}
use lib.ListN.{get_or, take}
use lib.Seq.{length-take-le, get_or-take}
use Rattle.std.specs.Prelude.{Result, Ok, Err}
use Rattle.basis.specs.declared.Refusal.{Refusal}
use Rattle.basis.specs.declared.Refusal.TheVariants.{Constraint}
use Rattle.basis.specs.Rows.{Gives, GivesNone, number_of}
use Rattle.constraint.specs.Selection.{unkey}
use Rattle.catalogue.specs.Tables.{Lent, entry_count, version_of}
use Rattle.catalogue.specs.Refusals.{ConstraintUnread}
use Rattle.catalogue.specs.Survey.{Indexes, Surveys, refused, sane}
use Rattle.catalogue.specs.Parts.{entries_alone, entry_key, Lists}
use Rattle.catalogue.specs.Steps.{Keys, shape_rows, setup_rows}
use Rattle.catalogue.proofs.Order.{shape_gives, unread_gives, setup_gives, none_gives}

-- the first entries of a list of 64 keys
pub keys_listed : (entries numbers : List ℕ) → entry_count (entries_alone entries) ≤ 64 → Lists (entries_alone entries) (entry_key (entries_alone entries)) numbers
    → ((e : ℕ) → e < entry_count (entries_alone entries) → unkey (get_or numbers e 0) ≡ version_of (entries_alone entries) e)
    → Keys entries (take (entry_count (entries_alone entries)) numbers)
keys_listed entries numbers few listed back =
    let n = entry_count (entries_alone entries) in
    record {
      size = length-take-le n numbers (omega (arith, listed.size));
      each = λ e h. get_or-take n numbers e 0 h ∙ listed.each e h;
      back = λ e h. rw (get_or-take n numbers e 0 h) (back e h);
    }

-- the outcomes of a survey, by what its steps answer
module _ (L : Lent) (room : ℕ) {a : Result (List ℕ) Refusal} where
  pub shape_refused : {r : Refusal} → Gives (shape_rows L) (number_of r) → a ≡ Err r → Surveys L room a
  shape_refused g e = refused (shape_gives L room g) e

  pub unread_refused : {r : Refusal} → GivesNone (shape_rows L) → ConstraintUnread L × (r ≡ Constraint) → a ≡ Err r → Surveys L room a
  unread_refused {r} shape unread e = refused {r = r} (rw unread.1 (unread_gives L room shape unread.0)) e

  pub setup_refused : {fits : List ℕ} {r : Refusal} → GivesNone (shape_rows L) → (¬ ConstraintUnread L) × Indexes L fits → Gives (setup_rows L room) (number_of r) → a ≡ Err r
      → Surveys L room a
  setup_refused shape found g e = refused (setup_gives L room shape found.0 g) e

  pub none_refused : {fits : List ℕ} → GivesNone (shape_rows L) → (¬ ConstraintUnread L) × Indexes L fits → GivesNone (setup_rows L room) → a ≡ Ok fits → Surveys L room a
  none_refused shape found g e = sane (none_gives L room shape found.0 g) e found.1
