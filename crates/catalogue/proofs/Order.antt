-- The number of the first row that applies, row by row and list by list; and the three steps of a survey put together to the rows of every call.
use mathlib.Core.Path.{◌≡◌, refl}
use mathlib.Core.Bool.{Bool, true, false}
use mathlib.Core.List.{[], ◌∷◌}
use mathlib.Core.Logic.{◌⊎◌, inl, inr}
use Prim.Native.Nat.{ℕ, ◌≤◌, ◌<◌}
use native.Mathlib.Omega.{arith}
use lib.ListN.{length}
use Rattle.std.specs.Prelude.{Ok}
use Rattle.basis.specs.Rows.{row, Gives, GivesNone}
use Rattle.basis.specs.Tests.{Decides}
use Rattle.basis.proofs.Answers.{holds, fails}
use Rattle.basis.proofs.Rows.{gives_before, gives_after, none_after}
use Rattle.catalogue.specs.Tables.{Lent, entry_count, slot_count, start_of, end_of}
use Rattle.catalogue.specs.Refusals.{rows, EntriesMisshapen, ConstraintUnread}
use Rattle.catalogue.specs.Steps.{Numbered, Shaped, shape_rows, setup_rows}

-- no row
pub none : Numbered [] (Ok tt)
none = tt

-- a row whose test came out true gives its number; after one whose test came out false the others decide
pub applies : {b : Bool} {A Later : Type 0} {m : ℕ} → Decides b A → b ≡ true → (A × (m ≡ m)) ⊎ Later
applies d e = inl (holds d e, refl)

pub passes : {b : Bool} {A Given Later : Type 0} → Decides b A → b ≡ false → Later → Given ⊎ (¬ A × Later)
passes d e g = inr (fails d e, g)

module _ (L : Lent) where
  pub at_most_64 : ¬ EntriesMisshapen L → entry_count L ≤ 64
  at_most_64 n = let few : ¬ (64 < entry_count L) = λ h. n (inr (inr h)) in omega arith

  -- what no row on the tables applying gives
  pub shaped : GivesNone (shape_rows L) → Shaped L
  shaped g =
      let slots = g.1.1.0 in
      let marks = g.1.1.1.1.1.0 in
      let within = g.1.1.1.1.1.1.0 in
      let few : ¬ (256 < slot_count L) = λ h. slots (inr h) in
      record {
        entries = at_most_64 g.0;
        slots = omega arith;
        marks = λ s h. let apart : ¬ (end_of L s < start_of L s) = λ x. marks (s, h, x) in omega arith;
        within = λ s h. let inside : ¬ (length L.text < end_of L s) = λ x. within (s, h, x) in omega arith;
      }

  module _ (room : ℕ) where
    -- the rows of every call, by the three steps
    pub shape_gives : {n : ℕ} → Gives (shape_rows L) n → Gives (rows L room) n
    unfolding rows
    shape_gives {n} g = gives_before (shape_rows L) (row 4 (ConstraintUnread L) ∷ setup_rows L room) n g

    pub unread_gives : GivesNone (shape_rows L) → ConstraintUnread L → Gives (rows L room) 4
    unfolding rows
    unread_gives g u = gives_after (shape_rows L) (row 4 (ConstraintUnread L) ∷ setup_rows L room) 4 g (inl (u, refl))

    pub setup_gives : {n : ℕ} → GivesNone (shape_rows L) → ¬ ConstraintUnread L → Gives (setup_rows L room) n → Gives (rows L room) n
    unfolding rows
    setup_gives {n} g u h = gives_after (shape_rows L) (row 4 (ConstraintUnread L) ∷ setup_rows L room) n g (inr (u, h))

    pub none_gives : GivesNone (shape_rows L) → ¬ ConstraintUnread L → GivesNone (setup_rows L room) → GivesNone (rows L room)
    unfolding rows
    none_gives g u h = none_after (shape_rows L) (row 4 (ConstraintUnread L) ∷ setup_rows L room) g (u, h)
