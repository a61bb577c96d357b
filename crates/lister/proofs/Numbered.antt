-- The rows of asking and of turning are numbered by refusals.
use mathlib.Core.List.{List, [], ◌∷◌, ◌++◌}
use Prim.Native.Nat.{ℕ}
use lib.ListN.{length}
use Rattle.basis.specs.Bytes.{All}
use Rattle.basis.specs.declared.Refusal.TheVariants.{Stage, Unsound, NoPlan}
use Rattle.basis.specs.Rows.{Row}
use Rattle.basis.proofs.Refusals.{Refuses, refuses}
use Rattle.pacsolve.specs.Listing.{Asked, from_the_start, after}
use Rattle.catalogue.specs.Tables.{Lent}
use Rattle.catalogue.specs.Refusals.{rows}
use Rattle.plan.proofs.Outcome.{rows_refuse}
use Rattle.lister.specs.declared.ListingRecord.{ListingRecord}
use Rattle.lister.specs.Answers.{ask_rows}
use Rattle.lister.specs.Turns.{turn_rows}

abbrev pub Numbered : List Row → Type 0
Numbered rs = All (λ (r : Row). Refuses r.number) rs

numbered_append : (rs ss : List Row) → Numbered rs → Numbered ss → Numbered (rs ++ ss)
numbered_append [] ss a b = b
numbered_append (r ∷ rs) ss a b = (a.0, numbered_append rs ss a.1 b)

module _ (L : Lent) where
  pub ask_numbered : (room : ℕ) (q : Asked) → Numbered (ask_rows L room q)
  ask_numbered room from_the_start = numbered_append (rows L room) _ (rows_refuse L room) (refuses NoPlan, tt)
  ask_numbered room (after P) = numbered_append (rows L room) _ (rows_refuse L room) (refuses Unsound, (refuses NoPlan, tt))

  pub turn_numbered : (r : ListingRecord) (buffer : List ℕ) → Numbered (turn_rows L r buffer)
  turn_numbered r buffer =
      numbered_append (rows L (length buffer)) _ (rows_refuse L (length buffer)) (refuses Stage, (refuses Unsound, (refuses NoPlan, tt)))
