-- What it is for a call to have exactly one outcome, and to refuse by its rows; and that each public call has one outcome for every input.
use Rattle.std.specs.Prelude.{◌≡◌, List, ℕ, Result}
use Rattle.basis.specs.declared.Refusal.{Refusal}
use Rattle.basis.specs.Rows.{Row, Gives, GivesNone}
use Rattle.constraint.specs.declared.Version.{Version}
use Rattle.constraint.specs.Reading.{Answers}
use Rattle.catalogue.specs.Tables.{Lent}
use Rattle.plan.specs.Check.{Checks}
use Rattle.lister.specs.declared.ListingRecord.{ListingRecord}
use Rattle.lister.specs.Answers.{Answer, Firsts, Nexts}
use Rattle.lister.specs.Turns.{Turns}
use Rattle.csv_text.specs.declared.Sheet.{Sheet}
use Rattle.csv_text.specs.Reading.{Reads}

-- some outcome fits, and no two different ones do
pub record One {O : Type 0} (Fits : O → Type 0) : Type 0 where
  pub some : (o : O) × Fits o
  pub only : (o p : O) → Fits o → Fits p → o ≡ p

-- for every input of a public call one outcome: all that it answers, and all that it leaves in what was lent
pub record OneOutcome : Type 0 where
  pub reading : (part : List ℕ) (v : Version) → One (Answers part v)
  pub check : (L : Lent) (set : ℕ) (table : List ℕ) → One (Checks L set table)
  pub first : (L : Lent) (buffer : List ℕ) → One (λ (o : Answer × List ℕ). Firsts L buffer o.0 o.1)
  pub next : (L : Lent) (set : ℕ) (buffer : List ℕ) → One (λ (o : Answer × List ℕ). Nexts L set buffer o.0 o.1)
  pub turn : (L : Lent) (r : ListingRecord) (buffer : List ℕ) → One (λ (o : Answer × ListingRecord × List ℕ). Turns L r buffer o.0 o.1 o.2)
  pub read : (text entries slots : List ℕ) → One (λ (o : Result Sheet Refusal × List ℕ × List ℕ). Reads text entries slots o.0 o.1 o.2)

-- a call refuses by rows: where one applies, the number is that of the first that does, and what Keeps says holds; where none applies, the number is 0
pub record RefusesBy (rs : List Row) (number : ℕ) (Keeps : ℕ → Type 0) : Type 0 where
  pub given : (n : ℕ) → Gives rs n → (number ≡ n) × Keeps n
  pub clear : GivesNone rs → number ≡ 0
