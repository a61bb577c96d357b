-- What a survey of a catalogue answers: the refusal, or for every slot the set of the entries that fit it; and the problem that such sets give.
use Rattle.std.specs.Prelude.{◌≡◌, List, [], ◌↔◌, ℕ, ◌≤◌, ◌<◌, get_or, Result, Ok, Err}
use Rattle.basis.specs.declared.Refusal.{Refusal}
use Rattle.basis.specs.Rows.{Gives, GivesNone, number_of}
use Rattle.bitset.specs.Bits.{Member}
use Rattle.pacsolve.specs.Problem.{Problem}
use Rattle.catalogue.specs.declared.Settings.{Settings}
use Rattle.catalogue.specs.Tables.{Lent, lent, entry_count, package_of, version_of, weight_of, slot_count, owner_of}
use Rattle.catalogue.specs.Refusals.{rows}
use Rattle.catalogue.specs.Gives.{Fits, Together}

-- fits holds, for every slot, the set of the entries that fit it, and nothing past the slots
pub record Indexes (L : Lent) (fits : List ℕ) : Type 0 where
  pub members : (s : ℕ) → s < slot_count L → (e : ℕ) → Member (get_or fits s 0) e ↔ ((e < entry_count L) × Fits L s e)
  pub beyond : (s : ℕ) → slot_count L ≤ s → get_or fits s 0 ≡ 0

-- THE RELATION of a survey: the refusal whose number the first row that applies has, or where none does the sets
pub data Surveys (L : Lent) (room : ℕ) (a : Result (List ℕ) Refusal) : Type 0 where
  refused : {r : Refusal} → Gives (rows L room) (number_of r) → a ≡ Err r → Surveys L room a
  sane : {fits : List ℕ} → GivesNone (rows L room) → a ≡ Ok fits → Indexes L fits → Surveys L room a

-- the problem whose fits are given by sets, one per slot
abbrev pub indexed : Lent → List ℕ → Problem
indexed L fits =
    record {
      entries = entry_count L;
      slots = slot_count L;
      root = L.settings.root;
      owner = owner_of L;
      fits = λ s e. Member (get_or fits s 0) e;
      kind = package_of L;
      weight = weight_of L;
      together = λ d e. Together L.settings.mode (version_of L d) (version_of L e);
      forbidden = L.settings.cycles ≡ 0;
      objectives = L.objectives;
    }

-- the same from the tables alone, which is all that it looks at
abbrev pub tabled : List ℕ → List ℕ → Settings → List ℕ → List ℕ → Problem
tabled entries slots settings objectives fits = indexed (lent entries slots [] settings objectives) fits
