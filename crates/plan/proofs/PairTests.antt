-- What tells condition 5 of two entries, and that it asks the same of them in either order.
use mathlib.Core.Path.{◌≡◌, sym}
use mathlib.Core.List.{List}
use mathlib.Core.Logic.{◌⊎◌, inl, inr}
use Prim.Native.Nat.{ℕ}
use Rattle.bitset.specs.Bits.{Member}
use Rattle.constraint.specs.declared.Version.{Version}
use Rattle.catalogue.specs.Gives.{Together}
use Rattle.plan.specs.Pairs.{version, Beside}

together_turned : (mode : ℕ) (v w : Version) → Together mode v w → Together mode w v
together_turned mode v w t = record { by_cargo = λ m e. t.by_cargo m (sym e); by_pip = t.by_pip }

pub beside_turned : (entries : List ℕ) (mode d e : ℕ) → Beside entries mode d e → Beside entries mode e d
beside_turned entries mode d e b k = together_turned mode (version entries d) (version entries e) (b (sym k))

-- every two different members of the set may stand beside each other
abbrev pub Pairwise : List ℕ → ℕ → ℕ → ℕ → Type 0
Pairwise entries mode set d = (e : ℕ) → Member set e → ¬ (d ≡ e) → Beside entries mode d e

-- d may stand beside every other member, where it may beside those left, and each passed before may beside d
pub pairs_on : (entries : List ℕ) (mode set less d : ℕ) → Member set d → ((e : ℕ) → Member less e → Beside entries mode d e)
    → ((e : ℕ) → Member set e → ¬ (e ≡ d) → Member less e ⊎ Pairwise entries mode set e) → Pairwise entries mode set d
pairs_on entries mode set less d m all other e n differ = go (other e n (λ p. differ (sym p)))
  where
    go : Member less e ⊎ Pairwise entries mode set e → Beside entries mode d e
    go (inl l) = all e l
    go (inr q) = beside_turned entries mode e d (q d m (λ p. differ (sym p)))
