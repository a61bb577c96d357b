-- What a plan chooses for a slot, and what conditions 3 and 4 ask there.
use Rattle.std.specs.Prelude.{◌≡◌, ℕ, ◌<◌, Option, MatchOption}
use Rattle.pacsolve.specs.Problem.{Problem}
use Rattle.pacsolve.specs.Plan.{Plan, MemberOf, chosen, none}

-- r is the entry that is chosen for slot s, if one is
abbrev pub Chooses : Plan → ℕ → Option ℕ → Type 0
Chooses P s r = MatchOption r (chosen P s ≡ none) (λ e. (chosen P s ≡ e) × ¬ (e ≡ none))

-- 3: a slot of a member names a member; each other slot holds 255
pub record NamedAt (p : Problem) (P : Plan) (s : ℕ) : Type 0 where
  pub filled : MemberOf P (p.owner s) → MemberOf P (chosen P s)
  pub empty : ¬ MemberOf P (p.owner s) → chosen P s ≡ none

-- 4: a slot of a member names one of the entries, which fits
abbrev pub FittingAt : Problem → Plan → ℕ → Type 0
FittingAt p P s = MemberOf P (p.owner s) → (chosen P s < p.entries) × p.fits s (chosen P s)
