-- A plan and the six conditions under which it is sound.
use Rattle.std.specs.Prelude.{◌≡◌, List, [], ◌∷◌, ℕ, ◌<◌, get_or}
use Rattle.basis.specs.Rows.{Row, row}
use Rattle.bitset.specs.Bits.{Member}
use Rattle.pacsolve.specs.declared.Condition.{Condition}
use Rattle.pacsolve.specs.declared.Condition.TheVariants as condition
use Rattle.pacsolve.specs.declared.Plan.{Plan as LentPlan}
use Rattle.pacsolve.specs.Problem.{Problem}

-- a set of entries, bit e for entry e, and a table: for each slot the chosen entry, or 255 for none
pub record Plan : Type 0 where
  pub set : ℕ
  pub table : List ℕ

abbrev pub none : ℕ
none = 255

abbrev pub plan : ℕ → List ℕ → Plan
plan set table = record { set = set; table = table }

-- the plan that is lent to code
abbrev pub plan_of : LentPlan → Plan
plan_of p = plan p.set p.table.now

-- what the table holds for a slot
abbrev pub chosen : Plan → ℕ → ℕ
chosen P s = get_or P.table s none

abbrev pub MemberOf : Plan → ℕ → Type 0
MemberOf P e = Member P.set e

-- one step: from a member to a member that is named in one of its slots, never backwards
pub record Step (p : Problem) (P : Plan) (d e : ℕ) : Type 0 where
  pub slot : ℕ
  pub there : slot < p.slots
  pub its : p.owner slot ≡ d
  pub names : chosen P slot ≡ e
  pub from : MemberOf P d
  pub to : MemberOf P e

-- a walk of no step or more
pub data Walk (p : Problem) (P : Plan) (d : ℕ) : ℕ → Type 0 where
  here : Walk p P d d
  on : {e f : ℕ} → Walk p P d e → Step p P e f → Walk p P d f

-- 1. The set names only existing entries and holds the root.
pub record Rooted (p : Problem) (P : Plan) : Type 0 where
  pub existing : (e : ℕ) → MemberOf P e → e < p.entries
  pub root : MemberOf P p.root

-- 2. Every member is reached from the root.
abbrev pub Reached : Problem → Plan → Type 0
Reached p P = (e : ℕ) → MemberOf P e → Walk p P p.root e

-- 3. Each slot of a member names a member; each other slot holds 255.
pub record Named (p : Problem) (P : Plan) : Type 0 where
  pub filled : (s : ℕ) → s < p.slots → MemberOf P (p.owner s) → MemberOf P (chosen P s)
  pub empty : (s : ℕ) → s < p.slots → ¬ MemberOf P (p.owner s) → chosen P s ≡ none

-- 4. Each slot of a member names an entry of the wanted package whose version fits the constraint.
abbrev pub Fitting : Problem → Plan → Type 0
Fitting p P = (s : ℕ) → s < p.slots → MemberOf P (p.owner s) → (chosen P s < p.entries) × p.fits s (chosen P s)

-- 5. Two different members of one package are consistent.
abbrev pub Consistent : Problem → Plan → Type 0
Consistent p P = (d e : ℕ) → MemberOf P d → MemberOf P e → ¬ (d ≡ e) → p.kind d ≡ p.kind e → p.together d e

-- 6. Cycles forbidden: no walk of one chosen slot or more returns to where it began.
abbrev pub Acyclic : Problem → Plan → Type 0
Acyclic p P = p.forbidden → (d e : ℕ) → Step p P d e → ¬ Walk p P e d

pub record Sound (p : Problem) (P : Plan) : Type 0 where
  pub rooted : Rooted p P
  pub reached : Reached p P
  pub named : Named p P
  pub fitting : Fitting p P
  pub consistent : Consistent p P
  pub acyclic : Acyclic p P

-- the conditions as rows: the first that fails names the plan's fault
abbrev pub faults : Problem → Plan → List Row
faults p P =
    row 1 (¬ Rooted p P) ∷ row 2 (¬ Reached p P) ∷ row 3 (¬ Named p P) ∷ row 4 (¬ Fitting p P) ∷ row 5 (¬ Consistent p P) ∷ row 6 (¬ Acyclic p P) ∷ []

-- a condition's number
abbrev pub condition_number : Condition → ℕ
condition_number condition.Rooted = 1
condition_number condition.Reached = 2
condition_number condition.Named = 3
condition_number condition.Fitting = 4
condition_number condition.Consistent = 5
condition_number condition.Acyclic = 6
