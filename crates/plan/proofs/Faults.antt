-- The first fault of a plan, by the first condition that does not hold. Two problems whose conditions hold of the same plans have the same faults. A condition and
-- its number tell each other.
use mathlib.Core.Path.{◌≡◌, refl, sym, ap, ◌∙◌}
use mathlib.Core.Logic.{◌⊎◌, ◌↔◌, inl, inr, ⊎_elim}
use Prim.Native.Nat.{ℕ, zero, suc}
use Rattle.basis.specs.Bytes.{All}
use Rattle.basis.specs.Rows.{Gives, GivesNone}
use Rattle.basis.proofs.Rows.{Settled, gives_some, gives_among}
use Rattle.pacsolve.specs.declared.Condition.{Condition}
use Rattle.pacsolve.specs.declared.Condition.TheVariants as condition
use Rattle.pacsolve.specs.Problem.{Problem}
use Rattle.pacsolve.specs.Plan.{Plan, Rooted, Reached, Named, Fitting, Consistent, Acyclic, faults, condition_number}

pub fault_1 : (p : Problem) (P : Plan) → ¬ Rooted p P → Gives (faults p P) 1
fault_1 p P n = inl (n, refl)

pub fault_2 : (p : Problem) (P : Plan) → Rooted p P → ¬ Reached p P → Gives (faults p P) 2
fault_2 p P one n = inr (λ x. x one, inl (n, refl))

pub fault_3 : (p : Problem) (P : Plan) → Rooted p P → Reached p P → ¬ Named p P → Gives (faults p P) 3
fault_3 p P one two n = inr (λ x. x one, inr (λ x. x two, inl (n, refl)))

pub fault_4 : (p : Problem) (P : Plan) → Rooted p P → Reached p P → Named p P → ¬ Fitting p P → Gives (faults p P) 4
fault_4 p P one two three n = inr (λ x. x one, inr (λ x. x two, inr (λ x. x three, inl (n, refl))))

module _ (p : Problem) (P : Plan) (one : Rooted p P) (two : Reached p P) (three : Named p P) (four : Fitting p P) where
  pub fault_5 : ¬ Consistent p P → Gives (faults p P) 5
  fault_5 n =
      inr (λ x. x one, inr (λ x. x two, inr (λ x. x three, inr (λ x. x four, inl (n, refl)))))

  pub fault_6 : Consistent p P → ¬ Acyclic p P → Gives (faults p P) 6
  fault_6 five n =
      inr (λ x. x one, inr (λ x. x two, inr (λ x. x three, inr (λ x. x four, inr (λ x. x five, inl (n, refl))))))

-- one row of faults, of a condition that holds exactly if another does
carried : {A B G H : Type 0} {k n : ℕ} → A ↔ B → (G → H) → (¬ A × (k ≡ n)) ⊎ (¬ ¬ A × G) → (¬ B × (k ≡ n)) ⊎ (¬ ¬ B × H)
carried same rest x = ⊎_elim (λ y. inl (λ b. y.0 (same.1 b), y.1)) (λ y. inr (λ f. y.0 (λ a. f (same.0 a)), rest y.1)) x

pub faults_carried : (p q : Problem) (P : Plan) → Rooted p P ↔ Rooted q P → Reached p P ↔ Reached q P → Named p P ↔ Named q P → Fitting p P ↔ Fitting q P
    → Consistent p P ↔ Consistent q P → Acyclic p P ↔ Acyclic q P → (k : ℕ) → Gives (faults p P) k → Gives (faults q P) k
faults_carried p q P one two three four five six k x = carried one (carried two (carried three (carried four (carried five (carried six (λ z. z)))))) x

-- the condition with a number; there is none with 0 or past 6, and Acyclic stands for it
named : ℕ → Condition
named zero = condition.Acyclic
named (suc zero) = condition.Rooted
named (suc (suc zero)) = condition.Reached
named (suc (suc (suc zero))) = condition.Named
named (suc (suc (suc (suc zero)))) = condition.Fitting
named (suc (suc (suc (suc (suc zero))))) = condition.Consistent
named (suc (suc (suc (suc (suc (suc n)))))) = condition.Acyclic

named_number : (k : Condition) → named (condition_number k) ≡ k
unfolding named
named_number condition.Rooted = refl
named_number condition.Reached = refl
named_number condition.Named = refl
named_number condition.Fitting = refl
named_number condition.Consistent = refl
named_number condition.Acyclic = refl

pub condition_differs : {j k : Condition} → condition_number j ≡ condition_number k → j ≡ k
condition_differs {j} {k} e = sym (named_number j) ∙ ap named e ∙ named_number k

-- a row's number is a condition's
record Breaks (n : ℕ) : Type 0 where
  pub broken : Condition
  pub number : condition_number broken ≡ n

breaks : (k : Condition) → Breaks (condition_number k)
breaks k = record { broken = k; number = refl }

faults_break : (p : Problem) (P : Plan) → All (λ r. Breaks r.number) (faults p P)
faults_break p P =
    (breaks condition.Rooted, (breaks condition.Reached, (breaks condition.Named, (breaks condition.Fitting, (breaks condition.Consistent, (breaks condition.Acyclic, tt))))))

-- so of a plan's faults one is given, or there is none
pub faults_one : (p : Problem) (P : Plan) → Settled (faults p P) → ((k : Condition) × Gives (faults p P) (condition_number k)) ⊎ GivesNone (faults p P)
faults_one p P s =
    ⊎_elim (λ g. let b = gives_among Breaks (faults p P) g.0 (faults_break p P) g.1 in inl (b.broken, rw b.number g.1)) inr (gives_some (faults p P) s)
