-- A refusal and its number tell each other: no two refusals have one number, and each of 1 to 12 is a refusal's.
use mathlib.Core.Path.{◌≡◌, refl, sym, ap, ◌∙◌}
use mathlib.Core.List.{List}
use mathlib.Core.Logic.{◌⊎◌, inl, inr, ⊎_elim}
use Prim.Native.Nat.{ℕ, zero, suc, ◌≤◌}
use native.Mathlib.Omega.{arith}
use Rattle.basis.specs.Bytes.{All}
use Rattle.basis.specs.declared.Refusal.{Refusal}
use Rattle.basis.specs.declared.Refusal.TheVariants.{Entries, EntryTwice, Slots, Constraint, Root, Settings, Size, Weights, Stage, Unsound, NoPlan, Text}
use Rattle.basis.specs.Rows.{Row, Gives, GivesNone, number_of}
use Rattle.basis.proofs.Rows.{Settled, gives_some, gives_among}

-- the refusal with a number; past 12 there is none, and Text stands for it
named : ℕ → Refusal
named zero = Text
named (suc zero) = Entries
named (suc (suc zero)) = EntryTwice
named (suc (suc (suc zero))) = Slots
named (suc (suc (suc (suc zero)))) = Constraint
named (suc (suc (suc (suc (suc zero))))) = Root
named (suc (suc (suc (suc (suc (suc zero)))))) = Settings
named (suc (suc (suc (suc (suc (suc (suc zero))))))) = Size
named (suc (suc (suc (suc (suc (suc (suc (suc zero)))))))) = Weights
named (suc (suc (suc (suc (suc (suc (suc (suc (suc zero))))))))) = Stage
named (suc (suc (suc (suc (suc (suc (suc (suc (suc (suc zero)))))))))) = Unsound
named (suc (suc (suc (suc (suc (suc (suc (suc (suc (suc (suc n))))))))))) = last n
  where
    last : ℕ → Refusal
    last zero = NoPlan
    last (suc n) = Text

named_number : (r : Refusal) → named (number_of r) ≡ r
unfolding named
named_number Entries = refl
named_number EntryTwice = refl
named_number Slots = refl
named_number Constraint = refl
named_number Root = refl
named_number Settings = refl
named_number Size = refl
named_number Weights = refl
named_number Stage = refl
named_number Unsound = refl
named_number NoPlan = refl
named_number Text = refl

pub number_differs : {r s : Refusal} → number_of r ≡ number_of s → r ≡ s
number_differs {r} {s} e = sym (named_number r) ∙ ap named e ∙ named_number s

pub number_above : (r : Refusal) → 1 ≤ number_of r
number_above Entries = omega arith
number_above EntryTwice = omega arith
number_above Slots = omega arith
number_above Constraint = omega arith
number_above Root = omega arith
number_above Settings = omega arith
number_above Size = omega arith
number_above Weights = omega arith
number_above Stage = omega arith
number_above Unsound = omega arith
number_above NoPlan = omega arith
number_above Text = omega arith

-- a row's number is a refusal's
pub record Refuses (n : ℕ) : Type 0 where
  pub refusal : Refusal
  pub number : number_of refusal ≡ n

pub refuses : (r : Refusal) → Refuses (number_of r)
refuses r = record { refusal = r; number = refl }

-- so of rows with such numbers one refusal is given, or none applies
pub gives_refusal : (rs : List Row) → All (λ r. Refuses r.number) rs → Settled rs → ((r : Refusal) × Gives rs (number_of r)) ⊎ GivesNone rs
gives_refusal rs a s = ⊎_elim (λ g. let n = gives_among Refuses rs g.0 a g.1 in inl (n.refusal, rw n.number g.1)) inr (gives_some rs s)

-- what rows with such numbers give is a refusal's number
pub given_refusal : (rs : List Row) (n : ℕ) → All (λ r. Refuses r.number) rs → Gives rs n → Refuses n
given_refusal rs n a g = gives_among Refuses rs n a g
