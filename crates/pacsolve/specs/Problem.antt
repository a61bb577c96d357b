-- What a catalogue with settings comes down to, whatever tables and text it was given in.
use Rattle.std.specs.Prelude.{List, ℕ}

pub record Problem : Type 1 where
  -- how many entries and slots there are, each numbered from 0; and the root entry
  pub entries : ℕ
  pub slots : ℕ
  pub root : ℕ
  -- of a slot: the entry whose dependency it is, and whether an entry is of the wanted package with a version that fits the constraint
  pub owner : ℕ → ℕ
  pub fits : ℕ → ℕ → Type 0
  -- of an entry: its package, by number, and its weight
  pub kind : ℕ → ℕ
  pub weight : ℕ → ℕ
  -- whether two different entries of one package may stand in one plan
  pub together : ℕ → ℕ → Type 0
  -- whether cycles are forbidden
  pub forbidden : Type 0
  -- what is to be low, the most important first, by code
  pub objectives : List ℕ
