-- ONE OUTCOME: for every input of each public call some outcome fits its relation, and no two different ones do. And a survey, which the calls begin with, has one.
use mathlib.Core.Path.{◌≡◌, sym, ◌∙◌}
use Prim.Native.Nat.{ℕ, ◌≤◌, ◌<◌}
use native.Mathlib.Decide.{dec_lt}
use native.Mathlib.Omega.{arith}
use lib.ListN.{length, get_or}
use lib.Seq.{ext_get_or}
use Rattle.std.specs.Prelude.{List, Result, IfOk}
use Rattle.basis.specs.declared.Refusal.{Refusal}
use Rattle.basis.specs.Rows.{number_of as refusal_number}
use Rattle.basis.proofs.Refusals.{number_differs}
use Rattle.basis.proofs.Rows.{gives_one, gives_not_none}
use Rattle.bitset.proofs.Sets.{same_members}
use Rattle.constraint.proofs.Outcome.{reading_one, reading_some}
use Rattle.catalogue.specs.Tables.{Lent, slot_count}
use Rattle.catalogue.specs.Refusals.{rows}
use Rattle.catalogue.specs.Survey.{Indexes, Surveys, refused, sane}
use Rattle.plan.proofs.Outcome.{check_one, check_some}
use Rattle.lister.proofs.Outcome.{first_one, first_some, next_one, next_some}
use Rattle.lister.proofs.TurnOutcome.{turn_one, turn_some}
use Rattle.csv_text.proofs.Outcome.{read_one, read_some}
use Rattle.demands.specs.Outcomes.{One, OneOutcome}

-- an answer with what is left in one place, or in two
pair_one : {A B : Type 0} (Fits : A → B → Type 0) → ((a : A) × (b : B) × Fits a b)
    → ((a c : A) (b d : B) → Fits a b → Fits c d → (a ≡ c) × (b ≡ d)) → One (λ (o : A × B). Fits o.0 o.1)
pair_one Fits some one =
    record {
      some = ((some.0, some.1), some.2);
      only = λ o p f g. let same = one o.0 p.0 o.1 p.1 f g in λ i. (same.0 i, same.1 i);
    }

triple_one : {A B C : Type 0} (Fits : A → B → C → Type 0) → ((a : A) × (b : B) × (c : C) × Fits a b c)
    → ((a d : A) (b e : B) (c f : C) → Fits a b c → Fits d e f → (a ≡ d) × (b ≡ e) × (c ≡ f)) → One (λ (o : A × B × C). Fits o.0 o.1 o.2)
triple_one Fits some one =
    record {
      some = ((some.0, some.1, some.2), some.3);
      only = λ o p f g. let same = one o.0 p.0 o.1 p.1 o.2 p.2 f g in λ i. (same.0 i, same.1 i, same.2 i);
    }

pub one_outcome : OneOutcome
one_outcome =
    record {
      reading = λ part v. record { some = reading_some part v; only = reading_one part v };
      check = λ L set table. record { some = check_some L set table; only = check_one L set table };
      first = λ L buffer. pair_one _ (first_some L buffer) (first_one L buffer);
      next = λ L set buffer. pair_one _ (next_some L set buffer) (next_one L set buffer);
      turn = λ L r buffer. triple_one _ (turn_some L r buffer) (turn_one L r buffer);
      read = λ text entries slots. triple_one _ (read_some text entries slots) (read_one text entries slots);
    }

-- the sets of a survey are fixed by what they say of each slot, and 256 of them stand in it
indexed_one : (L : Lent) (f g : List ℕ) → length f ≡ 256 → length g ≡ 256 → Indexes L f → Indexes L g → f ≡ g
indexed_one L f g size size' x y = ext_get_or 0 f g (size ∙ sym size') (λ s h. slot s (dec_lt s (slot_count L)))
  where
    slot : (s : ℕ) → Dec (s < slot_count L) → get_or f s 0 ≡ get_or g s 0
    slot s (yes h) =
        same_members (get_or f s 0) (get_or g s 0) (λ e m. (y.members s h e).1 ((x.members s h e).0 m)) (λ e m. (x.members s h e).1 ((y.members s h e).0 m))
    slot s (no h) = let past : slot_count L ≤ s = omega arith in x.beyond s past ∙ sym (y.beyond s past)

-- a survey's sets are 256
abbrev pub Full : Result (List ℕ) Refusal → Type 0
Full a = IfOk a (λ fits. length fits ≡ 256)

pub survey_one : (L : Lent) (room : ℕ) (a b : Result (List ℕ) Refusal) → Full a → Full b → Surveys L room a → Surveys L room b → a ≡ b
survey_one L room a b size size' (refused {r = r} g e) (refused {r = s} h f) =
    let same : r ≡ s = number_differs (gives_one (rows L room) (refusal_number r) (refusal_number s) g h) in cc
survey_one L room a b size size' (refused {r = r} g e) (sane none z x) = absurd (gives_not_none (rows L room) (refusal_number r) g none)
survey_one L room a b size size' (sane none z x) (refused {r = r} g e) = absurd (gives_not_none (rows L room) (refusal_number r) g none)
survey_one L room a b size size' (sane {fits = f} none z x) (sane {fits = g} none' z' y) =
    let same : f ≡ g = indexed_one L f g (rw z at size) (rw z' at size') x y in cc
