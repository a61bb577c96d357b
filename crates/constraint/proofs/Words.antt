-- Words: how far a text goes along with a fixed word is how many of the pairs of their bytes are alike before the first that are not.
use mathlib.Core.Path.{◌≡◌, refl, ap}
use mathlib.Core.Bool.{Bool, true, false, cond}
use mathlib.Core.List.{List, [], ◌∷◌}
use Prim.Native.Nat.{ℕ, suc, ◌+◌}
use native.Mathlib.Nat.{not-suc-le-zero}
use native.Mathlib.Omega.{arith}
use lib.Dec.{eqb}
use Rattle.std.specs.List.{zip, prefix_len}
use Rattle.basis.proofs.Answers.{holds, fails}
use Rattle.basis.proofs.Decide.{decides_eq}
use Rattle.constraint.specs.Reader.{Agrees}

-- two bytes are alike
abbrev pub alike : ℕ × ℕ → Bool
alike p = eqb p.0 p.1

-- two texts that begin with one byte agree in it too
agrees_more : (a : ℕ) (s t : List ℕ) (r : ℕ) → Agrees s t r → Agrees (a ∷ s) (a ∷ t) (suc r)
agrees_more a s t r g =
    record {
      within_text = omega (arith, g.within_text);
      within_word = omega (arith, g.within_word);
      same = ap (λ (l : List ℕ). a ∷ l) g.same;
      stops = λ l k. g.stops (omega arith) (omega arith);
    }

pub agrees_zip : (s t : List ℕ) → Agrees s t (prefix_len alike (zip s t))
agrees_zip [] t = record { within_text = omega arith; within_word = omega arith; same = refl; stops = λ l. absurd (not-suc-le-zero l) }
agrees_zip (a ∷ s) [] = record { within_text = omega arith; within_word = omega arith; same = refl; stops = λ l k. absurd (not-suc-le-zero k) }
agrees_zip (a ∷ s) (b ∷ t) = go (eqb a b) refl (agrees_zip s t)
  where
    go : (x : Bool) → eqb a b ≡ x → Agrees s t (prefix_len alike (zip s t)) → Agrees (a ∷ s) (b ∷ t) (cond x (1 + prefix_len alike (zip s t)) 0)
    go true e rest =
        let same : a ≡ b = holds (decides_eq a b) e in
        let more : 1 + prefix_len alike (zip s t) ≡ suc (prefix_len alike (zip s t)) = omega arith in
        rw (same, more) (agrees_more b s t _ rest)
    go false e rest = record { within_text = omega arith; within_word = omega arith; same = refl; stops = λ l k. fails (decides_eq a b) e }
