-- Numbers that a byte ends: the longest number that a text begins with is the only one that another byte than a digit can end.
use mathlib.Core.Path.{◌≡◌, sym, ap, ◌∙◌}
use mathlib.Core.List.{List, [], ◌∷◌, ◌++◌, append_assoc, tail-eq_of_cons-eq}
use Prim.Native.Nat.{ℕ, ◌+◌, ◌≤◌, ◌<◌}
use native.Mathlib.Decide.{dec_lt}
use native.Mathlib.Omega.{arith}
use lib.ListN.{length, get_or, take, length-append}
use lib.Seq.{take-take, take-append_seam, length-take-le, get_or-take, get_or-append_seam}
use Rattle.basis.proofs.Runs.{run_ends}
use Rattle.constraint.specs.Numeral.{Digit}
use Rattle.constraint.specs.Reader.{Longest, Unnumbered, Begins, Never, Ended}
use Rattle.constraint.proofs.Beginnings.{Fixes}
use Rattle.constraint.proofs.Texts.{all_at}

-- a number and the byte that ends it are fixed by the text
pub ended_fixes : (stop m n : ℕ) → ¬ Digit stop → Fixes (Ended stop m) (Ended stop n)
ended_fixes stop m n none x y s t p q e =
    let joined : p.digits ++ (stop ∷ s) ≡ q.digits ++ (stop ∷ t) = simp (p.whole, q.whole, append_assoc) at e in
    let r = run_ends Digit p.digits q.digits p.numeral.digits q.numeral.digits none none joined in
    (p.whole ∙ ap (λ (l : List ℕ). l ++ (stop ∷ [])) r.0 ∙ sym q.whole, tail-eq_of_cons-eq r.1)

-- the bytes before the byte that ends a number
module _ {text : List ℕ} {stop m w : ℕ} (b : Begins (Ended stop m) text w) where
  ended_size : w ≡ length b.holds.digits + 1
  ended_size = sym (length-take-le w text b.within) ∙ ap length b.holds.whole ∙ length-append b.holds.digits (stop ∷ [])

  ended_before : take (length b.holds.digits) text ≡ b.holds.digits
  ended_before =
      sym (take-take (length b.holds.digits) w text (omega (arith, ended_size)))
      ∙ ap (take (length b.holds.digits)) b.holds.whole
      ∙ take-append_seam b.holds.digits (stop ∷ [])

  ended_after : get_or text (length b.holds.digits) 0 ≡ stop
  ended_after =
      sym (get_or-take w text (length b.holds.digits) 0 (omega (arith, ended_size)))
      ∙ ap (λ (l : List ℕ). get_or l (length b.holds.digits) 0) b.holds.whole
      ∙ get_or-append_seam b.holds.digits stop [] 0

-- so where a text begins with no number, none is ended there
pub ended_unnumbered : {text : List ℕ} {stop : ℕ} → Unnumbered text → (m : ℕ) → Never (Ended stop m) text
ended_unnumbered none m w b =
    none (length b.holds.digits) m (omega (arith, ended_size b, b.within)) (rw (ended_before b) b.holds.numeral)

-- any number that the byte stop ends is the longest, and stop stands right after it
pub ended_there : {text : List ℕ} {n u : ℕ} {stop m w : ℕ} → Longest text n u → ¬ Digit stop → Begins (Ended stop m) text w
    → (u < length text) × (get_or text u 0 ≡ stop)
ended_there {text} {n} {u} {stop} {m} {w} l none b = found (dec_lt j u)
  where
    j : ℕ
    j = length b.holds.digits

    most : j ≤ u
    most = l.longest j m (omega (arith, ended_size b, b.within)) (rw (ended_before b) b.holds.numeral)

    found : Dec (j < u) → (u < length text) × (get_or text u 0 ≡ stop)
    found (yes h) = absurd (none (rw (ended_after b) at (all_at Digit text u j l.numeral.digits h (omega (arith, ended_size b, b.within)))))
    found (no h) =
        let same : j ≡ u = omega (arith, most) in
        (omega (arith, ended_size b, b.within, same), rw same at (ended_after b))

-- so where that byte does not stand after the longest number, no number is ended by it
pub ended_never : {text : List ℕ} {n u : ℕ} {stop : ℕ} → Longest text n u → ¬ Digit stop → ¬ ((u < length text) × (get_or text u 0 ≡ stop))
    → (m : ℕ) → Never (Ended stop m) text
ended_never l none f m w b = f (ended_there l none b)
