-- The proof of the cycle of calls {constraint, pair}, by the laws of forms and of pairs.
use native.Mathlib.Omega.{arith}
use Rattle.basis.proofs.Answers.{holds}
use Rattle.constraint.proofs.Beginnings.{never_word}
use Rattle.constraint.proofs.Forms.{meet, join, parses_none, parses_pair, parses_no_pair, parses_bound}
use Rattle.constraint.proofs.Pairs.{reads_both, reads_no_one, reads_no_gap, reads_no_other, reads_no_close}
use Rattle.constraint.proofs.Texts.{part_from}
use Rattle.constraint.proofs.reader.+constraint_pair.Goals as goal

pub constraint-returns-then-left-eq0 : goal.constraint-returns-then-left-eq0
constraint-returns-then-left-eq0 t c = parses_none _ c.if-left-eq0.true

pub constraint-returns-in_err-sides : goal.constraint-returns-in_err-sides
constraint-returns-in_err-sides t c =
    rw c.from_residual.ensures
    (parses_no_pair meet _ (omega arith) (holds c.begins-2.ensures c.if-begins-2.true)
    (simp part_from at c.in_err-sides.ensures))

pub constraint-returns-then-begins-2 : goal.constraint-returns-then-begins-2
constraint-returns-then-begins-2 t c =
    parses_pair meet _ (omega arith) (holds c.begins-2.ensures c.if-begins-2.true)
    (simp part_from at c.in_ok-sides.ensures)

pub constraint-returns-in_err-sides-2 : goal.constraint-returns-in_err-sides-2
constraint-returns-in_err-sides-2 t c =
    rw c.from_residual-in_err-sides-2.ensures
    (parses_no_pair join _ (omega arith) (holds c.begins-3.ensures c.if-begins-3.true)
    (simp part_from at c.in_err-sides-2.ensures))

pub constraint-returns-then-begins-3 : goal.constraint-returns-then-begins-3
constraint-returns-then-begins-3 t c =
    parses_pair join _ (omega arith) (holds c.begins-3.ensures c.if-begins-3.true)
    (simp part_from at c.in_ok-sides-2.ensures)

pub constraint-returns : goal.constraint-returns
constraint-returns t c =
    parses_bound _ _ _ (omega arith)
    (never_word c.begins.ensures c.if-begins.false)
    (never_word c.begins-2.ensures c.if-begins-2.false)
    (never_word c.begins-3.ensures c.if-begins-3.false)
    c.bound.ensures

pub pair-returns-in_err-one : goal.pair-returns-in_err-one
pair-returns-in_err-one t c = rw c.from_residual.ensures (reads_no_one c.in_err-one.ensures)

pub pair-returns-then-not-begins : goal.pair-returns-then-not-begins
pair-returns-then-not-begins t c =
    reads_no_gap c.in_ok-one.ensures
    (simp part_from at (never_word c.begins.ensures c.if-not-begins.true))

pub pair-returns-in_err-other : goal.pair-returns-in_err-other
pair-returns-in_err-other t c =
    rw c.from_residual-in_err-other.ensures
    (reads_no_other c.in_ok-one.ensures
    (simp part_from at (holds c.begins.ensures c.if-not-begins.false))
    (simp part_from at c.in_err-other.ensures))

pub pair-returns-then-not-begins-2 : goal.pair-returns-then-not-begins-2
pair-returns-then-not-begins-2 t c =
    reads_no_close c.in_ok-one.ensures
    (simp part_from at (holds c.begins.ensures c.if-not-begins.false))
    (simp part_from at c.in_ok-other.ensures)
    (simp part_from at (never_word c.begins-2.ensures c.if-not-begins-2.true))

pub pair-returns : goal.pair-returns
pair-returns t c =
    reads_both c.in_ok-one.ensures
    (simp part_from at (holds c.begins.ensures c.if-not-begins.false))
    (simp part_from at c.in_ok-other.ensures)
    (simp part_from at (holds c.begins-2.ensures c.if-not-begins-2.false))
