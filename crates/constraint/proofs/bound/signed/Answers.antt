-- `constraint::bound::signed` meets its contract: the sign that was found opens a bound, and where none was found, none does.
use native.Mathlib.Omega.{arith}
use lib.ListN.{length}
use Rattle.std.proofs.Common.{rules, tests}
use Rattle.std.proofs.lemmas.Iterator.{YieldsList-from_slice, first_from_find}
use Rattle.std.proofs.lemmas.Iterator.Consumers.{YieldsList-from_copied}
use Rattle.basis.proofs.Answers.{holds}
use Rattle.constraint.specs.declared.range.Sign.{Sign}
use Rattle.constraint.specs.Range.{bound_of}
use Rattle.constraint.specs.Reader.{Begins, Never, Is, opened}
use Rattle.constraint.proofs.Beginnings.{never_word}
use Rattle.constraint.proofs.Bounded.{signs, signs_passed}
use Rattle.constraint.proofs.bound.signed.Goals as goal

pub returns-in_err-value : goal.returns-in_err-value
returns-in_err-value c =
    let found =
    first_from_find _ _ c.find.result
    (λ (s : Sign). Begins (Is (opened (bound_of s))) c.args.rest.now (length (opened (bound_of s))))
    (λ (s : Sign). Never (Is (opened (bound_of s))) c.args.rest.now)
    c.find.ensures.ran
    (YieldsList-from_copied (YieldsList-from_slice signs (cc)))
    (λ x q k. grind (arith, holds))
    (λ x q k. (search (rules, tests), grind (arith, never_word))) in
    rw c.from_residual.ensures (signs_passed (rw c.in_err-value.was at found))

pub returns : goal.returns
returns c = grind (arith, holds)
