-- `lexing::scan::number_of` meets its contract. The invariant, `Numbering`: what the digits that are left make of the number so far.
-- Assumes nothing.
use native.Mathlib.Omega.{arith}
use Rattle.lexing.proofs.Scanning.{numbering-start, numbering-digit, numbering-step, numbering-end}
use Rattle.lexing.proofs.scan.number_of.Goals as goal

pub loop-digit-init : goal.loop-digit-init
loop-digit-init c = numbering-start _ c.requires

pub overflow_sub-digit : goal.overflow_sub-digit
overflow_sub-digit c = (numbering-digit _ _ _ _ c.loop-digit.invariant c.loop-digit-test.true).0

pub overflow_add-n : goal.overflow_add-n
overflow_add-n c = omega (arith, c.loop-digit.invariant.small, numbering-digit _ _ _ _ c.loop-digit.invariant c.loop-digit-test.true)

pub loop-digit-preserved : goal.loop-digit-preserved
loop-digit-preserved c = numbering-step _ _ _ _ c.loop-digit.invariant c.loop-digit-test.true _ (omega (arith, c.min-n.ensures))

pub returns : goal.returns
returns c = numbering-end c.args.digits.now c.args.digits.now _ _ c.loop-digit.invariant (omega arith)
