-- `writing::put_numeral` meets its contract.
-- Assumes nothing.
use Prim.Native.Nat.{◌<◌, ◌≤◌}
use native.Mathlib.Omega.{arith}
use Rattle.writing.proofs.Numerals.{numeral-one, numeral-two, numeral-two-least}
use Rattle.writing.proofs.put_numeral.Goals as goal

pub returns-then-least-eq2 : goal.returns-then-least-eq2
returns-then-least-eq2 c = rw (c.if-least-eq2.true, numeral-two-least _ c.if-n-gt99.false) c.put_two.ensures

pub returns-then-n-gt9 : goal.returns-then-n-gt9
returns-then-n-gt9 c =
    rw (numeral-two _ _ c.if-least-gt2.false c.if-n-gt9.true c.if-n-gt99.false) c.put_two-then-n-gt9.ensures

pub returns : goal.returns
returns c =
    let h : c.args.least ≤ 1 = omega arith in
    let g : c.args.n < 10 = omega arith in
    rw (numeral-one _ _ h g, ← c.digit_unit.ensures) c.put_unit.ensures
