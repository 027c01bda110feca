-- `figures::width_of` meets its contract.
-- Assumes nothing.
use Prim.Native.Nat.{◌-◌}
use native.Mathlib.Omega.{arith}
use Rattle.figures.proofs.Widths.{wider-fits, wider-done, wider-most}
use borrow.Author.Rules.{rules}
use Rattle.figures.proofs.width_of.Goals as goal

pub returns-then-w-eq19 : goal.returns-then-w-eq19
returns-then-w-eq19 c = wider-most c.loop-p.invariant (search rules) c.if-w-eq19.true c.loop-p-test.true

pub overflow_mul-p : goal.overflow_mul-p
overflow_mul-p c = omega (arith, wider-fits c.loop-p.invariant c.if-w-eq19.false)

pub returns : goal.returns
returns c = wider-done c.loop-p.invariant c.loop-p-test.false
