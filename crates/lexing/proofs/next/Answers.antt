-- `lexing::next` meets its contract.
-- Assumes nothing.
use Prim.Native.Nat.{◌+◌}
use native.Mathlib.Omega.{arith}
use Rattle.lexing.proofs.Starting.{next-step, next-broken}
use Rattle.lexing.proofs.Scanning.{rest_all}
use Rattle.lexing.proofs.next.Goals as goal

pub returns-in_default : goal.returns-in_default
returns-in_default c = next-broken c.args.code.now c.args.at _ (omega (arith, c.in_default.ensures))

pub returns : goal.returns
returns c =
    let a = c.args in
    next-step a.code.now a.at _ c.in-Ok.ascii _ c.in-Ok.ensures.1 (rw (rest_all a.code.now (a.at + 1)) at c.ascii_step.ensures)
