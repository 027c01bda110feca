-- `fraction_sections::put_spaces` meets its contract.
-- Assumes nothing.
use Rattle.std.proofs.Common.{◌≡◌, ◌+◌, arith}
use Rattle.fraction_sections.proofs.Spaces.{spacing-start, spacing-step, spacing-end}
use Rattle.fraction_sections.proofs.put_spaces.Goals as goal

pub loop-k-init : goal.loop-k-init
loop-k-init c = spacing-start _ _ _

pub loop-k-preserved : goal.loop-k-preserved
loop-k-preserved c = spacing-step c.loop-k.invariant (omega arith) c.put_unit.ensures

pub returns : goal.returns
returns c =
    let inv = c.loop-k.invariant in
    let last : c.loop-k.k ≡ c.args.at + c.args.count = omega (arith, inv.most) in
    rw last at (spacing-end inv c.loop-k-test.false)
