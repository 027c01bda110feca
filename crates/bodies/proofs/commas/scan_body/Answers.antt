use Rattle.std.proofs.Common.{rules, arith}
use Rattle.bodies.proofs.Uses.{scan-room, scan_end}
use Rattle.bodies.proofs.commas.scan_body.Goals as goal

pub scan_token-s-requires : goal.scan_token-s-requires
scan_token-s-requires c = omega (arith, scan-room c.args.body.now c.loop-mark.mark-index c.loop-mark.s c.loop-mark.invariant)

pub overflow_add-result : goal.overflow_add-result
overflow_add-result c = omega (arith, scan-room c.args.body.now c.loop-mark.mark-index c.loop-mark.s c.loop-mark.invariant)

pub returns : goal.returns
returns c = search (rules, scan_end)
