use Rattle.std.proofs.Common.{◌≡◌, take}
use Rattle.bodies.proofs.Uses.{nothing_scanned, scan_marks}
use Rattle.bodies.proofs.commas.scan_body.Given as goal

abbrev pub invariant-loop-mark : goal.invariant-loop-mark
invariant-loop-mark l = l.s ≡ scan_marks nothing_scanned (take l.mark-index l.body)
