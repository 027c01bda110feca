use Rattle.std.proofs.Common.{◌≡◌, take}
use Rattle.bodies.proofs.Fractions.{nothing_walked, walk_marks}
use Rattle.bodies.proofs.fraction.fraction_fits.Given as goal

abbrev pub invariant-loop-mark : goal.invariant-loop-mark
invariant-loop-mark l = l.w ≡ walk_marks nothing_walked (take l.mark-index l.body)
