use Rattle.bodies.proofs.Numbers.{Numbering}
use Rattle.bodies.proofs.conditions.number.Given as goal

abbrev pub invariant-loop-i : goal.invariant-loop-i
invariant-loop-i l = Numbering l.us l.places l.v l.i
