use Rattle.std.proofs.Common.{◌≡◌, take}
use Rattle.bodies.proofs.Bodies.{nothing_seen, see_marks}
use Rattle.bodies.proofs.facts.facts_of.Given as goal

abbrev pub invariant-loop-mark : goal.invariant-loop-mark
invariant-loop-mark l = l.s ≡ see_marks nothing_seen (take l.mark-index l.body)
