-- `fractions::nearest_part` meets its contract. The invariant: low and high are neighbours on either side of the number.
-- Assumes nothing.
use Prim.Native.Nat.{◌+◌, ◌-◌}
use Rattle.fractions.specs.Moves.{Between}
use Rattle.fractions.proofs.nearest_part.Given as goal

abbrev pub invariant-loop-low : goal.invariant-loop-low
invariant-loop-low l = Between (record { above = l.rest; below = l.whole }) l.most l.low l.high

abbrev pub decreases-loop-low : goal.decreases-loop-low
decreases-loop-low l = l.most + 1 - (l.low.below + l.high.below)
