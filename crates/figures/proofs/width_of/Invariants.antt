-- `figures::width_of` meets its contract.
-- Assumes nothing.
use Prim.Native.Nat.{◌-◌}
use Rattle.figures.proofs.Widths.{Wider}
use Rattle.figures.proofs.width_of.Given as goal

-- `figures::width_of` meets its contract.
-- Assumes nothing.
abbrev pub invariant-loop-p : goal.invariant-loop-p
invariant-loop-p l = Wider l.n l.w l.p

abbrev pub decreases-loop-p : goal.decreases-loop-p
decreases-loop-p l = 19 - l.w
