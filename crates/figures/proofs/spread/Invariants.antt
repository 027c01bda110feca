-- `figures::spread` meets its contract. The invariant: the places below k are right, the others 0, and the rest is the number without its first k digits.
-- Assumes nothing.
use Prim.Native.Nat.{◌*◌, ◌^◌}
use Rattle.figures.proofs.Filling.{Filled}
use Rattle.figures.proofs.spread.Given as goal

-- `figures::spread` meets its contract. The invariant: the places below k are right, the others 0, and the rest is the number without its first k digits.
-- Assumes nothing.
abbrev pub invariant-loop-rest : goal.invariant-loop-rest
invariant-loop-rest l = Filled (l.m * 10 ^ l.z) l.k l.rest l.digits

abbrev pub decreases-loop-rest : goal.decreases-loop-rest
decreases-loop-rest l = l.rest
