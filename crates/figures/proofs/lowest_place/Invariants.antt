-- `figures::lowest_place` meets its contract.
-- Assumes nothing.
use mathlib.Core.Path.{◌≡◌}
use Prim.Native.Nat.{◌-◌, ◌≤◌}
use Rattle.figures.specs.Places.{lowest_from, lowest_place}
use Rattle.figures.proofs.lowest_place.Given as goal

-- `figures::lowest_place` meets its contract.
-- Assumes nothing.
abbrev pub invariant-loop-k : goal.invariant-loop-k
invariant-loop-k l = (l.k ≤ 40) × (lowest_from (40 - l.k) l.k l.digits ≡ lowest_place l.digits)
