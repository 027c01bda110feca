-- `figures::bottom_of` meets its contract.
-- Assumes nothing.
use mathlib.Core.Path.{◌≡◌}
use Prim.Native.Nat.{◌-◌, ◌*◌}
use Rattle.figures.specs.Places.{lowest_from, lowest_place}
use Rattle.figures.proofs.bottom_of.Given as goal

-- `figures::bottom_of` meets its contract.
-- Assumes nothing.
abbrev pub invariant-loop-word : goal.invariant-loop-word
invariant-loop-word l = lowest_from (40 - 4 * l.word) (4 * l.word) l.digits ≡ lowest_place l.digits
