-- `figures::places_used` meets its contract.
-- Assumes nothing.
use mathlib.Core.Path.{◌≡◌}
use Prim.Native.Nat.{◌≤◌}
use Rattle.figures.specs.Places.{places_used}
use Rattle.figures.proofs.places_used.Given as goal

-- `figures::places_used` meets its contract.
-- Assumes nothing.
abbrev pub invariant-loop-k : goal.invariant-loop-k
invariant-loop-k l = (l.k ≤ 40) × (places_used l.k l.digits ≡ places_used 40 l.digits)
