-- `figures::top_of` meets its contract.
-- Assumes nothing.
use mathlib.Core.Path.{◌≡◌}
use Prim.Native.Nat.{◌*◌, ◌≤◌}
use Rattle.figures.specs.Places.{places_used}
use Rattle.figures.proofs.top_of.Given as goal

-- `figures::top_of` meets its contract.
-- Assumes nothing.
abbrev pub invariant-loop-word : goal.invariant-loop-word
invariant-loop-word l = (1 ≤ l.word) × (places_used (4 * l.word) l.digits ≡ places_used 40 l.digits)
