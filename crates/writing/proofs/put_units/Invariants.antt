-- `writing::put_units` meets its contract.
-- Assumes nothing.
use Prim.Native.Nat.{◌-◌, ◌≤◌}
use lib.ListN.{drop}
use Rattle.writing.specs.Put.{Rest}
use Rattle.writing.proofs.put_units.Given as goal

abbrev pub invariant-loop-o : goal.invariant-loop-o
invariant-loop-o l = Rest l.initial.room l.at l.text l.room l.o (drop (l.o - l.at) l.text) × (l.at ≤ l.o)
