-- `figure_text::put_run` meets its contract.
-- Assumes nothing.
use mathlib.Core.Path.{◌≡◌}
use Prim.Native.Nat.{ℕ, ◌+◌, ◌-◌, ◌/◌, ◌^◌, ◌≤◌}
use lib.ListN.{length}
use Rattle.figures.specs.Digits.{figures, digit_units}
use Rattle.writing.specs.Put.{Rest}
use Rattle.figure_text.proofs.put_run.Given as goal

abbrev pub invariant-loop-k : goal.invariant-loop-k
invariant-loop-k l =
    (l.k ≤ l.high)
    × (l.o + l.k ≤ l.at + l.high)
    × (length l.room ≡ length l.initial.room)
    × ((n : ℕ) → l.digits ≡ figures n
    → Rest l.initial.room l.at (digit_units (l.high - l.low) (n / 10 ^ l.low)) l.room l.o (digit_units (l.k - l.low) (n / 10 ^ l.low)))
