-- A day of a year in a year whose February has 30 days.
-- Assumes nothing.
use Rattle.std.specs.Prelude.{ℕ, ◌+◌, Bool, cond, leb}

unfoldable pub moved_by : Bool → ℕ → ℕ
moved_by long n = cond (leb n (cond long 60 59)) n (n + cond long 1 2)
