-- Bytes of units.
-- Assumes nothing.
use Rattle.std.specs.Prelude.{ℕ, ◌%◌}

-- the byte that a unit is written as; an ASCII unit is its own
abbrev pub low_byte : ℕ → ℕ
low_byte u = u % 256
