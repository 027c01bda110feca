-- `figures::word_at` meets its contract.
-- Assumes nothing.
use mathlib.Core.Path.{◌≡◌}
use Prim.Native.Nat.{ℕ, ◌+◌}
use native.Mathlib.Nat.{add-zero}
use native.Mathlib.Omega.{arith}
use Rattle.figures.specs.Places.{digit_sum}
use Rattle.figures.proofs.word_at.Goals as goal

pub returns : goal.returns
unfolding digit_sum
returns c z = rw add-zero (omega (arith, c.from_le_bytes.ensures))
