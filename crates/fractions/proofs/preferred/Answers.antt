-- `fractions::preferred` meets its contract.
-- Assumes nothing.
use native.Mathlib.Omega.{arith}
use Rattle.fractions.proofs.Between.{low-wins, high-wins}
use Rattle.fractions.proofs.preferred.Goals as goal

pub returns-then-to_low-to_high : goal.returns-then-to_low-to_high
returns-then-to_low-to_high c x most pos b far = rw c.fraction_at.ensures (low-wins b pos far (omega arith) (λ e. omega arith))

pub returns-then-to_high-to_low : goal.returns-then-to_high-to_low
returns-then-to_high-to_low c x most pos b far = rw c.fraction_at-then-to_high-to_low.ensures (high-wins b pos far (omega arith) (λ e. omega arith))

pub returns-then-low-high : goal.returns-then-low-high
returns-then-low-high c x most pos b far = rw c.fraction_at-then-low-high.ensures (low-wins b pos far (omega arith) (λ e. omega arith))

pub returns : goal.returns
returns c x most pos b far = rw c.fraction_at-2.ensures (high-wins b pos far (omega arith) (λ e. omega arith))
