-- `checking::number_fits` meets its contract.
-- Assumes nothing.
use mathlib.Core.Path.{sym, ◌∙◌}
use Rattle.tables.specs.Decode.{grouped_at}
use Rattle.checking.specs.Checking.{number_told}
use Rattle.checking.proofs.number_fits.Goals as goal

pub returns-then-not-shift_tells : goal.returns-then-not-shift_tells
unfolding number_told
returns-then-not-shift_tells c = rw (sym c.shift_tells.ensures ∙ c.if-not-shift_tells.true)

pub returns : goal.returns
unfolding number_told grouped_at
returns c = rw (sym c.shift_tells.ensures ∙ c.if-not-shift_tells.false)
