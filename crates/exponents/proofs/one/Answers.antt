-- `exponents::one` meets its contract.
-- Assumes nothing.
use mathlib.Core.Path.{refl}
use Rattle.figures.specs.Digits.{digit, figures}
use Rattle.exponents.proofs.one.Goals as goal

pub returns : goal.returns
unfolding figures digit
returns c = refl
