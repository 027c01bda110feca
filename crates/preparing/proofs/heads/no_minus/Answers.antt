-- `preparing::heads::no_minus` meets its contract.
-- Assumes nothing.
use mathlib.Core.Path.{refl}
use Rattle.formats.specs.Minus.{exception_a}
use Rattle.preparing.proofs.heads.no_minus.Goals as goal

pub returns : goal.returns
unfolding exception_a
returns c = refl
