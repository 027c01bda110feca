-- `checking::scientific_fits` meets its contract.
-- Assumes nothing.
use mathlib.Core.Path.{refl}
use Rattle.checking.specs.Checking.{scientific_told}
use Rattle.checking.proofs.scientific_fits.Goals as goal

pub returns : goal.returns
unfolding scientific_told
returns c = refl
