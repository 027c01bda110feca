-- `reasons::untried` meets its contract.
-- Assumes nothing.
use mathlib.Core.Path.{refl}
use Rattle.grounds.specs.Why.{untried}
use Rattle.reasons.proofs.untried.Goals as goal

pub returns : goal.returns
unfolding untried
returns c = refl
