-- `reasons::no_grounds` meets its contract.
-- Assumes nothing.
use Rattle.grounds.specs.Why.{no_grounds}
use Rattle.reasons.proofs.no_grounds.Goals as goal

pub returns : goal.returns
unfolding no_grounds
returns c = c.untried.ensures
