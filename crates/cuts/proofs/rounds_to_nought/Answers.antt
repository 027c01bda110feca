-- `cuts::rounds_to_nought` meets its contract.
-- Assumes nothing.
use Rattle.cuts.proofs.Reach.{nought-divided, nought-kept}
use Rattle.cuts.proofs.rounds_to_nought.Goals as goal

pub returns-then-digits-down : goal.returns-then-digits-down
returns-then-digits-down c =
    nought-divided _ _ _ _ c.requires.1 c.if-digits-down.true c.divided.ensures.nearest

pub returns-else-digits-down : goal.returns-else-digits-down
returns-else-digits-down c = nought-kept _ _ _ _ c.requires.1 c.if-digits-down.false
