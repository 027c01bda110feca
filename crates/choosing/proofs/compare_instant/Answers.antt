-- `choosing::compare_instant` meets its contract.
-- Assumes nothing.
use Rattle.choosing.proofs.Comparing.{instant-parts}
use Rattle.choosing.proofs.compare_instant.Goals as goal

pub returns : goal.returns
returns c = search instant-parts
