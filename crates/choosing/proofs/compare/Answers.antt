-- `choosing::compare` meets its contract.
-- Assumes nothing.
use Rattle.choosing.proofs.Comparing.{instant-size, number_size}
use Rattle.choosing.proofs.compare.Goals as goal

pub returns-then-v : goal.returns-then-v
returns-then-v c = search instant-size

pub returns : goal.returns
returns c = search number_size
