-- `choosing::compare_parts` meets its contract.
-- Assumes nothing.
use Rattle.std.proofs.Common.{rules}
use Rattle.choosing.specs.Comparing.{parts_order}
use Rattle.choosing.proofs.compare_parts.Goals as goal

pub returns : goal.returns
unfolding parts_order
returns c = search rules
