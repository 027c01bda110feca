-- `fraction_sections::spare_spaces` meets its contract.
-- Assumes nothing.
use Rattle.std.proofs.Common.{rules}
use Rattle.fraction_sections.proofs.Denominators.{spare-counted}
use Rattle.fraction_sections.proofs.spare_spaces.Goals as goal

pub returns : goal.returns
returns c =
    spare-counted _ _ _ _ (rw (← c.width_of.ensures) (search rules)) c.count_between.ensures c.requires
