-- `reasons::fraction_nought` meets its contract.
-- Assumes nothing.
use Rattle.reasons.proofs.Noughts.{fraction-places}
use Rattle.reasons.proofs.fraction_nought.Goals as goal

pub returns : goal.returns
returns c = λ x ev. fraction-places _ x c.requires.2 (c.section_fraction.ensures.is x ev)
