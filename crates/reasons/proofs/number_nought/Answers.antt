-- `reasons::number_nought` meets its contract.
-- Assumes nothing.
use Rattle.reasons.proofs.Cuts.{number-vanishes}
use Rattle.reasons.proofs.number_nought.Goals as goal

pub returns : goal.returns
returns c = λ x ev. number-vanishes _ x c.scaling_of-s.ensures c.requires.1 ev c.rounds_to_nought.ensures
