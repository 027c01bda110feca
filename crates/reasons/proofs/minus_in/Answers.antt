-- `reasons::minus_in` meets its contract.
-- Assumes nothing.
use Rattle.reasons.proofs.Noughts.{number-minus}
use Rattle.reasons.proofs.minus_in.Goals as goal

pub returns : goal.returns
returns c =
    λ x why ev e.
    number-minus c.args.section _ x why ev e c.head-items.ensures.words c.no_minus-excepted.ensures (c.shows_nought-nought.ensures x ev) c.minus_told.ensures
