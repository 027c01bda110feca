-- `reasons::number_cut` meets its contract.
-- Assumes nothing.
use Rattle.reasons.proofs.Cuts.{number-cuts}
use Rattle.reasons.proofs.number_cut.Goals as goal

pub returns : goal.returns
returns c =
    let p = c.requires in
    λ x ev. number-cuts _ x c.scaling_of-s.ensures p.1 ev p.0 c.decimals_cut.ensures
