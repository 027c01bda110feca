-- `scientific_sections::Power::put_place` meets its contract.
-- Assumes nothing.
use Rattle.scientific_sections.proofs.Exponents.{put-left}
use Rattle.scientific_sections.proofs.Power.put_place.Goals as goal

pub returns : goal.returns
returns c =
    let p = c.args.self.now in
    λ i q is places power.
    put-left _ _ q _ _ is p.small places p.some power c.left_at-left.ensures.0 c.put_beyond-a.ensures.put c.put_lowest.ensures
