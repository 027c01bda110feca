-- `showing::show_fraction` meets its contract.
-- Assumes nothing.
use Rattle.showing.proofs.Fractions.{fraction-minus}
use Rattle.showing.proofs.Checked.{shows-as}
use Rattle.showing.proofs.show_fraction.Goals as goal

pub returns : goal.returns
returns c =
    λ x ev.
    shows-as (fraction-minus c.args.section _ x c.added_minus-minus.ensures c.requires.0 (c.section_fraction-x.ensures.is x ev) (c.section_fraction-x.ensures.exact x ev) _)
    c.show_fraction_section.ensures
