-- `reasons::number_in` meets its contract.
-- Assumes nothing.
use mathlib.Core.Path.{ap₂, ◌∙◌}
use Rattle.grounds.specs.Why.{chosen_grounds, number_grounds}
use Rattle.reasons.proofs.number_in.Goals as goal

pub returns : goal.returns
unfolding number_grounds
returns c =
    λ x why ev e. c.chosen_grounds.ensures _ why e ∙ ap₂ (chosen_grounds _ _ why) (c.minus_in-minus.ensures x why ev e) (c.section_cut-cut.ensures x ev)
