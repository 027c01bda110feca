-- `planning::number_plan` meets its contract.
-- Assumes nothing.
use mathlib.Core.Path.{sym, ◌∙◌}
use Rattle.figures.proofs.Sign.{in-says, out-says}
use Rattle.planning.specs.Plan.{value_reading}
use Rattle.planning.proofs.Values.{taken-small}
use Rattle.planning.proofs.number_plan.Goals as goal

pub number_in_range-requires : goal.number_in_range-requires
number_in_range-requires c = taken-small _ _ (sym c.take_number.ensures ∙ c.in-Some.is)

pub returns-in-None : goal.returns-in-None
returns-in-None c = λ text size. rw (out-says _ (sym c.take_number.ensures ∙ c.in-None.is))

pub returns-in-Some : goal.returns-in-Some
returns-in-Some c =
    let l = in-says _ _ (sym c.take_number.ensures ∙ c.in-Some.is) in
    λ text. rw (l.0, value_reading) (c.number_in_range.ensures text _ l.1)
