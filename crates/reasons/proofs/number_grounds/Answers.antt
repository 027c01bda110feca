-- `reasons::number_grounds` meets its contract.
-- Assumes nothing.
use mathlib.Core.Path.{sym, ◌∙◌}
use Rattle.figures.proofs.Sign.{in-says, out-says}
use Rattle.planning.proofs.Values.{taken-small}
use Rattle.reasons.proofs.number_grounds.Goals as goal

pub in_range-requires : goal.in_range-requires
in_range-requires c = taken-small _ _ (sym c.take_number.ensures ∙ c.in-Some.is)

pub returns-in-None : goal.returns-in-None
returns-in-None c = absurd (rw (out-says _ (sym c.take_number.ensures ∙ c.in-None.is)) at c.requires)

pub returns-in-Some : goal.returns-in-Some
returns-in-Some c = c.in_range.ensures _ (in-says _ _ (sym c.take_number.ensures ∙ c.in-Some.is)).1
