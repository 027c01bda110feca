-- `planning::instant_sought` meets its contract.
-- Assumes nothing.
use mathlib.Core.Path.{refl}
use Rattle.calendar.specs.Clock.{since_day_zero}
use Rattle.planning.proofs.instant_sought.Goals as goal

pub returns : goal.returns
unfolding since_day_zero
returns c = record { negative = refl; instant = refl; above = refl; scale = refl }
