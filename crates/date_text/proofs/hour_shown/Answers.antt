-- `date_text::hour_shown` meets its contract.
-- Assumes nothing.
use Rattle.formats.specs.Text.{hour_shown}
use Rattle.date_text.proofs.hour_shown.Goals as goal

pub returns-then-twelve : goal.returns-then-twelve
unfolding hour_shown
returns-then-twelve c = rw c.if-twelve.true c.twelve_hour.ensures

pub returns : goal.returns
unfolding hour_shown
returns c = rw c.if-twelve.false
