-- `date_text::weekday_letters` meets its contract: the letters of each name are computed.
-- Assumes nothing.
use native.Mathlib.Omega.{arith}
use Rattle.date_text.proofs.Letters.{no_weekday}
use Rattle.date_text.proofs.weekday_letters.Goals as goal

pub returns-in_default : goal.returns-in_default
returns-in_default c = no_weekday c.args.weekday (omega arith)
