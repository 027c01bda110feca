-- `figure_text::ends_group` meets its contract: each arm is computed.
-- Assumes nothing.
use Rattle.formats.specs.Text.{ends_group}
use Rattle.figure_text.proofs.Digits.{no_end}
use Rattle.figure_text.proofs.ends_group.Goals as goal

pub returns-in_default : goal.returns-in_default
unfolding ends_group
returns-in_default c = no_end c.args.q c.requires c.in_default.in_default-own.rest
