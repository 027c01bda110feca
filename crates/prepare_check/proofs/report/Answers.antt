-- `prepare_check::report` stays in the table room.
-- Assumes nothing.
use mathlib.Core.Path.{sym, ◌∙◌}
use Rattle.prepare_check.proofs.Laws.{words-within}
use Rattle.prepare_check.proofs.report.Goals as goal

pub split_at-requires : goal.split_at-requires
split_at-requires g c = words-within _ _ _ (sym c.in-Ok.is ∙ c.requires.0)
