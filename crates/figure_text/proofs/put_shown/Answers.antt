-- `figure_text::put_shown` meets its contract.
-- Assumes nothing.
use Rattle.figure_text.proofs.Digits.{put-grouped}
use Rattle.figure_text.proofs.put_shown.Goals as goal

pub returns-then-grouped-ends_group-clause-put : goal.returns-then-grouped-ends_group-clause-put
returns-then-grouped-ends_group-clause-put c =
    let a = c.args in put-grouped a.grouped a.q c.ends_group.ensures c.if-grouped-ends_group.true c.separator.ensures c.put_unit-a.ensures c.put_unit.ensures
