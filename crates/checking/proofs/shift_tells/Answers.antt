-- `checking::shift_tells` meets its contract.
-- Assumes nothing.
use Rattle.checking.proofs.Heads.{shift-plain, shift-told}
use Rattle.checking.proofs.shift_tells.Goals as goal

pub returns-then-shift-percents : goal.returns-then-shift-percents
returns-then-shift-percents c = shift-plain _ _ c.if-shift-percents.true

pub returns : goal.returns
returns c = shift-told _ _ _ c.thousands_at-t.ensures
