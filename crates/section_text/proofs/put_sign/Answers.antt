-- `section_text::put_sign` meets its contract.
-- Assumes nothing.
use Rattle.section_text.proofs.Fitting.{sign-put, sign-none}
use Rattle.section_text.proofs.put_sign.Goals as goal

pub returns-then-minus-clause-put : goal.returns-then-minus-clause-put
returns-then-minus-clause-put c = (sign-put _ c.if-minus.true c.put_unit.ensures).1

pub returns-clause-put : goal.returns-clause-put
returns-clause-put c = (sign-none c.args.room.now _ c.if-minus.false).1
