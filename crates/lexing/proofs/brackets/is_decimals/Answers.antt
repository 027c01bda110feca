-- `lexing::brackets::is_decimals` meets its contract.
-- Assumes nothing.
use Rattle.lexing.proofs.Scanning.{rest_all}
use Rattle.lexing.proofs.Bracketing.{pointed-test}
use Rattle.lexing.proofs.brackets.is_decimals.Goals as goal

pub returns : goal.returns
returns c =
    let us = c.args.us.now in
    pointed-test us _ _ (rw (rest_all us 1) at c.is_empty.ensures) (rw (rest_all us 1) at c.are_digits.ensures)
