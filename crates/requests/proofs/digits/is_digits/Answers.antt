-- `requests::digits::is_digits` meets its contract.
-- Assumes nothing.
use Rattle.requests.proofs.Numerals.{digits-told}
use Rattle.requests.proofs.digits.is_digits.Goals as goal

pub returns : goal.returns
returns c = digits-told c.args.us.now _ _ c.is_empty.ensures c.are_digits.ensures
