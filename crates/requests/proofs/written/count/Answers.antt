-- `requests::written::count` meets its contract.
-- Assumes nothing.
use borrow.Author.Rules.{rules}
use Rattle.requests.specs.Written.{numeral_up_to}
use Rattle.requests.proofs.written.count.Goals as goal

pub returns : goal.returns
unfolding numeral_up_to
returns c = search rules
