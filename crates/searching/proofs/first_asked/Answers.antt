-- `searching::first_asked` meets its contract.
-- Assumes nothing.
use native.Mathlib.Omega.{arith}
use borrow.Author.Tests.{lt-ltb, le-ltb}
use Rattle.searching.specs.Machine.{border, first_asked}
use Rattle.searching.proofs.first_asked.Goals as goal

pub returns-then-count-gt-BORDER : goal.returns-then-count-gt-BORDER
unfolding first_asked
returns-then-count-gt-BORDER c = rw (lt-ltb border c.args.count (omega arith))

pub returns-else-count-gt-BORDER : goal.returns-else-count-gt-BORDER
unfolding first_asked
returns-else-count-gt-BORDER c = rw (le-ltb border c.args.count (omega arith))
