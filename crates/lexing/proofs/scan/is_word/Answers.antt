-- `lexing::scan::is_word` meets its contract.
-- Assumes nothing.
use borrow.Author.Tests.{eq-eqb, ne_eqb}
use Rattle.formats.specs.Tokens.{same}
use Rattle.lexing.proofs.scan.is_word.Goals as goal

pub returns-then-word-us : goal.returns-then-word-us
unfolding same
returns-then-word-us c = rw (eq-eqb _ _ c.if-word-us.true) c.starts_with.ensures

pub returns-else-word-us : goal.returns-else-word-us
unfolding same
returns-else-word-us c = rw (ne_eqb _ _ c.if-word-us.false)
