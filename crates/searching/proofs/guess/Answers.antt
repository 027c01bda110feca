-- `searching::guess` meets its contract.
-- Assumes nothing.
use native.Mathlib.Omega.{arith}
use borrow.Author.Tests.{lt-ltb, le-ltb}
use Rattle.searching.specs.Machine.{guessed}
use Rattle.searching.proofs.guess.Goals as goal

pub returns-then-day-lt73416 : goal.returns-then-day-lt73416
unfolding guessed
returns-then-day-lt73416 c = rw (lt-ltb c.args.day 73416 (omega arith))

pub returns-else-day-lt73416 : goal.returns-else-day-lt73416
unfolding guessed
returns-else-day-lt73416 c = rw (le-ltb c.args.day 73416 (omega arith)) c.later_guess.ensures
