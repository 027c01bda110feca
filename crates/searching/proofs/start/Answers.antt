-- `searching::start` meets its contract.
-- Assumes nothing.
use Rattle.searching.specs.Machine.{started}
use Rattle.searching.proofs.start.Goals as goal

pub returns : goal.returns
unfolding started
returns c = rw (← c.guess.ensures, ← c.first_asked.ensures) c.reading.ensures
