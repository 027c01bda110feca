-- `table_words::number` meets its contract.
-- Assumes nothing.
use Rattle.table_words.proofs.Heads.{two-words}
use Rattle.table_words.proofs.number.Goals as goal

pub returns : goal.returns
returns c = two-words _ _
