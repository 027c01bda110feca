-- `table_words::TableSection::items_start` meets its contract. The invariant, `Starting`: where the words of section k begin.
-- Assumes nothing.
use Rattle.table_words.proofs.Bodies.{Starting}
use Rattle.table_words.proofs.TableSection.items_start.Given as goal

abbrev pub invariant-loop-k : goal.invariant-loop-k
invariant-loop-k l = Starting l.words l.k-end l.k l.start
