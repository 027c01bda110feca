-- `preparing::heads::put_head` meets its contract.
-- Assumes nothing.
use Rattle.tables.specs.Words.{head_words}
use Rattle.preparing.specs.Table.{head_by}
use Rattle.preparing.proofs.Tabling.{bit-byte}
use Rattle.preparing.proofs.heads.put_head.Goals as goal

pub returns : goal.returns
unfolding head_words head_by
returns c =
    rw (c.flags_word.ensures, c.no_minus-minus.ensures, c.has_condition.ensures, c.from.ensures, bit-byte) at c.put_units.ensures
