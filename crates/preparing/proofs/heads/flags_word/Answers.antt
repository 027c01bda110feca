-- `preparing::heads::flags_word` meets its contract.
-- Assumes nothing.
use Rattle.preparing.proofs.Tabling.{flags-add}
use Rattle.preparing.proofs.heads.flags_word.Goals as goal

pub returns : goal.returns
returns c = flags-add _ _ _ c.from.ensures c.from-2.ensures c.from-3.ensures
