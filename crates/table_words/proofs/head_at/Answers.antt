-- `table_words::head_at` meets its contract.
-- Assumes nothing.
use Prim.Native.Nat.{◌+◌, ◌*◌}
use Rattle.table_words.proofs.Heads.{head_read}
use Rattle.table_words.proofs.head_at.Goals as goal

pub returns : goal.returns
returns c = let a = c.args in head_read a.words.now (1 + 12 * a.i)
