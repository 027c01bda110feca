-- `Board::store` meets its contract.
-- Assumes nothing.
use mathlib.Core.Path.{◌∙◌}
use Rattle.boards.specs.Boards.{widest_of}
use Rattle.boards.proofs.Widths.{fold-widest}
use Rattle.boards.proofs.Putting.{with-width}
use Rattle.boards.proofs.Board.store.Goals as goal

pub returns : goal.returns
unfolding widest_of
returns c = with-width c.args.self.now c.args.k c.args.row (c.widest_row-self.ensures ∙ fold-widest 0 _ _)
