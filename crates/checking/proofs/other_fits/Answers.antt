-- `checking::other_fits` meets its contract.
-- Assumes nothing.
use Rattle.checking.proofs.Heads.{agree-told}
use lib.Dec.{leb}
use Rattle.tables.specs.Decode.{grouped_at}
use Rattle.checking.specs.Checking.{other_told}
use Rattle.checking.proofs.other_fits.Goals as goal

pub returns : goal.returns
unfolding other_told grouped_at
returns c = rw (agree-told (leb 4 c.args.h.flags) c.args.half)
