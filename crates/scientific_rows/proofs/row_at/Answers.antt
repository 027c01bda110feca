-- `scientific_rows::row_at` meets its contract.
-- Assumes nothing.
use Rattle.scans.proofs.Scanned.{entries-cut}
use Rattle.scientific_rows.proofs.row_at.Goals as goal

pub returns : goal.returns
returns c =
    rw (entries-cut c.args.words.now c.args.at c.requires.0) (c.parts_row.ensures _ c.requires.1)
