-- `drafting::drafts::Read::cut_body` meets its contract.
-- Assumes nothing.
use Rattle.drafting.specs.Draft.{thousands_by}
use Rattle.drafting.proofs.Drafting.{no_shift}
use Rattle.drafting.proofs.drafts.Read.cut_body.Goals as goal

pub returns : goal.returns
returns c =
    let s = c.args.self in
    rw (
      c.fits.ensures,
      c.cut_items_fit.ensures,
      c.cut_kind.ensures,
      c.cut_decimals.ensures,
      no_shift s.tally c.args.within (thousands_by s.facts s.commas) c.requires,
    )
