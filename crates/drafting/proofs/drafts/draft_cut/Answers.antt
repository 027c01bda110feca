-- `drafting::drafts::draft_cut` meets its contract.
-- Assumes nothing.
use Rattle.marks.specs.Marks.{tokens_in}
use Rattle.drafting.proofs.Drafting.{cut-drafted}
use Rattle.drafting.proofs.drafts.draft_cut.Goals as goal

pub returns : goal.returns
returns c code read words =
    let ts = tokens_in code c.args.body.now in
    let parted = c.part_places-places.ensures ts read.tally words in (
      cut-drafted ts read _ _ parted (c.solidus_kept.ensures code read.units read.facts)
          (rw (c.fraction_within-within.ensures, c.thousands.ensures) at c.cut_body.ensures),
      parted.words,
    )
