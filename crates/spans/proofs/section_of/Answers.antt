-- `spans::section_of` meets its contract.
-- Assumes nothing.
use Rattle.spans.proofs.Spanning.{part_same, place_same}
use Rattle.spans.proofs.section_of.Goals as goal

pub returns-clause-part : goal.returns-clause-part
returns-clause-part c = part_same c.args.code.now c.args.n _ _ c.section_span-s.ensures.start c.section_span-s.ensures.size

pub returns-clause-place : goal.returns-clause-place
returns-clause-place c = place_same c.args.code.now c.args.n _ c.args.code.ref_ptr c.section_span-s.ensures.start
