-- `c_api::numfmt_section` meets its contract.
-- Assumes nothing.
use Rattle.c_api.proofs.Told.{section-small}
use Rattle.c_api.proofs.numfmt_section.Goals as goal

pub part_numbers-requires : goal.part_numbers-requires
part_numbers-requires c =
    let s = c.section_span-s.ensures in
    section-small _ _ s.start s.size s.inside
