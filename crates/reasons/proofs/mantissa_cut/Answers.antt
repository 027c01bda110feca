-- `reasons::mantissa_cut` meets its contract.
-- Assumes nothing.
use Rattle.showing.proofs.Mantissas.{scientific-words}
use Rattle.reasons.proofs.Cuts.{mantissa-cuts}
use Rattle.reasons.proofs.mantissa_cut.Goals as goal

pub scientific_cut-requires : goal.scientific_cut-requires
scientific_cut-requires c =
    let p = c.requires in
    let w = scientific-words c.args.section p.2 c.head-decimals.ensures.words c.from.ensures c.integer_places-integers.ensures in
    (p.0, p.1, w.least, w.most, w.decimals_most)

pub returns : goal.returns
returns c =
    let p = c.requires in
    λ x ev. mantissa-cuts _ x (scientific-words c.args.section p.2 c.head-decimals.ensures.words c.from.ensures c.integer_places-integers.ensures) p.2 ev c.scientific_cut.ensures
