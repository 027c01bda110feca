-- `showing::show_scientific` meets its contract.
-- Assumes nothing.
use Rattle.std.proofs.Common.{refl, arith}
use Rattle.formats.specs.Reading.{number_context, whole_context, exponent_context}
use Rattle.showing.proofs.Mantissas.{scientific-words, mantissa-subject, mantissa-nought, mantissa-exactly, exponent-shows, exponent-most, scientific-minus}
use Rattle.showing.proofs.Checked.{shows-as}
use Rattle.showing.proofs.show_scientific.Goals as goal

pub round_scientific-x-requires : goal.round_scientific-x-requires
round_scientific-x-requires c =
    let p = c.requires in
    let w = scientific-words c.args.section p.0 c.head-decimals.ensures.words c.from.ensures c.integer_places-integers.ensures in
    (p.1, p.2, w.least, w.most, w.decimals_most)

pub show_scientific_section-requires : goal.show_scientific_section-requires
show_scientific_section-requires c =
    let p = c.requires in
    let e = c.round_scientific-x.ensures in
    let w = scientific-words c.args.section p.0 c.head-decimals.ensures.words c.from.ensures c.integer_places-integers.ensures in
    let n = p.3 in (
      p.0,
      refl,
      omega (arith, exponent-most w p.1 p.2 e.size),
      record { context = _; is = mantissa-subject w p.0 _ n.number n.is p.1 p.2 e.mantissa c.figures_of-figures.ensures.made _ },
    )

pub returns : goal.returns
unfolding number_context exponent_context whole_context
returns c =
    let p = c.requires in
    let e = c.round_scientific-x.ensures in
    let w = scientific-words c.args.section p.0 c.head-decimals.ensures.words c.from.ensures c.integer_places-integers.ensures in
    λ x ev.
    shows-as (scientific-minus c.args.section _ x c.added_minus-minus.ensures (mantissa-nought w p.0 _ x ev p.1 p.2 e.mantissa c.figures_of-figures.ensures.made)
    (mantissa-exactly w p.0 _ x ev p.1 p.2 e.exact) _)
    (c.show_scientific_section.ensures _ _ (mantissa-subject w p.0 _ x ev p.1 p.2 e.mantissa c.figures_of-figures.ensures.made _) refl
    (exponent-shows w p.0 _ x ev p.1 p.2 e.size e.sign) refl)
