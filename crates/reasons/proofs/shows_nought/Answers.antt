-- `reasons::shows_nought` meets its contract.
-- Assumes nothing.
use Rattle.std.proofs.Common.{sym, ap, ◌∙◌, inl, inr}
use Rattle.table_words.specs.Tabled.{kind_named}
use Rattle.reasons.proofs.Noughts.{nought-literal, nought-number, nought-date, scientific-nought, nought-fraction, nought-general}
use Rattle.reasons.proofs.Cuts.{general-vanishes, general-named, text-named}
use Rattle.reasons.proofs.shows_nought.Goals as goal

pub number_nought-requires : goal.number_nought-requires
number_nought-requires c = (c.requires.1, sym c.in-Number.ensures)

pub fraction_nought-requires : goal.fraction_nought-requires
fraction_nought-requires c = (c.requires.0, c.requires.1, sym c.in-Fraction.ensures)

pub returns-in-Literal : goal.returns-in-Literal
returns-in-Literal c =
    λ x ev.
    elim c.in-Literal.is [
      | inl e ↦ nought-literal _ x (sym c.kind.ensures ∙ ap kind_named e)
      | inr e ↦ nought-date _ x (sym c.kind.ensures ∙ ap kind_named e)
    ]

pub returns-in-Number : goal.returns-in-Number
returns-in-Number c = λ x ev. c.number_nought.ensures x ev ∙ nought-number _ x (sym c.in-Number.ensures)

pub returns-in-Scientific : goal.returns-in-Scientific
returns-in-Scientific c = λ x ev. scientific-nought c.args.section _ x (sym c.in-Scientific.ensures) ev c.requires.0 c.requires.1

pub returns-in-Fraction : goal.returns-in-Fraction
returns-in-Fraction c = λ x ev. c.fraction_nought.ensures x ev ∙ nought-fraction _ x (sym c.in-Fraction.ensures)

pub returns-in-General : goal.returns-in-General
returns-in-General c =
    λ x ev.
    general-vanishes _ x ev c.general_nought.ensures
    ∙ nought-general _ x
    (elim c.in-General.is [
      | inl e ↦ general-named _ (sym c.kind.ensures ∙ ap kind_named e)
      | inr e ↦ text-named _ (sym c.kind.ensures ∙ ap kind_named e)
    ])
