-- `reasons::section_cut` meets its contract.
-- Assumes nothing.
use Rattle.std.proofs.Common.{sym, ap, ◌∙◌, inl, inr}
use Rattle.table_words.specs.Tabled.{kind_named}
use Rattle.grounds.proofs.Holding.{cut-literal, cut-date, cut-fraction}
use Rattle.reasons.proofs.Cuts.{general-cuts, general-named, text-named}
use Rattle.reasons.proofs.section_cut.Goals as goal

pub number_cut-requires : goal.number_cut-requires
number_cut-requires c = (c.requires.1, sym c.in-Number.ensures)

pub mantissa_cut-requires : goal.mantissa_cut-requires
mantissa_cut-requires c = (c.requires.0, c.requires.1, sym c.in-Scientific.ensures)

pub returns-in-Literal : goal.returns-in-Literal
returns-in-Literal c =
    λ x ev.
    sym
    (elim c.in-Literal.is [
      | inl e ↦ cut-literal _ x (sym c.kind.ensures ∙ ap kind_named e)
      | inr h ↦ elim h [
        | inl e ↦ cut-date _ x (sym c.kind.ensures ∙ ap kind_named e)
        | inr e ↦ cut-fraction _ x (sym c.kind.ensures ∙ ap kind_named e)
      ]
    ])

pub returns-in-General : goal.returns-in-General
returns-in-General c =
    λ x ev.
    general-cuts _ _ x
    (elim c.in-General.is [
      | inl e ↦ general-named _ (sym c.kind.ensures ∙ ap kind_named e)
      | inr e ↦ text-named _ (sym c.kind.ensures ∙ ap kind_named e)
    ])
    ev c.general_cut.ensures
