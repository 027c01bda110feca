-- `planning::general_plan` meets its contract.
-- Assumes nothing.
use mathlib.Core.Path.{◌∙◌}
use Rattle.figure_text.proofs.Digits.{figures-used}
use Rattle.planning.proofs.Numbers.{number-section}
use Rattle.planning.proofs.Generals.{wide_is, general-exactly, general-figures, general-wide, general-takes, general-subject}
use Rattle.planning.proofs.general_plan.Goals as goal

pub returns-then-general_too_wide : goal.returns-then-general_too_wide
returns-then-general_too_wide c =
    λ text x why ev eo.
    rw eo (general-wide _ c.requires.1 x (wide_is _ x ev c.general_too_wide.ensures ∙ c.if-general_too_wide.true) _ _ why)

pub returns : goal.returns
returns c =
    let p = c.requires in
    λ text x why ev eo.
    let are = general-figures _ x ev p.0 c.round_general-digits.ensures.digits in
    rw (c.with_digits.ensures.0, c.with_digits.ensures.1, c.with_digits.ensures.2)
    (number-section c.args.section _ x why ev eo (general-takes _ p.1 x are (wide_is _ x ev c.general_too_wide.ensures ∙ c.if-general_too_wide.false))
    (general-exactly _ x ev _ p.1 c.round_general-digits.ensures.exact) (figures-used are) (general-subject _ p.1 x are))
