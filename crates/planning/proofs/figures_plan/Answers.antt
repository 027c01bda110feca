-- `planning::figures_plan` meets its contract.
-- Assumes nothing.
use Rattle.table_words.proofs.Bodies.{section-limits}
use Rattle.figure_text.proofs.Digits.{figures-used}
use Rattle.planning.proofs.Places.{integers-most}
use Rattle.planning.proofs.Subjects.{number-subject}
use Rattle.planning.proofs.Numbers.{number-section}
use Rattle.planning.proofs.Sections.{number-figures, number-takes}
use Rattle.planning.proofs.figures_plan.Goals as goal

pub returns : goal.returns
returns c =
    let p = c.requires in
    let z = c.args.section in
    λ text x why ev eo.
    let are = number-figures _ x p.2 (section-limits _ _ z.table.passes z.there) (integers-most z (rw p.2)) (rw ev at p.0) (c.number_digits-digits.ensures.digits x ev) c.integer_places-integers.ensures c.is_grouped.ensures in
    rw (c.with_digits.ensures.0, c.with_digits.ensures.1, c.with_digits.ensures.2)
    (number-section z _ x why ev eo (number-takes _ x p.2 are) (c.number_digits-digits.ensures.exact x ev) (figures-used are) (number-subject _ p.2 are))
