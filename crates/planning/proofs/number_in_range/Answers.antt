-- `planning::number_in_range` meets its contract.
-- Assumes nothing.
use mathlib.Core.Path.{sym, ◌∙◌}
use Rattle.formats.specs.Reading.{read_value, read_number}
use Rattle.planning.proofs.Values.{number-exact, found_within, none_found, some-found}
use Rattle.planning.proofs.number_in_range.Goals as goal

pub section-requires : goal.section-requires
section-requires c = found_within _ _ _ (sym c.in-Some.is ∙ c.choose.ensures)

pub returns-in-None : goal.returns-in-None
unfolding read_value read_number
returns-in-None c =
    λ text x ev size. rw (none_found _ (number-exact _ x c.number_sought.ensures ev) (sym c.in-None.is ∙ c.choose.ensures))

pub returns-in-Some : goal.returns-in-Some
unfolding read_value
returns-in-Some c =
    let z = c.section.ensures in
    λ text x ev.
    rw (← z.table)
    (some-found c.section.result (number-exact _ x c.number_sought.ensures ev) (rw (z.place, z.table) (sym c.in-Some.is ∙ c.choose.ensures))
    (λ why e. c.number_in.ensures text x why ev e))
