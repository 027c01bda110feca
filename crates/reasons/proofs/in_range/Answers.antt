-- `reasons::in_range` meets its contract.
-- Assumes nothing.
use mathlib.Core.Path.{sym, ap, ◌∙◌}
use Rattle.grounds.specs.Why.{number_grounds, grounds_of}
use Rattle.planning.proofs.Values.{number-exact, found_within, none_found, some-found}
use Rattle.reasons.proofs.in_range.Goals as goal

pub section-requires : goal.section-requires
section-requires c = found_within _ _ _ (sym c.in-Some.is ∙ c.choose.ensures)

pub returns-in-None : goal.returns-in-None
unfolding grounds_of number_grounds
returns-in-None c =
    λ x ev.
    c.no_grounds.ensures
    ∙ sym (ap (number_grounds _ x) (none_found _ (number-exact _ x c.number_sought.ensures ev) (sym c.in-None.is ∙ c.choose.ensures)))

pub returns-in-Some : goal.returns-in-Some
unfolding grounds_of
returns-in-Some c =
    let z = c.section.ensures in
    λ x ev.
    rw (← z.table)
    (some-found c.section.result (number-exact _ x c.number_sought.ensures ev) (rw (z.place, z.table) (sym c.in-Some.is ∙ c.choose.ensures))
    (λ why e. c.number_in.ensures x why ev e ∙ sym (ap (number_grounds _ x) e)))
