-- `reasons::instant_grounds` meets its contract.
-- Assumes nothing.
use mathlib.Core.Path.{sym, ap, ◌∙◌}
use Rattle.grounds.specs.Why.{instant_grounds}
use Rattle.planning.proofs.Values.{found_within, none_found, some-found, sought-exact}
use Rattle.reasons.proofs.instant_grounds.Goals as goal

pub section-requires : goal.section-requires
section-requires c = found_within _ _ _ (sym c.in-Some.is ∙ c.choose.ensures)

pub returns-in-None : goal.returns-in-None
unfolding instant_grounds
returns-in-None c =
    c.no_grounds.ensures
    ∙ sym (ap (instant_grounds _) (none_found _ (sought-exact _ _ c.instant_sought.ensures) (sym c.in-None.is ∙ c.choose.ensures)))

pub returns-in-Some : goal.returns-in-Some
unfolding instant_grounds
returns-in-Some c =
    let z = c.section.ensures in
    rw (← z.table)
    (some-found c.section.result (sought-exact _ _ c.instant_sought.ensures) (rw (z.place, z.table) (sym c.in-Some.is ∙ c.choose.ensures))
    (λ why e. c.chosen_grounds.ensures _ why e ∙ sym (ap (instant_grounds _) e)))
