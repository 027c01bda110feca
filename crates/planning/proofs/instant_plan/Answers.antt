-- `planning::instant_plan` meets its contract.
-- Assumes nothing.
use native.Mathlib.Omega.{arith}
use mathlib.Core.Path.{sym, ◌∙◌}
use Rattle.formats.specs.Reading.{read_value, read_instant}
use Rattle.planning.specs.Plan.{value_reading}
use Rattle.planning.proofs.Values.{instant-within, found_within, none_found, some-found, sought-exact}
use Rattle.planning.proofs.instant_plan.Goals as goal

pub section-requires : goal.section-requires
section-requires c = found_within _ _ _ (sym c.in-Some.is ∙ c.choose.ensures)

pub returns-in-None : goal.returns-in-None
unfolding read_value read_instant
returns-in-None c =
    let a = c.args in
    let e = sought-exact _ _ c.instant_sought.ensures in
    λ text size.
    rw (instant-within a.d a.m (omega arith) (omega arith), none_found _ e (sym c.in-None.is ∙ c.choose.ensures))

pub returns-in-Some : goal.returns-in-Some
unfolding read_value
returns-in-Some c =
    let a = c.args in
    let z = c.section.ensures in
    λ text.
    rw (instant-within a.d a.m (omega arith) (omega arith), value_reading, ← z.table)
    (some-found c.section.result (sought-exact _ _ c.instant_sought.ensures) (rw (z.place, z.table) (sym c.in-Some.is ∙ c.choose.ensures))
    (λ why g. c.instant_in.ensures text why g))
