-- `lexing::forms::place_token` meets its contract.
-- Assumes nothing.
use native.Mathlib.Omega.{arith}
use Rattle.lexing.proofs.Placing.{first-over, first-alone, last-alone}
use Rattle.lexing.proofs.forms.place_token.Goals as goal
use Rattle.lexing.proofs.forms.place_token.Goals.{in_default-via-in-Some+else-unit-eq-SOLIDUS, in_default-via-in_default}

pub returns-in-Some : goal.returns-in-Some
returns-in-Some c =
    first-over c.args.form c.requires.1 c.requires.2 c.args.us.now c.in-Some.behind.now c.in-Some.unit.now c.in-Some.ensures.cases.0 (omega arith) _ c.over_token.ensures

pub returns-in_default : goal.returns-in_default
returns-in_default c =
    let us = c.args.us.now in
    elim c.in_default.branch [
      | in_default-via-in-Some+else-unit-eq-SOLIDUS w ↦
          first-alone c.args.form c.requires.1 c.requires.2 us w.in-Some.behind.now w.in-Some.unit.now w.in-Some.ensures.cases.0 (λ p. omega arith) _ c.single_unit.ensures
      | in_default-via-in_default w ↦ last-alone c.args.form c.requires.1 c.requires.2 us w.in_default.ensures.cases _ c.single_unit.ensures
    ]
