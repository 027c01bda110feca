-- `planning::plan_of` meets its contract.
-- Assumes nothing.
use Rattle.std.proofs.lemmas.Result.{err_from_is_err_and}
use Rattle.planning.proofs.Values.{value-reading}
use Rattle.planning.proofs.plan_of.Goals as goal

pub returns-in-Number : goal.returns-in-Number
returns-in-Number c = rw (value-reading _ _ _ _ c.in-Number.is) (c.number_plan.ensures _)

pub returns-in_err-instant_plan-in-Instant : goal.returns-in_err-instant_plan-in-Instant
returns-in_err-instant_plan-in-Instant c =
    let p = err_from_is_err_and c.from_residual.result c.from_residual.ensures.1 in
    rw (p.1, p.2, value-reading _ _ _ _ c.in-Instant.is) (c.in_err-instant_plan-in-Instant.ensures _)

pub returns-in_ok-instant_plan-in-Instant : goal.returns-in_ok-instant_plan-in-Instant
returns-in_ok-instant_plan-in-Instant c =
    rw (c.without_digits.ensures.0, c.without_digits.ensures.1, value-reading _ _ _ _ c.in-Instant.is)
    (c.in_ok-instant_plan-in-Instant.ensures _ _)

pub returns-in_err-text_plan-in-Text : goal.returns-in_err-text_plan-in-Text
returns-in_err-text_plan-in-Text c =
    let p = err_from_is_err_and c.from_residual-in_err-text_plan-in-Text.result c.from_residual-in_err-text_plan-in-Text.ensures.1 in
    rw (p.1, p.2, value-reading _ _ _ _ c.in-Text.is) (c.in_err-text_plan-in-Text.ensures)

pub returns-in_ok-text_plan-in-Text : goal.returns-in_ok-text_plan-in-Text
returns-in_ok-text_plan-in-Text c =
    rw (c.without_digits-in-Text.ensures.0, c.without_digits-in-Text.ensures.1, value-reading _ _ _ _ c.in-Text.is)
    (c.in_ok-text_plan-in-Text.ensures _)
