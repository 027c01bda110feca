-- `reasons::tried_at` meets its contract.
-- Assumes nothing.
use Rattle.std.proofs.Common.{sym, arith}
use Rattle.grounds.proofs.Taking.{tried-none}
use Rattle.reasons.proofs.Choices.{tried-own, tried-fallback}
use Rattle.reasons.proofs.tried_at.Goals as goal

pub returns-then-section-place : goal.returns-then-section-place
returns-then-section-place c = sym (tried-none _ _ _ (omega arith))

pub returns-then-has_condition : goal.returns-then-has_condition
returns-then-has_condition c =
    let z = c.section-earlier.ensures in
    rw (← z.place) (tried-own c.args.section c.section-earlier.result (omega (arith, z.place)) z.table c.has_condition.ensures c.if-has_condition.true)

pub returns : goal.returns
returns c =
    let z = c.section-earlier.ensures in
    rw (← z.place) (tried-fallback c.args.section c.section-earlier.result (omega (arith, z.place)) z.table c.has_condition.ensures c.if-has_condition.false)
