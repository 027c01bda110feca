use Rattle.std.proofs.Common.{rules, arith}
use Rattle.bodies.proofs.Comparing.{whole-digits, decimals-part, beyond-whole, beyond-decimals, amount-within}
use Rattle.bodies.proofs.conditions.amount_of.Goals as goal

pub returns-then-n-gt9 : goal.returns-then-n-gt9
returns-then-n-gt9 c operator = beyond-whole _ _ _ c.digits-n.ensures.count c.min-behind.ensures c.args.negative operator c.if-n-gt9.true

pub returns-then-decimals-gt6 : goal.returns-then-decimals-gt6
returns-then-decimals-gt6 c operator =
    beyond-decimals _ _ _ c.digits-n.ensures.count c.min-behind.ensures c.args.negative operator c.if-n-gt9.false c.if-decimals-gt6.true

pub number-whole-requires : goal.number-whole-requires
number-whole-requires c = (c.if-n-gt9.false, whole-digits _ _ _ c.digits-n.ensures.count c.min-behind.ensures)

pub number-millionths-requires : goal.number-millionths-requires
number-millionths-requires c = (omega arith, rw (decimals-part _ _ _ c.digits-n.ensures.count c.min-behind.ensures) (search rules))

pub returns : goal.returns
returns c operator =
    amount-within _ _ _ c.digits-n.ensures.count c.min-behind.ensures c.args.negative operator c.if-n-gt9.false c.if-decimals-gt6.false _ _
    c.number-whole.ensures.0 c.number-whole.ensures.1 c.number-millionths.ensures.0 c.number-millionths.ensures.1
