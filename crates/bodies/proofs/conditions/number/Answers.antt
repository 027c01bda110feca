use Rattle.std.proofs.Common.{rules, arith, ◌≡◌, get_or}
use Rattle.bodies.proofs.Numbers.{digit-range, numbering_start, numbering-room, numbering-end, numbering-step}
use Rattle.bodies.proofs.conditions.number.Goals as goal

pub loop-i-init : goal.loop-i-init
loop-i-init c = search (rules, numbering_start)

pub overflow_sub-digit : goal.overflow_sub-digit
overflow_sub-digit c =
    let e : c.unwrap_or-digit.result ≡ get_or c.args.us.now c.loop-i.i 48 = search rules in
    omega (arith, digit-range c.args.us.now c.loop-i.i c.loop-i.invariant.digits)

pub overflow_mul-v : goal.overflow_mul-v
overflow_mul-v c = omega (arith, numbering-room _ _ _ _ c.loop-i.invariant (search rules))

pub overflow_add-v : goal.overflow_add-v
overflow_add-v c =
    let e : c.unwrap_or-digit.result ≡ get_or c.args.us.now c.loop-i.i 48 = search rules in
    omega (arith, numbering-room _ _ _ _ c.loop-i.invariant (search rules), digit-range c.args.us.now c.loop-i.i c.loop-i.invariant.digits)

pub loop-i-preserved : goal.loop-i-preserved
loop-i-preserved c =
    let e : c.unwrap_or-digit.result ≡ get_or c.args.us.now c.loop-i.i 48 = search rules in
    numbering-step _ _ _ _ c.loop-i.invariant (search rules) _ _ e (search rules)

pub returns : goal.returns
returns c = numbering-end _ _ _ _ c.loop-i.invariant (search rules)
