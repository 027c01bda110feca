use Rattle.std.proofs.Common.{rules, arith, ◌≡◌, ◌∷◌}
use Rattle.emitting.proofs.Going.{going_start, going-room, going-next, going-last, going_step, going_end}
use Rattle.emitting.proofs.put_items.Goals as goal

pub loop-mark-init : goal.loop-mark-init
loop-mark-init c = going_start _ _ c.requires.told _ _

pub put_token-w-requires-clause-at_bound : goal.put_token-w-requires-clause-at_bound
put_token-w-requires-clause-at_bound c =
    let l = c.loop-mark in
    let r = going-room c.args.code.now c.args.body.now c.args.told c.requires.at_bound.2 l.invariant in
    (omega arith, l.invariant.digit, c.requires.at_bound.1, omega (arith, c.requires.told.later))

pub put_token-w-requires-clause-fills_value : goal.put_token-w-requires-clause-fills_value
put_token-w-requires-clause-fills_value c =
    let e : c.loop-mark.rest.now ≡ c.in-Some.mark.now ∷ c.in-Some.behind.now = search rules in
    (going-next c.args.code.now _ _ _ e c.loop-mark.invariant).fills

pub loop-mark-preserved : goal.loop-mark-preserved
loop-mark-preserved c =
    let e : c.loop-mark.rest.now ≡ c.in-Some.mark.now ∷ c.in-Some.behind.now = search rules in
    going_step _ _ _ _ _ _ _ _ _ _ (going-next c.args.code.now _ _ _ e c.loop-mark.invariant) c.put_token-w.ensures

pub returns : goal.returns
returns c = going_end _ _ _ _ _ _ (going-last c.args.code.now c.loop-mark.rest.now c.in_default.ensures.cases c.loop-mark.invariant)
