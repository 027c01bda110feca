use Rattle.emitting.proofs.Turns.{turn-past, turn-put}
use Rattle.emitting.proofs.put_token.Goals as goal

pub returns-then-w-gt0 : goal.returns-then-w-gt0
returns-then-w-gt0 c =
    let a = c.args in
    turn-past a.date a.anew a.code.now a.mark _ a.w _ _ c.requires.at_bound.1 c.passed.ensures c.if-w-gt0.true c.requires.fills_value

pub returns : goal.returns
returns c =
    let a = c.args in
    turn-put a.date a.anew a.code.now a.mark _ a.w _ _ _ _ _ c.requires.at_bound.3 c.requires.at_bound.1 c.walked.ensures c.if-w-gt0.false c.requires.fills_value
    (c.part_zeros-n.ensures a.code.now) c.put_form-at.ensures.put c.put_form-at.ensures.near
