use Rattle.std.proofs.Common.{rules}
use Rattle.bodies.proofs.Headings.{heading-end, heading-bare, heading-condition}
use Rattle.bodies.proofs.sections.after_colour.Goals as goal

pub returns-in-Some : goal.returns-in-Some
returns-in-Some c =
    let a = c.args in
    heading-condition a.tokens.now a.colour a.passed c.requires c.in-Some.mark.now (search rules) (search rules) c.if-mark-eq-CONDITION.true

pub returns-in_default : goal.returns-in_default
returns-in_default c =
    let a = c.args in
    heading-bare a.tokens.now a.colour a.passed c.requires c.in-Some.mark.now (search rules) (search rules) c.if-mark-eq-CONDITION.false

pub returns-in_default-2 : goal.returns-in_default-2
returns-in_default-2 c = let a = c.args in heading-end a.tokens.now a.colour a.passed c.requires (search rules)
