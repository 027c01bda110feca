use Rattle.std.proofs.Common.{rules}
use Rattle.bodies.proofs.Headings.{headed-none, headed-other, headed-colour}
use Rattle.bodies.proofs.sections.heading_of.Goals as goal
use Rattle.bodies.proofs.sections.heading_of.Goals.{in_default-via-in-Some+else-mark-eq-COLOUR, in_default-via-in_default}

pub returns-in-Some : goal.returns-in-Some
returns-in-Some c = headed-colour c.args.tokens.now _ c.in-Some.mark.now (search rules) (search rules) c.if-mark-eq-COLOUR.true c.after_colour.ensures

pub returns-in_default : goal.returns-in_default
returns-in_default c =
    elim c.in_default.branch [
      | in_default-via-in-Some+else-mark-eq-COLOUR w ↦
          headed-other c.args.tokens.now _ w.in-Some.mark.now (search rules) (search rules) w.if-mark-eq-COLOUR.false c.after_colour-in_default.ensures
      | in_default-via-in_default w ↦ headed-none c.args.tokens.now _ (search rules) c.after_colour-in_default.ensures
    ]
