use Rattle.bodies.specs.Forms.{date_forms}
use Rattle.bodies.proofs.Tests.{weight-none}
use Rattle.bodies.proofs.facts.weight_of.Goals as goal

pub returns-in_default : goal.returns-in_default
unfolding date_forms
returns-in_default c = weight-none c.args.form c.in_default.in_default-own.rest
