use Rattle.std.proofs.Common.{◌∙◌}
use Rattle.emitting.proofs.Buffer.{zeros-told}
use Rattle.emitting.proofs.part_zeros.Goals as goal

pub returns-then-date-behind : goal.returns-then-date-behind
returns-then-date-behind c code = rw c.if-date-behind.true (c.zeros_in.ensures ∙ zeros-told code 3 c.args.rest.now)
