-- `planning::integer_places` meets its contract.
-- Assumes nothing.
use native.Mathlib.Omega.{arith}
use Rattle.planning.proofs.Places.{argument_is}
use Rattle.planning.proofs.integer_places.Goals as goal

pub overflow_sub-result : goal.overflow_sub-result
overflow_sub-result c = omega (arith, argument_is c.args.section c.requires c.items.ensures c.first_argument.ensures)

pub returns : goal.returns
returns c = omega (arith, argument_is c.args.section c.requires c.items.ensures c.first_argument.ensures)
