-- `fractions::moved` meets its contract.
-- Assumes nothing.
use mathlib.Core.Path.{ap}
use Rattle.fractions.specs.Moves.{steps_to, stepped, moved_to}
use Rattle.fractions.proofs.moved.Goals as goal

pub returns : goal.returns
unfolding moved_to stepped steps_to
returns c = ap (stepped c.args.near c.args.far) c.steps-k.ensures
