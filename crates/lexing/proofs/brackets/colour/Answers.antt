-- `lexing::brackets::colour` meets its contract.
-- Assumes nothing.
use borrow.Author.Rules.{rules}
use Rattle.lexing.proofs.Bracketing.{colour-either}
use Rattle.lexing.proofs.brackets.colour.Goals as goal

pub returns : goal.returns
returns c = colour-either c.args.inside.now c.named_colour.result c.or_else.result c.named_colour.ensures (search rules)
