-- `figures::round_general` meets its contract.
-- Assumes nothing.
use mathlib.Core.Path.{◌∙◌}
use Rattle.figures.proofs.Exactly.{general-same}
use Rattle.figures.proofs.round_general.Goals as goal

pub returns-clause-exact : goal.returns-clause-exact
returns-clause-exact c =
    let e = c.general_decimals.ensures.1 in
    c.round.ensures.exact ∙ general-same _ _ e
