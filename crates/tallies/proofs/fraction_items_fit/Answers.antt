-- `tallies::fraction_items_fit` meets its contract.
-- Assumes nothing.
use Rattle.tallies.proofs.Exponents.{fraction-cut, fraction-items-fit}
use Rattle.tallies.proofs.fraction_items_fit.Goals as goal

pub returns : goal.returns
returns c =
    rw c.no_plain.ensures (fraction-items-fit c.args.t (fraction-cut c.args.t c.requires) c.requires)
