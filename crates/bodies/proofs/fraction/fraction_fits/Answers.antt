use Rattle.std.proofs.Common.{rules}
use Rattle.bodies.proofs.Fractions.{walk_end}
use Rattle.bodies.proofs.fraction.fraction_fits.Goals as goal

pub returns : goal.returns
returns c = search (rules, walk_end)
