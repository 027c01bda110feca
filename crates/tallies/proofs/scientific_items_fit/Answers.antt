-- `tallies::scientific_items_fit` meets its contract.
-- Assumes nothing.
use Rattle.tallies.proofs.Exponents.{an-exponent, scientific-exponent, scientific-items-fit}
use Rattle.tallies.proofs.scientific_items_fit.Goals as goal

pub returns : goal.returns
returns c =
    let t = c.args.t in
    rw (c.exponent_fits.ensures, c.no_plain.ensures) (scientific-items-fit t (rw (an-exponent t (scientific-exponent t c.requires)) tt) c.requires)
