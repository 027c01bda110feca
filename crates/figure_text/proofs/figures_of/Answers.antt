-- `figure_text::figures_of` meets its contract.
-- Assumes nothing.
use mathlib.Core.Path.{refl}
use Rattle.figures.proofs.Places.{used-most}
use Rattle.figure_text.specs.Shown.{figures_with}
use Rattle.figure_text.proofs.figures_of.Goals as goal

pub returns-clause-made : goal.returns-clause-made
unfolding figures_with
returns-clause-made c =
    let e = c.places_used.ensures.list in
    rw (e, c.first_place.ensures) refl

pub returns-clause-most : goal.returns-clause-most
unfolding figures_with
returns-clause-most c =
    let e = c.places_used.ensures.list in
    rw e (used-most 40 c.args.digits)
