-- `checking::cut_fits` meets its contract.
-- Assumes nothing.
use mathlib.Core.Path.{sym, ◌∙◌}
use borrow.Author.Tests.{eq-eqb, ne_eqb}
use Rattle.checking.specs.Checking.{cut_told}
use Rattle.checking.proofs.cut_fits.Goals as goal

pub returns-in_default : goal.returns-in_default
unfolding cut_told
returns-in_default c = rw (← c.head_at-h.ensures, eq-eqb _ _ c.if-h-eq-SCIENTIFIC.true, c.in_default.ensures)

pub returns-then-h-eq-SCIENTIFIC : goal.returns-then-h-eq-SCIENTIFIC
unfolding cut_told
returns-then-h-eq-SCIENTIFIC c =
    rw (← c.head_at-h.ensures, eq-eqb _ _ c.if-h-eq-SCIENTIFIC.true, c.in-Some.ensures.fits, ← c.in-Some.ensures.decimals) c.scientific_fits.ensures

pub returns-then-not-is_fraction : goal.returns-then-not-is_fraction
unfolding cut_told
returns-then-not-is_fraction c =
    rw (← c.head_at-h.ensures, ne_eqb _ _ c.if-h-eq-SCIENTIFIC.false, sym c.is_fraction.ensures ∙ c.if-not-is_fraction.true)

pub returns : goal.returns
unfolding cut_told
returns c =
    rw (← c.head_at-h.ensures, ne_eqb _ _ c.if-h-eq-SCIENTIFIC.false, sym c.is_fraction.ensures ∙ c.if-not-is_fraction.false)
    c.other_fits.ensures
