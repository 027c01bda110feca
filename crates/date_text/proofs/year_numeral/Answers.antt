-- `date_text::year_numeral` meets its contract.
-- Assumes nothing.
use mathlib.Core.Path.{◌≡◌, refl}
use native.Mathlib.Omega.{arith}
use borrow.Author.Tests.{eq-eqb, ne_eqb}
use Rattle.formats.specs.Text.{year_units}
use Rattle.date_text.proofs.year_numeral.Goals as goal

pub returns-then-n-eq2 : goal.returns-then-n-eq2
unfolding year_units
returns-then-n-eq2 c =
    let h : c.args.n ≡ 2 = omega arith in
    rw (c.new.ensures, eq-eqb _ 2 h) (refl, refl)

pub returns : goal.returns
unfolding year_units
returns c = rw (c.new-2.ensures, ne_eqb _ 2 c.if-n-eq2.false) (refl, refl)
