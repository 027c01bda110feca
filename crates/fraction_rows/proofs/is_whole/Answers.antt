-- `fraction_rows::is_whole` meets its contract.
-- Assumes nothing.
use mathlib.Core.Path.{sym, ◌∙◌}
use Rattle.fraction_rows.proofs.FractionParts.{literal-told, whole-bare, whole-none, whole-refused, whole-literal}
use Rattle.fraction_rows.proofs.is_whole.Goals as goal

pub returns-then-bare_fits : goal.returns-then-bare_fits
returns-then-bare_fits c = whole-bare _ (sym (literal-told _ c.bare_fits.ensures) ∙ c.if-bare_fits.true)

pub returns-in_default : goal.returns-in_default
returns-in_default c = whole-none _ (sym (literal-told _ c.bare_fits.ensures) ∙ c.if-bare_fits.false) c.in_default.ensures

pub returns-then-row-has_tag : goal.returns-then-row-has_tag
returns-then-row-has_tag c =
    whole-refused _ _ c.in-Some.ensures (sym (literal-told _ c.bare_fits.ensures) ∙ c.if-bare_fits.false) (rw c.has_tag.ensures at c.if-row-has_tag.true)

pub returns : goal.returns
returns c =
    c.literal_follows.ensures
    ∙ whole-literal _ _ c.in-Some.ensures (sym (literal-told _ c.bare_fits.ensures) ∙ c.if-bare_fits.false) (rw c.has_tag.ensures at c.if-row-has_tag.false)
