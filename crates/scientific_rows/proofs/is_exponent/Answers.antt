-- `scientific_rows::is_exponent` meets its contract.
-- Assumes nothing.
use native.Mathlib.Omega.{arith}
use mathlib.Core.Path.{sym, ◌∙◌}
use Rattle.std.proofs.lemmas.Bool.Decides.{nat_tests}
use Rattle.scientific_rows.proofs.ScientificRows.{exponent-none, exponent-refused, exponent-pointed, exponent-spaced}
use Rattle.scientific_rows.proofs.is_exponent.Goals as goal

pub returns-in_default : goal.returns-in_default
returns-in_default c = exponent-none _ c.in_default.ensures

pub returns-then-row : goal.returns-then-row
returns-then-row c = exponent-refused _ _ c.in-Some.ensures (grind (arith, nat_tests, c.if-row.true))

pub returns-then-has_tag : goal.returns-then-has_tag
returns-then-has_tag c = exponent-pointed _ _ c.in-Some.ensures (sym c.has_tag.ensures ∙ c.if-has_tag.true)

pub returns : goal.returns
returns c =
    rw c.has_tag-2.ensures (exponent-spaced _ _ c.in-Some.ensures (grind (arith, nat_tests, c.if-row.false)) (sym c.has_tag.ensures ∙ c.if-has_tag.false))
