-- `fraction_rows::is_run` meets its contract.
-- Assumes nothing.
use native.Mathlib.Omega.{arith}
use mathlib.Core.Path.{sym, ◌∙◌}
use Rattle.std.proofs.lemmas.Bool.Decides.{nat_tests}
use Rattle.fraction_rows.proofs.FractionParts.{run-none, run-refused, run-pointed, run-counted}
use Rattle.fraction_rows.proofs.FractionLoops.{run_length}
use Rattle.fraction_rows.proofs.is_run.Goals as goal

pub returns-in_default : goal.returns-in_default
returns-in_default c = run-none _ c.in_default.ensures

pub returns-then-row : goal.returns-then-row
returns-then-row c = run-refused _ _ c.in-Some.ensures (grind (arith, nat_tests, c.if-row.true))

pub returns-then-has_tag : goal.returns-then-has_tag
returns-then-has_tag c = run-pointed _ _ c.in-Some.ensures (sym c.has_tag.ensures ∙ c.if-has_tag.true)

pub returns : goal.returns
returns c =
    rw (run_length c.run_end.ensures) (run-counted _ _ c.in-Some.ensures (grind (arith, nat_tests, c.if-row.false)) (sym c.has_tag.ensures ∙ c.if-has_tag.false))
