-- `lexing::ascii_step` meets its contract: the last arm, of a unit without a row.
-- Assumes nothing.
use mathlib.Core.Path.{sym, ◌∙◌}
use Rattle.formats.specs.Tokens.{first_rows}
use Rattle.lexing.proofs.Starting.{bare_step, no_step}
use Rattle.lexing.proofs.ascii_step.Goals as goal

pub returns-then-is_bare : goal.returns-then-is_bare
unfolding first_rows
returns-then-is_bare c =
    bare_step c.args.ascii c.args.us.now c.in_default.in_default-own.rest (sym c.is_bare.ensures ∙ c.if-is_bare.true) _ (λ vs. c.single_unit-then-is_bare.ensures vs ∙ rw c.from-u.ensures)

pub returns-else-is_bare : goal.returns-else-is_bare
unfolding first_rows
returns-else-is_bare c = no_step c.args.ascii c.args.us.now c.in_default.in_default-own.rest (sym c.is_bare.ensures ∙ c.if-is_bare.false)
