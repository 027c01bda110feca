-- `lexing::brackets::plain_form` meets its contract.
-- Assumes nothing.
use mathlib.Core.Path.{sym, ◌∙◌}
use Rattle.lexing.proofs.Bracketing.{plain-hours, plain-minutes, plain-seconds, plain-condition, plain-none}
use Rattle.lexing.proofs.brackets.plain_form.Goals as goal

pub returns-then-is_run : goal.returns-then-is_run
returns-then-is_run c = plain-hours c.args.inside.now (sym c.is_run.ensures ∙ c.if-is_run.true)

pub returns-then-is_run-2 : goal.returns-then-is_run-2
returns-then-is_run-2 c = plain-minutes c.args.inside.now (sym c.is_run.ensures ∙ c.if-is_run.false) (sym c.is_run-2.ensures ∙ c.if-is_run-2.true)

pub returns-then-is_run-3 : goal.returns-then-is_run-3
returns-then-is_run-3 c =
    plain-seconds c.args.inside.now (sym c.is_run.ensures ∙ c.if-is_run.false) (sym c.is_run-2.ensures ∙ c.if-is_run-2.false)
    (sym c.is_run-3.ensures ∙ c.if-is_run-3.true)

pub returns-then-is_condition : goal.returns-then-is_condition
returns-then-is_condition c =
    plain-condition c.args.inside.now (sym c.is_run.ensures ∙ c.if-is_run.false) (sym c.is_run-2.ensures ∙ c.if-is_run-2.false)
    (sym c.is_run-3.ensures ∙ c.if-is_run-3.false) (sym c.is_condition.ensures ∙ c.if-is_condition.true)

pub returns : goal.returns
returns c =
    plain-none c.args.inside.now (sym c.is_run.ensures ∙ c.if-is_run.false) (sym c.is_run-2.ensures ∙ c.if-is_run-2.false)
    (sym c.is_run-3.ensures ∙ c.if-is_run-3.false) (sym c.is_condition.ensures ∙ c.if-is_condition.false)
