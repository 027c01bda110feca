-- `lexing::forms::letter_run` meets its contract.
-- Assumes nothing.
use mathlib.Core.Path.{sym, ◌∙◌}
use borrow.Author.Rules.{rules}
use lib.Dec.{eqb}
use Rattle.lexing.proofs.Scanning.{leading-prefix}
use Rattle.lexing.proofs.Reading.{run-read, run-broken}
use Rattle.lexing.proofs.forms.letter_run.Goals as goal

pub returns-then-run_allowed : goal.returns-then-run_allowed
returns-then-run_allowed c =
    let a = c.args in
    run-read a.form a.u _ a.us.now (c.run_of-more.ensures.count ∙ sym (leading-prefix (eqb a.u) a.us.now)) (search rules) (search rules)
    (sym c.run_allowed.ensures ∙ c.if-run_allowed.true)

pub returns : goal.returns
returns c =
    let a = c.args in
    run-broken a.form a.u _ a.us.now (c.run_of-more.ensures.count ∙ sym (leading-prefix (eqb a.u) a.us.now)) (sym c.run_allowed.ensures ∙ c.if-run_allowed.false)
