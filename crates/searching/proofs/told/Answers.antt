-- `searching::told` meets its contract.
-- Assumes nothing.
use mathlib.Core.Path.{sym, ◌∙◌}
use native.Mathlib.Omega.{arith}
use Rattle.searching.proofs.Steps.{told-above, told-not-above}
use Rattle.searching.proofs.told.Goals as goal

pub returns-then-s-number : goal.returns-then-s-number
returns-then-s-number c =
    let a = c.args in
    c.above.ensures ∙ sym (told-above a.s a.number (omega arith))

pub returns-else-s-number : goal.returns-else-s-number
returns-else-s-number c =
    let a = c.args in
    c.not_above.ensures ∙ sym (told-not-above a.s a.number (omega arith))
