-- `figure_text::put_figure` meets its contract.
-- Assumes nothing.
use native.Mathlib.Omega.{arith}
use Rattle.figure_text.proofs.Digits.{put_as, figure-idle, figure-digit}
use Rattle.figure_text.proofs.put_figure.Goals as goal

pub returns-then-is_idle-clause-put : goal.returns-then-is_idle-clause-put
returns-then-is_idle-clause-put c =
    let a = c.args in
    λ x are. put_as (figure-idle are a.place a.q (omega arith) (c.is_idle.ensures x are) c.if-is_idle.true) c.put_idle.ensures.put

pub returns-clause-put : goal.returns-clause-put
returns-clause-put c =
    let a = c.args in λ x are. put_as (figure-digit are a.place a.q (omega arith) (c.is_idle.ensures x are) c.if-is_idle.false)
    (rw c.digit_unit.ensures at c.put_shown.ensures.put)
