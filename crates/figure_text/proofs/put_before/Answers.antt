-- `figure_text::put_before` meets its contract.
-- Assumes nothing.
use native.Mathlib.Omega.{arith}
use Rattle.writing.proofs.Laws.{put-none}
use Rattle.figure_text.proofs.Digits.{put_as}
use Rattle.figure_text.proofs.Extra.{before-others, before-first, place-first}
use Rattle.figure_text.proofs.put_before.Goals as goal

pub returns-then-q-f-clause-put : goal.returns-then-q-f-clause-put
returns-then-q-f-clause-put c =
    let a = c.args in λ x are. put_as (before-first are a.q _ (omega arith) c.if-q-f.true (omega arith))
    (c.put_extra.ensures.put x are (omega (arith, place-first are a.q c.if-q-f.true)) (omega arith))

pub returns-clause-put : goal.returns-clause-put
returns-clause-put c =
    let a = c.args in
    λ x are. put_as (before-others are a.q (omega arith) c.if-q-f.false) (put-none _ _)
