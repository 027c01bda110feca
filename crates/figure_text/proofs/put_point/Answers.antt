-- `figure_text::put_point` meets its contract.
-- Assumes nothing.
use native.Mathlib.Omega.{arith}
use Rattle.writing.proofs.Laws.{put-put}
use Rattle.figure_text.proofs.Digits.{put_as}
use Rattle.figure_text.proofs.Extra.{point-first, point-behind}
use Rattle.figure_text.proofs.put_point.Goals as goal

pub returns-then-f-eq-NO_PLACE-clause-put : goal.returns-then-f-eq-NO_PLACE-clause-put
returns-then-f-eq-NO_PLACE-clause-put c =
    λ x are. put_as (point-first are c.if-f-eq-NO_PLACE.true) (put-put (c.put_extra-a.ensures.put x are (omega arith) (omega arith)) c.put_unit.ensures)

pub returns-clause-put : goal.returns-clause-put
returns-clause-put c =
    λ x are. put_as (point-behind are c.if-f-eq-NO_PLACE.false) c.put_unit-2.ensures
