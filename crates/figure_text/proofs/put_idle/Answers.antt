-- `figure_text::put_idle` meets its contract.
-- Assumes nothing.
use native.Mathlib.Omega.{arith}
use borrow.Author.Tests.{eq-eqb}
use Rattle.writing.proofs.Laws.{put-none}
use Rattle.figure_text.proofs.Digits.{put_as, nothing-shows}
use Rattle.figure_text.proofs.put_idle.Goals as goal

pub returns-then-place-eq-HASH_PLACE-clause-put : goal.returns-then-place-eq-HASH_PLACE-clause-put
returns-then-place-eq-HASH_PLACE-clause-put c =
    let a = c.args in
    rw (eq-eqb a.place 5 (omega arith)) (put_as (nothing-shows a.grouped a.q) (put-none _ _))
