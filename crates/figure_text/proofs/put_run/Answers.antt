-- `figure_text::put_run` meets its contract.
-- Assumes nothing.
use mathlib.Core.Path.{◌∙◌}
use native.Mathlib.Omega.{arith}
use Rattle.writing.proofs.Laws.{put-size}
use Rattle.figure_text.proofs.General.{run-turn, run-done}
use Rattle.figure_text.proofs.put_run.Goals as goal

pub loop-k-preserved : goal.loop-k-preserved
loop-k-preserved c =
    let l = c.loop-k in
    let a = c.args in
    let put = c.put_unit-o.ensures in (
      omega arith,
      omega (arith, put.next),
      put-size put ∙ l.invariant.2,
      λ n e. run-turn n l.k a.low _ e (omega arith) c.loop-k-test.true c.digit_unit.ensures (l.invariant.3 n e) put,
    )

pub returns-clause-put : goal.returns-clause-put
returns-clause-put c =
    let l = c.loop-k in
    λ n e. run-done n l.k c.args.low c.loop-k-test.false (l.invariant.3 n e)
