-- `figure_text::put_extra` meets its contract.
-- Assumes nothing.
use mathlib.Core.Path.{refl, ◌∙◌}
use native.Mathlib.Omega.{arith}
use Rattle.writing.proofs.Laws.{put-size}
use Rattle.figure_text.proofs.Extra.{extra-start, extra-turn, extra-done}
use Rattle.figure_text.proofs.put_extra.Goals as goal

pub loop-k-init : goal.loop-k-init
loop-k-init c = (omega arith, omega arith, refl, λ x are low h. extra-start are _ _ _ low h)

pub loop-k-preserved : goal.loop-k-preserved
loop-k-preserved c =
    let l = c.loop-k in
    let a = c.args in
    let put = c.put_shown-o.ensures.put in (
      omega arith,
      omega arith,
      put-size put ∙ l.invariant.2,
      λ x are low h. extra-turn are a.q l.k low c.loop-k-test.true (omega arith) c.digit_unit.ensures (l.invariant.3 x are low h) put,
    )

pub returns-clause-put : goal.returns-clause-put
returns-clause-put c =
    let l = c.loop-k in
    λ x are low h. extra-done are c.args.q l.k c.loop-k-test.false (l.invariant.3 x are low h)
