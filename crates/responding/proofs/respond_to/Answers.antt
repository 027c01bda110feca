-- `responding::respond_to` meets its contract.
-- Assumes nothing.
use native.Mathlib.Omega.{arith}
use mathlib.Core.Path.{sym}
use lib.Seq.{length-take-le}
use Rattle.responding.proofs.Answering.{shown-within, preview-refused, preview-answered}
use Rattle.responding.proofs.respond_to.Goals as goal

pub returns-in-Err : goal.returns-in-Err
returns-in-Err c =
    let p = c.preview in
    preview-refused _ _ _ _ p.ensures.room p.auto.room _ c.room-units.ensures c.in-Err.ensures.result c.respond_refused.ensures

pub slice_bounds-units-end : goal.slice_bounds-units-end
slice_bounds-units-end c =
    let p = c.preview in
    omega (arith, p.auto.room, shown-within _ _ _ _ p.ensures.room p.auto.room _ c.in-Ok.ensures.result)

pub slice_bounds-put_lines-end : goal.slice_bounds-put_lines-end
slice_bounds-put_lines-end c =
    let p = c.preview in
    sym (length-take-le _ _ (omega (arith, p.auto.room, shown-within _ _ _ _ p.ensures.room p.auto.room _ c.in-Ok.ensures.result)))

pub returns : goal.returns
returns c =
    let p = c.preview in
    preview-answered _ _ _ _ p.ensures.room p.auto.room _ c.in-Ok.ensures.result c.room-units.ensures c.put_lines.ensures.within
    (rw c.numbers_of.ensures at c.put_lines.ensures.put)
