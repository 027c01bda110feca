-- `checking::rows_fit` meets its contract. The invariant, `Rowing`: the rows that are left decide.
-- Assumes nothing.
use Prim.Native.Nat.{◌+◌, ◌*◌, ◌-◌}
use native.Mathlib.Omega.{arith}
use Rattle.checking.proofs.Loops.{rowing_start, rowing-step, rowing-fails, rowing-end, within}
use borrow.Author.Rules.{rules}
use Rattle.checking.proofs.rows_fit.Goals as goal

pub loop-i-init : goal.loop-i-init
loop-i-init c = rowing_start _ _ c.requires c.section_count-n.ensures

pub slice_bounds-row_fits-end : goal.slice_bounds-row_fits-end
slice_bounds-row_fits-end c = let w = within _ _ _ _ c.loop-i.invariant (omega arith) _ c.head_at-h.ensures in search rules

pub returns-then-not-row_fits : goal.returns-then-not-row_fits
returns-then-not-row_fits c =
    let at = c.loop-i.at in
    let items = c.head_at-h.result.items in
    rowing-fails _ _ _ _ c.loop-i.invariant (omega arith) _ c.head_at-h.ensures (at + 2 * items - at) (omega arith) _ c.row_fits.ensures (c.if-not-row_fits.true)

pub loop-i-preserved : goal.loop-i-preserved
loop-i-preserved c =
    let at = c.loop-i.at in
    let items = c.head_at-h.result.items in
    rowing-step _ _ _ _ c.loop-i.invariant (omega arith) _ c.head_at-h.ensures (at + 2 * items - at) (omega arith) _ c.row_fits.ensures (c.if-not-row_fits.false)

pub returns : goal.returns
returns c = rowing-end _ _ _ _ c.loop-i.invariant (search rules)
