-- `checking::places_fit` meets its contract. The invariant, `Placing`: the heads that are left decide.
-- Assumes nothing.
use native.Mathlib.Omega.{arith}
use mathlib.Core.Path.{sym, ◌∙◌}
use Rattle.checking.proofs.Loops.{placing-start, placing-step, placing-fails, placing-end, placing-alone}
use borrow.Author.Rules.{rules}
use Rattle.checking.proofs.places_fit.Goals as goal

pub returns-then-n-eq1 : goal.returns-then-n-eq1
returns-then-n-eq1 c = c.place_fits.ensures ∙ placing-alone _ _ _ c.requires c.section_count-n.ensures c.if-n-eq1.true c.head_at.ensures

pub loop-i-init : goal.loop-i-init
loop-i-init c = placing-start _ _ _ _ c.requires c.section_count-n.ensures c.counted-counted.ensures c.head_at-first.ensures

pub returns-then-not-place_fits : goal.returns-then-not-place_fits
returns-then-not-place_fits c = placing-fails _ _ _ _ _ c.loop-i.invariant (omega arith) _ c.head_at-h.ensures (sym c.place_fits-in-loop-i.ensures ∙ c.if-not-place_fits.true)

pub loop-i-preserved : goal.loop-i-preserved
loop-i-preserved c = placing-step _ _ _ _ _ c.loop-i.invariant (omega arith) _ c.head_at-h.ensures (sym c.place_fits-in-loop-i.ensures ∙ c.if-not-place_fits.false)

pub returns : goal.returns
returns c = placing-end _ _ _ _ _ c.loop-i.invariant (search rules)
