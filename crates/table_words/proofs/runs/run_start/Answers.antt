-- `table_words::runs::run_start` meets its contract. The invariant, `Backing`: all items behind are places.
-- Assumes nothing.
use Prim.Native.Nat.{◌+◌, ◌-◌, ◌*◌}
use native.Mathlib.Omega.{arith}
use mathlib.Core.Path.{◌≡◌, sym, ◌∙◌}
use Rattle.table_words.proofs.PlaceRuns.{backing-start, backing-step, backing-met, backing-end}
use Rattle.table_words.proofs.runs.run_start.Goals as goal

pub loop-k-init : goal.loop-k-init
loop-k-init c = backing-start _

pub returns-then-not-is_place : goal.returns-then-not-is_place
returns-then-not-is_place c =
    let e : 2 * (c.loop-k.k - 1) + 2 ≡ 2 * c.loop-k.k = omega arith in
    rw e (backing-met c.loop-k.invariant c.loop-k-test.true (sym c.is_place.ensures ∙ c.if-not-is_place.true))

pub loop-k-preserved : goal.loop-k-preserved
loop-k-preserved c = backing-step c.loop-k.invariant c.loop-k-test.true (sym c.is_place.ensures ∙ c.if-not-is_place.false)

pub returns : goal.returns
returns c = backing-end c.loop-k.invariant c.loop-k-test.false
