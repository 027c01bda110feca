-- `cuts::decimals_cut` meets its contract.
-- Assumes nothing.
use mathlib.Core.Path.{◌≡◌, ◌∙◌}
use Prim.Native.Nat.{◌+◌, ◌-◌}
use native.Mathlib.Omega.{arith}
use Rattle.cuts.proofs.Counting.{counts_start, counts-here, counts-next, counts_end}
use Rattle.cuts.proofs.decimals_cut.Goals as goal

pub loop-k-init : goal.loop-k-init
loop-k-init c = counts_start _ _ _ _ c.requires.1 c.saturating_sub-k.ensures

pub returns-then-rest-ne0 : goal.returns-then-rest-ne0
returns-then-rest-ne0 c =
    let on : c.loop-k.k - 1 + 1 ≡ c.loop-k.k = omega arith in
    on ∙ counts-here _ c.loop-k.invariant c.loop-k-test.true (λ z. c.if-rest-ne0.true (omega arith))

pub loop-k-preserved : goal.loop-k-preserved
loop-k-preserved c = counts-next _ c.loop-k.invariant c.loop-k-test.true (omega (arith, c.if-rest-ne0.false))

pub returns : goal.returns
returns c = counts_end _ c.loop-k.invariant c.loop-k-test.false
