-- `figures::round` meets its contract: a quotient where digits go, a product where none goes.
-- Assumes nothing.
use mathlib.Core.Path.{◌≡◌, sym, ap, ◌∙◌}
use Prim.Native.Nat.{ℕ, ◌-◌, ◌*◌, ◌^◌}
use native.Mathlib.Omega.{arith}
use Rattle.std.proofs.Common.{rules, replicate}
use Rattle.figures.specs.Digits.{figures}
use Rattle.figures.proofs.Digits.{zeros}
use Rattle.figures.proofs.Rounding.{rounded-divided, rounded-exact, rounded-within}
use Rattle.figures.proofs.Exactly.{exactly-divided, exactly-kept}
use Rattle.figures.proofs.round.Goals as goal

pub spread-requires : goal.spread-requires
spread-requires c =
    let a = c.args in
    rw (c.divided-q.ensures.nearest, ← rounded-divided a.m a.up a.down a.decimals (omega arith) (omega arith)) (rounded-within a.down c.requires)

pub returns-then-kept-down-clause-digits : goal.returns-then-kept-down-clause-digits
returns-then-kept-down-clause-digits c =
    let a = c.args in
    let q = c.divided-q.ensures in c.spread.ensures
    ∙ ap figures (ap (λ (x : ℕ). x * 10 ^ (15 - a.decimals)) q.nearest ∙ sym (rounded-divided a.m a.up a.down a.decimals (omega arith) (omega arith)))

pub returns-then-kept-down-clause-exact : goal.returns-then-kept-down-clause-exact
returns-then-kept-down-clause-exact c =
    let a = c.args in
    let q = c.divided-q.ensures in q.exact ∙ exactly-divided a.m a.up a.down a.decimals (omega arith) (omega arith)

pub spread-requires-2 : goal.spread-requires-2
spread-requires-2 c =
    let a = c.args in
    rw (← rounded-exact a.m a.up a.down a.decimals (omega arith) (omega arith)) (rounded-within a.down c.requires)

pub returns-clause-digits : goal.returns-clause-digits
returns-clause-digits c =
    let a = c.args in c.spread-2.ensures ∙ ap figures (sym (rounded-exact a.m a.up a.down a.decimals (omega arith) (omega arith)))

pub returns-clause-exact : goal.returns-clause-exact
returns-clause-exact c =
    let a = c.args in exactly-kept a.m a.up a.down a.decimals (omega arith) (omega arith)
