-- `fractions::nearest_part` meets its contract. The invariant: low and high are neighbours on either side of the number.
-- Assumes nothing.
use mathlib.Core.Path.{◌∙◌}
use Prim.Native.Nat.{◌<◌}
use native.Mathlib.Omega.{arith}
use Rattle.fractions.proofs.Between.{low-met, high-met}
use Rattle.fractions.proofs.Moving.{is-nearest, rests-small, low-movable, high-movable, next-between, turn-between, turn-rises}
use Rattle.fractions.proofs.nearest_part.Goals as goal

pub returns-then-high-eq0 : goal.returns-then-high-eq0
returns-then-high-eq0 c =
    let pos : 0 < c.args.whole = omega arith in
    c.fraction_at.ensures ∙ is-nearest pos c.requires.2 (high-met c.loop-low.invariant pos (omega arith))

pub moved-low-requires : goal.moved-low-requires
moved-low-requires c =
    low-movable c.loop-low.invariant c.requires.0 c.requires.1 c.requires.3 (omega arith)

pub returns-then-low-eq0 : goal.returns-then-low-eq0
returns-then-low-eq0 c =
    let pos : 0 < c.args.whole = omega arith in
    c.fraction_at-then-low-eq0.ensures ∙ is-nearest pos c.requires.2 (low-met (next-between c.loop-low.invariant c.moved-low.ensures) pos (omega arith))

pub moved-high-requires : goal.moved-high-requires
moved-high-requires c =
    high-movable (next-between c.loop-low.invariant c.moved-low.ensures) c.requires.0 c.requires.1 c.requires.3 (omega arith)

pub loop-low-smaller : goal.loop-low-smaller
loop-low-smaller c =
    omega (arith, turn-rises c.loop-low.invariant c.moved-low.ensures c.moved-high.ensures (omega arith) (omega arith) (omega arith))

pub loop-low-preserved : goal.loop-low-preserved
loop-low-preserved c =
    turn-between c.loop-low.invariant c.moved-low.ensures c.moved-high.ensures

pub preferred-requires : goal.preferred-requires
preferred-requires c = rests-small c.loop-low.invariant c.requires.1

pub returns : goal.returns
returns c =
    let pos : 0 < c.args.whole = omega arith in
    is-nearest pos c.requires.2 (c.preferred.ensures _ _ pos c.loop-low.invariant (omega arith))
