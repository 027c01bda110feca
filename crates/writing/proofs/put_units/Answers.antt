-- `writing::put_units` meets its contract.
-- Assumes nothing.
use Prim.Native.Nat.{◌+◌, ◌-◌}
use mathlib.Core.Path.{◌≡◌}
use native.Mathlib.Omega.{arith}
use Rattle.writing.proofs.Laws.{rest-start, rest-copy, rest-stop}
use Rattle.writing.proofs.put_units.Goals as goal

pub loop-o-init : goal.loop-o-init
loop-o-init c =
    let none : c.args.at - c.args.at ≡ 0 = omega arith in
    (rw none (rest-start _ _ _), omega arith)

pub loop-o-preserved : goal.loop-o-preserved
loop-o-preserved c =
    let next : c.loop-o.o + 1 - c.args.at ≡ c.loop-o.o - c.args.at + 1 = omega (arith, c.loop-o.invariant.1) in
    (rw next (rest-copy c.args.text.now _ c.loop-o.invariant.0 (omega arith)), omega arith)

pub returns : goal.returns
returns c = rest-stop c.loop-o.invariant.0 c.loop-o-test.false c.min-stop.ensures
