-- `scans::count_between` meets its contract. The invariant, `Counting`: those so far and those that are left are all.
-- Assumes nothing.
use mathlib.Core.Path.{refl}
use Rattle.std.proofs.Common.{rules, tests, ◌≡◌, ◌*◌, get_or}
use Rattle.values.specs.Ranges.{between}
use Rattle.scans.proofs.Cutting.{counting-start, counting-step, counting-end}
use Rattle.scans.proofs.count_between.Goals as goal

pub loop-k-init : goal.loop-k-init
loop-k-init c = counting-start _ _ _ _ refl

pub loop-k-preserved : goal.loop-k-preserved
loop-k-preserved c =
    let e : c.contains.result ≡ between c.args.low c.args.high (get_or c.args.items.now (2 * c.loop-k.k) 0) = search (rules, tests) in
    rw e (counting-step c.loop-k.invariant c.loop-k-test.true)

pub returns : goal.returns
returns c = counting-end c.loop-k.invariant c.loop-k-test.false
