-- `scans::cut_start` meets its contract. The invariant, `Seeking`: no entry so far is an E or a solidus.
-- Assumes nothing.
use mathlib.Core.Path.{refl, ap}
use mathlib.Core.Bool.{not}
use Rattle.std.proofs.Common.{rules, tests, ◌≡◌, ◌*◌, true, false, get_or}
use Rattle.values.specs.Ranges.{between}
use Rattle.tables.proofs.Words.{seeking-start}
use Rattle.table_words.proofs.Cuts.{part-met, part-passed, part_none}
use Rattle.scans.proofs.Cutting.{finds-cut}
use Rattle.scans.proofs.cut_start.Goals as goal

pub loop-k-init : goal.loop-k-init
loop-k-init c = seeking-start _ _ _ refl

pub returns-then-contains : goal.returns-then-contains
returns-then-contains c =
    let t : between 22 24 (get_or c.args.items.now (2 * c.loop-k.k) 0) ≡ true = search (rules, tests) in
    part-met finds-cut c.loop-k.invariant c.loop-k-test.true (ap not t)

pub loop-k-preserved : goal.loop-k-preserved
loop-k-preserved c =
    let t : between 22 24 (get_or c.args.items.now (2 * c.loop-k.k) 0) ≡ false = search (rules, tests) in
    part-passed finds-cut c.loop-k.invariant c.loop-k-test.true (ap not t)

pub returns : goal.returns
returns c = part_none finds-cut c.loop-k.invariant c.loop-k-test.false
