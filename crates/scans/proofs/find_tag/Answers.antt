-- `scans::find_tag` meets its contract.
-- Assumes nothing.
use mathlib.Core.Path.{refl}
use Rattle.tables.proofs.Words.{seeking-start, seeking-step}
use Rattle.scans.proofs.Scanned.{found_here, found-later, found_none}
use Rattle.scans.proofs.find_tag.Goals as goal

pub loop-k-init : goal.loop-k-init
loop-k-init c = seeking-start _ _ _ refl

pub returns-then-words-k : goal.returns-then-words-k
returns-then-words-k c = found_here c.loop-k.invariant c.loop-k-test.true c.if-words-k.true

pub loop-k-preserved : goal.loop-k-preserved
loop-k-preserved c =
    let s = c.loop-k.invariant in
    seeking-step s c.loop-k-test.true (found-later s c.loop-k-test.true c.if-words-k.false)

pub returns : goal.returns
returns c = found_none c.loop-k.invariant c.loop-k-test.false
