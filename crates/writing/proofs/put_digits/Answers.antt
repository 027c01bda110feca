-- `writing::put_digits` meets its contract.
-- Assumes nothing.
use Rattle.writing.proofs.Numerals.{peeled-put, peeled-done, digits-out}
use Rattle.writing.proofs.put_digits.Goals as goal

pub returns-then-room-at : goal.returns-then-room-at
returns-then-room-at c = digits-out _ _ _ _ c.if-room-at.true

pub loop-o-preserved : goal.loop-o-preserved
loop-o-preserved c =
    let p = c in
    let t = p in
    peeled-put t.loop-o.invariant t.loop-o-test.true (rw p.digit_unit.ensures at p.put_unit.ensures)

pub returns : goal.returns
returns c = peeled-done c.loop-o.invariant c.loop-o-test.false
