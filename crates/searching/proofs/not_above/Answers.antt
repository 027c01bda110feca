-- `searching::not_above` meets its contract.
-- Assumes nothing.
use native.Mathlib.Omega.{arith}
use borrow.Author.Tests.{le-leb, lt-leb}
use Rattle.searching.specs.Machine.{not_above}
use Rattle.searching.proofs.not_above.Goals as goal

pub returns-then-s : goal.returns-then-s
unfolding not_above
returns-then-s c =
    let s = c.args.s in
    rw (le-leb s.last s.asked (omega arith))

pub returns-then-s-2 : goal.returns-then-s-2
unfolding not_above
returns-then-s-2 c =
    let s = c.args.s in
    rw (lt-leb s.last s.asked (omega arith), c.if-s-2.true) c.reading.ensures

pub returns : goal.returns
unfolding not_above
returns c =
    let s = c.args.s in
    rw (lt-leb s.last s.asked (omega arith), c.if-s-2.false) c.between.ensures
