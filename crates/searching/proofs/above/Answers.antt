-- `searching::above` meets its contract.
-- Assumes nothing.
use native.Mathlib.Omega.{arith}
use borrow.Author.Tests.{le-leb, lt-leb}
use Rattle.searching.specs.Machine.{above}
use Rattle.searching.proofs.above.Goals as goal

pub returns-then-s : goal.returns-then-s
unfolding above
returns-then-s c =
    let s = c.args.s in
    rw (le-leb s.asked s.low (omega arith)) c.answer.ensures

pub returns-then-s-2 : goal.returns-then-s-2
unfolding above
returns-then-s-2 c =
    let s = c.args.s in
    rw (lt-leb s.asked s.low (omega arith), c.if-s-2.true) c.reading.ensures

pub returns : goal.returns
unfolding above
returns c =
    let s = c.args.s in
    rw (lt-leb s.asked s.low (omega arith), c.if-s-2.false) c.between.ensures
