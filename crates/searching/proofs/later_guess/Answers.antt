-- `searching::later_guess` meets its contract.
-- Assumes nothing.
use native.Mathlib.Omega.{arith}
use borrow.Author.Tests.{lt-ltb, le-ltb}
use Rattle.searching.specs.Machine.{later_guess}
use Rattle.searching.proofs.later_guess.Goals as goal

pub returns-then-day-gt146463 : goal.returns-then-day-gt146463
unfolding later_guess
returns-then-day-gt146463 c = rw (lt-ltb 146463 c.args.day (omega arith))

pub returns-then-day-lt109940 : goal.returns-then-day-lt109940
unfolding later_guess
returns-then-day-lt109940 c =
    let d = c.args.day in
    rw (le-ltb 146463 d (omega arith), lt-ltb d 109940 (omega arith))

pub returns-else-day-lt109940 : goal.returns-else-day-lt109940
unfolding later_guess
returns-else-day-lt109940 c =
    let d = c.args.day in
    rw (le-ltb 146463 d (omega arith), le-ltb d 109940 (omega arith))
