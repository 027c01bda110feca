-- `responding::lines::put_number` meets its contract.
-- Assumes nothing.
use native.Mathlib.Omega.{arith}
use Rattle.writing.proofs.Laws.{put-put}
use Rattle.responding.specs.Respond.{line_of}
use Rattle.writing.proofs.Numerals.{numeral-short}
use Rattle.responding.proofs.lines.put_number.Goals as goal

pub put_unit-requires : goal.put_unit-requires
put_unit-requires c =
    omega (arith, numeral-short 1 c.args.n (omega arith), c.put_numeral-b.ensures.next, c.put_bytes-a.ensures.next)

pub returns-clause-within : goal.returns-clause-within
unfolding line_of
returns-clause-within c =
    omega (arith, numeral-short 1 c.args.n (omega arith), c.put_unit.ensures.next, c.put_numeral-b.ensures.next, c.put_bytes-a.ensures.next)

pub returns-clause-put : goal.returns-clause-put
unfolding line_of
returns-clause-put c =
    put-put (put-put c.put_bytes-a.ensures c.put_numeral-b.ensures) c.put_unit.ensures
