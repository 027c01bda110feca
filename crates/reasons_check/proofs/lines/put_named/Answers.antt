-- `reasons_check::lines::put_named` meets its contract.
-- Assumes nothing.
use native.Mathlib.Omega.{arith}
use Rattle.writing.proofs.Laws.{put-put}
use Rattle.writing.proofs.Numerals.{numeral-short}
use Rattle.reasons_check.specs.Lines.{named}
use Rattle.reasons_check.proofs.lines.put_named.Goals as goal

pub returns-clause-within : goal.returns-clause-within
unfolding named
returns-clause-within c =
    omega (arith, numeral-short 1 c.args.n (omega arith), c.put_numeral.ensures.next, c.put_bytes-a.ensures.next)

pub returns-clause-put : goal.returns-clause-put
unfolding named
returns-clause-put c =
    put-put c.put_bytes-a.ensures c.put_numeral.ensures
