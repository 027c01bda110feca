-- `writing::put_wide` meets its contract.
-- Assumes nothing.
use Rattle.writing.proofs.Numerals.{numeral-least, numeral-whole}
use Rattle.writing.proofs.put_wide.Goals as goal

pub returns-then-w-least : goal.returns-then-w-least
returns-then-w-least c =
    let d = c in
    let t = d in
    rw (numeral-least _ _ _ t.width_of-w.ensures t.if-w-least.true) d.put_digits.ensures

pub returns : goal.returns
returns c =
    let d = c in
    let t = d in
    rw (numeral-whole _ _ _ t.width_of-w.ensures t.if-w-least.false) d.put_digits-2.ensures
