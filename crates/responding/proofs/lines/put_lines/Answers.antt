-- `responding::lines::put_lines` meets its contract.
-- Assumes nothing.
use mathlib.Core.Path.{◌≡◌, refl}
use mathlib.Core.Bool.{Bool, true, false, cond}
use mir.Val.{bool_byte}
use Rattle.calendar.specs.Names.{units}
use Rattle.writing.proofs.Laws.{put-put}
use Rattle.responding.specs.Respond.{five_lines}
use Rattle.responding.proofs.lines.put_lines.Goals as goal

as_number : (b : Bool) → bool_byte b ≡ cond b 1 0
as_number true = refl
as_number false = refl

pub returns-clause-put : goal.returns-clause-put
unfolding five_lines units
returns-clause-put c =
    let first = rw c.from.ensures at c.put_number-a.ensures.put in
    let second = rw c.from-2.ensures at c.put_number-b.ensures.put in
    let third = rw c.from-3.ensures at c.put_number-c.ensures.put in
    let last = rw (c.from-4.ensures, as_number c.args.numbers.exact) at c.put_number-d.ensures.put in
    put-put (put-put (put-put (put-put first second) third) last) c.put_text.ensures.put
