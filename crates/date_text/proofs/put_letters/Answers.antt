-- `date_text::put_letters` meets its contract.
-- Assumes nothing.
use mathlib.Core.Path.{◌≡◌}
use Prim.Native.Nat.{◌+◌, ◌-◌}
use native.Mathlib.Omega.{arith}
use Rattle.writing.proofs.Laws.{rest_put, rest-done}
use Rattle.date_text.proofs.Letters.{letters-step, letters-none, letters-zero}
use borrow.Author.Rules.{rules}
use Rattle.date_text.proofs.put_letters.Goals as goal

pub returns-then-rest-eq0 : goal.returns-then-rest-eq0
returns-then-rest-eq0 c =
    let l = c.loop in
    rest-done (rw (c.if-rest-eq0.true, letters-none) at l.invariant.0)

pub loop-preserved : goal.loop-preserved
loop-preserved c =
    let l = c.loop in
    let on : c.args.most - l.counter - 1 ≡ c.args.most - (l.counter + 1) = omega arith in
    (rest_put (rw (letters-step (c.args.most - l.counter) l.rest (omega arith) c.if-rest-eq0.false, on) at l.invariant.0) c.put_unit-o.ensures, search rules)

pub returns : goal.returns
returns c =
    let l = c.loop in
    let e : c.args.most - l.counter ≡ 0 = omega arith in
    rest-done (rw (e, letters-zero) at l.invariant.0)
