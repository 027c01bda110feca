-- `requests::written::instant` meets its contract.
-- Assumes nothing.
use mathlib.Core.Path.{sym, ◌∙◌, refl}
use Rattle.requests.proofs.Valuing.{behind-mark, both-digits, instant-unmarked, instant-bad, instant-read}
use Rattle.requests.proofs.Lining.{marked, unmarked}
use Rattle.requests.proofs.Numerals.{digits-first, digits-second}
use Rattle.requests.proofs.written.instant.Goals as goal

pub returns-in_err-n : goal.returns-in_err-n
returns-in_err-n c =
    let us = c.args.us.now in
    let none = unmarked 47 us _ c.position_of.ensures c.in_err-n.was in
    c.from_residual.ensures ∙ instant-unmarked us _ (sym none) refl

pub count-requires : goal.count-requires
count-requires c = digits-first _ _ _ _ c.is_digits.ensures c.is_digits-2.ensures c.if-is_digits.true

pub count-requires-then-is_digits : goal.count-requires-then-is_digits
count-requires-then-is_digits c = digits-second _ _ _ _ c.is_digits.ensures c.is_digits-2.ensures c.if-is_digits.true

pub returns-then-is_digits : goal.returns-then-is_digits
returns-then-is_digits c =
    let us = c.args.us.now in
    let n = c.in_ok-n.n in
    let found = marked 47 us _ c.position_of.ensures _ c.in_ok-n.was in
    instant-read us _ found.0 (both-digits us n _ _ _ c.is_digits.ensures c.is_digits-2.ensures c.if-is_digits.true) _ _
    c.count.ensures (c.count-then-is_digits.ensures ∙ rw (behind-mark us n))

pub returns : goal.returns
returns c =
    let us = c.args.us.now in
    let n = c.in_ok-n.n in
    let found = marked 47 us _ c.position_of.ensures _ c.in_ok-n.was in
    instant-bad us _ found.0 (both-digits us n _ _ _ c.is_digits.ensures c.is_digits-2.ensures c.if-is_digits.false)
