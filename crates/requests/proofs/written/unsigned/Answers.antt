-- `requests::written::unsigned` meets its contract.
-- Assumes nothing.
use mathlib.Core.Path.{sym, ap, ◌∙◌}
use native.Mathlib.Omega.{arith}
use borrow.Author.Rules.{rules}
use lib.ListN.{length}
use Rattle.requests.specs.Written.{is_digits}
use Rattle.requests.proofs.Valuing.{behind-mark, coefficient-is, unsigned-none, unsigned-bad, unsigned-whole, unsigned-read}
use Rattle.requests.proofs.Lining.{mark-or-end}
use Rattle.requests.proofs.Numerals.{digits-each}
use Rattle.requests.proofs.written.unsigned.Goals as goal

pub returns-then-not-is_digits : goal.returns-then-not-is_digits
returns-then-not-is_digits c =
    let a = c.args in
    let mark = mark-or-end 46 a.us.now _ c.position_of.ensures _ c.unwrap_or-n.ensures in
    unsigned-none a.negative a.us.now _ mark (sym c.is_digits.ensures ∙ c.if-not-is_digits.true)

pub number_behind-whole-requires : goal.number_behind-whole-requires
number_behind-whole-requires c = (search rules, search rules, digits-each _ (sym c.is_digits.ensures ∙ c.if-not-is_digits.false))

pub returns-then-n-us : goal.returns-then-n-us
returns-then-n-us c =
    let a = c.args in
    let mark = mark-or-end 46 a.us.now _ c.position_of.ensures _ c.unwrap_or-n.ensures in
    unsigned-whole a.negative a.us.now _ mark (sym c.is_digits.ensures ∙ c.if-not-is_digits.false) _ c.number_behind-whole.ensures _
    c.if-n-us.true (coefficient-is a.negative _ _ (omega arith) c.signed.ensures)

pub returns-then-not-is_digits-2 : goal.returns-then-not-is_digits-2
returns-then-not-is_digits-2 c =
    let a = c.args in
    let mark = mark-or-end 46 a.us.now _ c.position_of.ensures _ c.unwrap_or-n.ensures in
    unsigned-bad a.negative a.us.now _ mark (sym c.is_digits.ensures ∙ c.if-not-is_digits.false) c.if-n-us.false
    (ap is_digits (sym (behind-mark a.us.now c.unwrap_or-n.result)) ∙ sym c.is_digits-2.ensures ∙ c.if-not-is_digits-2.true)

pub number_behind-requires : goal.number_behind-requires
number_behind-requires c = (omega arith, search rules, digits-each _ (sym c.is_digits-2.ensures ∙ c.if-not-is_digits-2.false))

pub returns : goal.returns
returns c =
    let a = c.args in
    let us = a.us.now in
    let mark = mark-or-end 46 us _ c.position_of.ensures _ c.unwrap_or-n.ensures in
    let behind = behind-mark us c.unwrap_or-n.result in
    unsigned-read a.negative us _ mark (sym c.is_digits.ensures ∙ c.if-not-is_digits.false) _ c.number_behind-whole.ensures _
    (ap is_digits (sym behind) ∙ sym c.is_digits-2.ensures ∙ c.if-not-is_digits-2.false) _ (rw behind at c.number_behind.ensures)
    (coefficient-is a.negative _ _ (omega arith) c.signed-coefficient.ensures) _ (ap length behind)
