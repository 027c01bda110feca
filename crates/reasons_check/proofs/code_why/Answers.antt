-- `reasons_check::code_why` meets its contract: the table of a code gives the code's reason.
-- Assumes nothing.
use native.Mathlib.Omega.{arith}
use mathlib.Core.Path.{refl, sym}
use lib.Seq.{length-take-le}
use Rattle.preview.proofs.Previewing.{units-known, made}
use Rattle.reasons_check.proofs.Asking.{code-refused, code-because}
use Rattle.reasons_check.proofs.code_why.Goals as goal

pub slice_bounds-table-end : goal.slice_bounds-table-end
slice_bounds-table-end c =
    let u = units-known c.args.code.now (λ i. omega (arith, c.type_inv.code i)) in
    omega (arith, (made _ u (sym c.room-table.ensures) _ c.in-Ok.ensures.answer).within, c.prepare.auto.table)

pub slice_bounds-why-end : goal.slice_bounds-why-end
slice_bounds-why-end c =
    let u = units-known c.args.code.now (λ i. omega (arith, c.type_inv.code i)) in
    sym (length-take-le _ _ (omega (arith, (made _ u (sym c.room-table.ensures) _ c.in-Ok.ensures.answer).within, c.prepare.auto.table)))

pub returns-in-Ok : goal.returns-in-Ok
returns-in-Ok c =
    let u = units-known c.args.code.now (λ i. omega (arith, c.type_inv.code i)) in
    code-because _ u (sym c.room-table.ensures) _ _ _ _ c.in-Ok.ensures.answer _ refl c.prepare.ensures.table c.why.ensures

pub returns-in-Err : goal.returns-in-Err
returns-in-Err c =
    let u = units-known c.args.code.now (λ i. omega (arith, c.type_inv.code i)) in
    code-refused _ u (sym c.room-table.ensures) _ _ _ _ c.in-Err.ensures.answer
