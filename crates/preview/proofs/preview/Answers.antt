-- `preview::preview` meets its contract.
-- Assumes nothing.
use native.Mathlib.Omega.{arith}
use mathlib.Core.Path.{◌≡◌, refl, sym, ◌∙◌}
use lib.ListN.{length}
use lib.Seq.{length-take-le}
use Rattle.std.specs.Prelude.{Ok, Err}
use Rattle.std.proofs.Common.{rules}
use Rattle.tables.specs.Calls.{prepared}
use Rattle.preview.specs.Preview.{refused_at}
use Rattle.preview.proofs.Previewing.{units-known, refused-shows, made, made-shows}
use Rattle.preview.proofs.preview.Goals as goal

pub returns-in_err-words : goal.returns-in_err-words
returns-in_err-words c =
    let u = units-known c.args.code.now (λ i. omega (arith, c.type_inv.code i)) in
    let p : Err c.in_err-words.field-0.0 ≡ prepared c.args.code.now (length c.table_room-table.result) = search rules in
    let e : c.from_residual.result ≡ Err c.in_err-words.field-0.0 = search rules in
    let r = refused-shows _ u c.table_room-table.ensures _ p _ _ c.args.room.now in
    record { result = e ∙ r.0; room = r.1 }

pub slice_bounds-table-end : goal.slice_bounds-table-end
slice_bounds-table-end c =
    let u = units-known c.args.code.now (λ i. omega (arith, c.type_inv.code i)) in
    let p : Ok c.in_ok-words.words ≡ prepared c.args.code.now (length c.table_room-table.result) = search rules in
    omega (arith, (made _ u c.table_room-table.ensures _ p).within)

pub slice_bounds-show-end : goal.slice_bounds-show-end
slice_bounds-show-end c =
    let u = units-known c.args.code.now (λ i. omega (arith, c.type_inv.code i)) in
    let p : Ok c.in_ok-words.words ≡ prepared c.args.code.now (length c.table_room-table.result) = search rules in
    sym (length-take-le _ _ (omega (arith, (made _ u c.table_room-table.ensures _ p).within)))

pub returns : goal.returns
returns c =
    let u = units-known c.args.code.now (λ i. omega (arith, c.type_inv.code i)) in
    let p : Ok c.in_ok-words.words ≡ prepared c.args.code.now (length c.table_room-table.result) = search rules in
    let d = made _ u c.table_room-table.ensures _ p in
    let r = made-shows _ u c.table_room-table.ensures d _ refl c.prepare.ensures.table _ _ c.args.room.now _ c.show.ensures.result c.show.ensures.room in
    let e : c.map_err.result ≡ refused_at 0 c.show.result = search rules in
    record { result = e ∙ r.0; room = r.1 }
