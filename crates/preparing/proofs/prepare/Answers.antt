-- `preparing::prepare` meets its contract.
-- Assumes nothing.
use native.Mathlib.Omega.{arith}
use mathlib.Core.Path.{refl, sym}
use lib.Seq.{length-take-le}
use Rattle.std.proofs.lemmas.Result.{err_from_is_err_and}
use Rattle.examining.proofs.Answering.{examined-no, examined-fine}
use Rattle.preparing.proofs.Finishing.{refused-prepared, refused-table, room-prepared, room-table, done-prepared, done-table}
use Rattle.preparing.proofs.prepare.Goals as goal

pub returns-in_err-e : goal.returns-in_err-e
returns-in_err-e c =
    let v = examined-no _ _ _ _ _ c.in_err-e.ensures in
    let p = err_from_is_err_and c.from_residual.result c.from_residual.ensures.1 in
    record { answer = rw (p.1, p.2) (sym (refused-prepared _ _ _ v _)); table = sym (refused-table _ _ _ v _) }

pub overflow_mul-size : goal.overflow_mul-size
overflow_mul-size c = let s = c.in_ok-e.ensures.sound _ refl in omega (arith, s.few)

pub overflow_add-size : goal.overflow_add-size
overflow_add-size c = let s = c.in_ok-e.ensures.sound _ refl in omega (arith, s.few)

pub overflow_add-size-2 : goal.overflow_add-size-2
overflow_add-size-2 c = let s = c.in_ok-e.ensures.sound _ refl in omega (arith, s.few, s.short)

pub returns-then-table-size : goal.returns-then-table-size
returns-then-table-size c =
    let accepted = examined-fine _ _ _ _ _ c.in_ok-e.ensures in
    let sound = c.in_ok-e.ensures.sound _ refl in
    record {
      answer = sym (room-prepared _ accepted _ _ _ sound _ refl _ (omega (arith, c.if-table-size.true)));
      table = sym (room-table _ accepted _ _ _ sound _ refl _ (omega (arith, c.if-table-size.true)));
    }

pub shared_ref_as_front-put_table : goal.shared_ref_as_front-put_table
shared_ref_as_front-put_table c = (c.in_ok-e.ensures.sound _ refl).few

pub shared_ref_as_front-put_table-2 : goal.shared_ref_as_front-put_table-2
shared_ref_as_front-put_table-2 c = (c.in_ok-e.ensures.sound _ refl).short

pub put_table-requires : goal.put_table-requires
put_table-requires c =
    let s = c.in_ok-e.ensures.sound _ refl in
    let sections = length-take-le c.in_ok-e.e.sections c.examine.new.room.drafts s.enough in
    let words = length-take-le c.in_ok-e.e.words c.examine.new.room.items s.room in
    (omega (arith, s.few), omega (arith, s.short))

pub returns : goal.returns
returns c =
    let accepted = examined-fine _ _ _ _ _ c.in_ok-e.ensures in
    let sound = c.in_ok-e.ensures.sound _ refl in
    record {
      answer = sym (done-prepared _ accepted _ _ _ sound _ refl _ (omega (arith, c.if-table-size.false)));
      table = done-table _ accepted _ _ _ sound _ refl _ _ _ _ (omega (arith, c.if-table-size.false)) refl c.put_table.ensures;
    }
