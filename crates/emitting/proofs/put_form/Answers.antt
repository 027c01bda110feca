use Rattle.std.proofs.Common.{arith, sym, ◌∙◌, ◌+◌}
use Rattle.writing.proofs.Laws.{put-none}
use Rattle.emitting.proofs.Turns.{piece-literal, piece-goes, piece-over, piece-made, over-short, made-short, units-short, literals-short, put-near}
use Rattle.emitting.proofs.put_form.Goals as goal

pub put_literals-requires : goal.put_literals-requires
put_literals-requires c = (omega arith, rw c.units_from.ensures (omega (arith, units-short c.args.code.now c.args.mark.argument (c.from.result + 1) c.requires.2)))

pub returns-then-form-eq-LITERAL : goal.returns-then-form-eq-LITERAL
returns-then-form-eq-LITERAL c =
    let a = c.args in
    let r =
    put-near (piece-literal a.date a.w a.n a.code.now a.mark c.if-n-gt0.false c.if-form-eq-LITERAL.true)
    (literals-short a.code.now a.mark.argument (a.mark.start + 1) c.requires.2)
    (rw (c.units_from.ensures, c.from.ensures) at c.put_literals.ensures)
    in record { put = r.0; near = r.1 }

pub returns-then-fill_goes : goal.returns-then-fill_goes
returns-then-fill_goes c =
    let a = c.args in
    let e = sym c.fill_goes.ensures ∙ c.if-fill_goes.true in
    let r = put-near (piece-goes a.date a.w a.n a.code.now a.mark c.if-n-gt0.false e) (omega arith) (put-none a.room.now a.w.at)
    in record { put = r.0; near = r.1 }

pub returns-then-form-ge-ZERO_OVER : goal.returns-then-form-ge-ZERO_OVER
returns-then-form-ge-ZERO_OVER c =
    let a = c.args in
    let e = sym c.fill_goes.ensures ∙ c.if-fill_goes.false in
    let r =
    put-near (piece-over a.date a.w a.n a.code.now a.mark c.if-n-gt0.false e c.if-form-ge-ZERO_OVER.true)
    (omega (arith, over-short a.w.digit a.mark.argument a.mark.form)) c.put_over.ensures
    in record { put = r.0; near = r.1 }

pub returns : goal.returns
returns c =
    let a = c.args in
    let e = sym c.fill_goes.ensures ∙ c.if-fill_goes.false in
    let r =
    put-near
    (piece-made a.date a.w a.n a.code.now a.mark c.if-n-gt0.false e c.if-form-eq-LITERAL.false c.if-form-ge-ZERO_OVER.false
    c.item_of.result c.item_of.ensures)
    (omega (arith, made-short c.item_of.result)) c.put_made.ensures
    in record { put = r.0; near = r.1 }
