-- `streams::Stream::end` meets its contract.
-- Assumes nothing.
use mathlib.Core.Path.{refl}
use native.Mathlib.Omega.{arith}
use borrow.Author.Tests.{eq-eqb, ne_eqb}
use Rattle.streams.specs.Streams.{closed, joined_prepared, joined_table}
use Rattle.streams.proofs.Steps.{end-again, room-again, stands-kept, stands-long, end-as, room_as}
use Rattle.streams.proofs.Stream.end.Goals as goal

pub returns-then-self-ne0 : goal.returns-then-self-ne0
returns-then-self-ne0 c =
    let s = c.args.self in
    let over = ne_eqb _ _ c.if-self-ne0.true in
    record { result = end-again s over _ refl; table = room-again s over _ }

pub returns-then-count-gt-MOST : goal.returns-then-count-gt-MOST
unfolding closed joined_prepared joined_table
returns-then-count-gt-MOST c =
    let s = c.args.self in
    let r = eq-eqb _ _ c.if-self-ne0.false in
    let h = stands-long s (omega arith) in
    record { result = end-as s r h _ refl refl; table = room_as s r h _ refl }

pub returns : goal.returns
unfolding closed joined_prepared joined_table
returns c =
    let s = c.args.self in
    let r = eq-eqb _ _ c.if-self-ne0.false in
    let h = stands-kept s (omega arith) in
    record { result = end-as s r h _ refl (rw c.from-count.ensures at c.prepare-prepared.ensures.answer); table = room_as s r h _ (rw c.from-count.ensures at c.prepare-prepared.ensures.table) }
