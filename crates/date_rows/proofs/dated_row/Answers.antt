-- `date_rows::dated_row` meets its contract. The invariant, `Dating`: what is left to be asked of the entries that are left.
-- Assumes nothing.
use mathlib.Core.Path.{sym}
use Rattle.tallies.proofs.Pairs.{pairs-start, pairs-front, pairs-end}
use Rattle.date_rows.proofs.DateRows.{dating-start, dating-step, dating-fault, dating-open, dating-beside, dating-told}
use Rattle.date_rows.proofs.dated_row.Goals as goal

pub loop-tag-init : goal.loop-tag-init
loop-tag-init c = rw (pairs-start c.args.words.now _ c.as_chunks.ensures.front) (dating-start _)

pub returns-in_err-s : goal.returns-in_err-s
returns-in_err-s c = rw c.from_residual.ensures (dating-fault c.loop-tag.invariant _ _ (pairs-front _ _ c.loop-tag-test.true) (sym c.in_err-s.ensures))

pub loop-tag-preserved : goal.loop-tag-preserved
loop-tag-preserved c = dating-step c.loop-tag.invariant _ _ (pairs-front _ _ c.loop-tag-test.true) (sym c.in_ok-s.ensures)

pub returns-then-is_open : goal.returns-then-is_open
returns-then-is_open c = dating-open c.loop-tag.invariant (pairs-end _ _ c.loop-tag-test.false) (sym c.if-is_open.ensures)

pub returns-then-has_plain : goal.returns-then-has_plain
returns-then-has_plain c =
    dating-beside c.loop-tag.invariant (pairs-end _ _ c.loop-tag-test.false) (sym c.if-is_open.ensures) (sym c.if-has_plain.ensures)

pub returns : goal.returns
returns c = dating-told c.loop-tag.invariant (pairs-end _ _ c.loop-tag-test.false) (sym c.if-is_open.ensures) (sym c.if-has_plain.ensures)
