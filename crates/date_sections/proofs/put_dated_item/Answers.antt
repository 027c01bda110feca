-- `date_sections::put_dated_item` meets its contract.
-- Assumes nothing.
use native.Mathlib.Omega.{arith}
use Rattle.formats.specs.Text.{item_units}
use Rattle.tables.specs.Decode.{item_at}
use Rattle.tables.proofs.BackEntries.{tag-known}
use Rattle.writing.proofs.Laws.{put-none}
use Rattle.date_sections.proofs.Dated.{dated-fill}
use Rattle.date_sections.proofs.FinestUnit.{loose-day}
use Rattle.date_sections.proofs.put_dated_item.Goals as goal

pub returns-in-1-clause-put : goal.returns-in-1-clause-put
unfolding item_units item_at
returns-in-1-clause-put c =
    λ x kind q i f. rw c.in-1.is c.put_unit-end.ensures

pub returns-in-1-clause-finest : goal.returns-in-1-clause-finest
unfolding item_units item_at
returns-in-1-clause-finest c =
    loose-day _ _ _ c.requires.1 (omega arith) (omega arith)

pub returns-in-2-clause-put : goal.returns-in-2-clause-put
unfolding item_units item_at
returns-in-2-clause-put c =
    λ x kind q i f. rw c.in-2.is c.put_unit-end-in-2.ensures

pub returns-in-2-clause-finest : goal.returns-in-2-clause-finest
unfolding item_units item_at
returns-in-2-clause-finest c =
    loose-day _ _ _ c.requires.1 (omega arith) (omega arith)

pub returns-in_default-clause-put : goal.returns-in_default-clause-put
unfolding item_units item_at
returns-in_default-clause-put c =
    let o = c.in_default.in_default-own.rest in
    let t = c.requires.1 in
    let least = (tag-known _ t).0 in
    λ x k q i f. rw (dated-fill k q _ _ i.0 (omega (arith, o.0.1, o.1, least)) c.if-tag-gt-AT.false f) (put-none _ _)

pub returns-in_default-clause-finest : goal.returns-in_default-clause-finest
unfolding item_units item_at
returns-in_default-clause-finest c =
    let o = c.in_default.in_default-own.rest in
    let t = c.requires.1 in
    let least = (tag-known _ t).0 in
    loose-day _ _ _ t (omega arith) (omega arith)
