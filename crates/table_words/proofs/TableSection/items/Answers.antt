-- `table_words::TableSection::items` meets its contract.
-- Assumes nothing.
use native.Mathlib.Omega.{arith}
use Rattle.table_words.proofs.Heads.{head-within}
use Rattle.table_words.proofs.Bodies.{part-within, part-items}
use Rattle.table_words.proofs.TableSection.items.Goals as goal

pub head_at-h-requires : goal.head_at-h-requires
head_at-h-requires c = let s = c.args.self in head-within _ _ s.table.passes s.there

pub overflow_add-end : goal.overflow_add-end
overflow_add-end c =
    let s = c.args.self in
    omega (arith, part-within _ _ s.table.passes s.there c.items_start-start.ensures c.head_at-h.ensures)

pub offset_bounds-words-start : goal.offset_bounds-words-start
offset_bounds-words-start c =
    let s = c.args.self in
    omega (arith, part-within _ _ s.table.passes s.there c.items_start-start.ensures c.head_at-h.ensures)

pub slice_bounds-result-end : goal.slice_bounds-result-end
slice_bounds-result-end c =
    let s = c.args.self in
    omega (arith, part-within _ _ s.table.passes s.there c.items_start-start.ensures c.head_at-h.ensures)

pub returns : goal.returns
returns c =
    let s = c.args.self in
    part-items _ _ s.table.passes s.there c.items_start-start.ensures c.head_at-h.ensures
