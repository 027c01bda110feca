-- `section_text::put_items` meets its contract. The invariant, `Walking`: the text of the entries that are left is what is left to put.
-- Assumes nothing.
use Rattle.std.proofs.Common.{◌≡◌}
use Rattle.std.specs.Slice.Iter.{chunks_exact_rest, chunks_exact_size}
use Rattle.tables.specs.Words.{entries_in}
use Rattle.section_text.proofs.Walking.{Walking}
use Rattle.section_text.proofs.put_items.Given as goal

abbrev pub invariant-loop-pair : goal.invariant-loop-pair
invariant-loop-pair g l = record {
  can_next : (goal.iterator-loop-pair g).can_next l.pair-iterator;
  is_finite : (goal.iterator-loop-pair g).is_finite l.pair-iterator;
  pairs : chunks_exact_size l.pair-iterator ≡ 2;
  walking : Walking (g.I.ShowsItems.text l.from) l.initial.room l.at (entries_in l.items) (chunks_exact_rest l.pair-iterator) l.room l.end;
}
