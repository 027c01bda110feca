-- `date_sections::put_dated_items` meets its contract. The invariant: `Walking`, the text of the entries that are left is what is left to put;
-- an entry of these is dated only where some entry of all is; and `Finest`, the finest unit so far and those that are left make the finest of all.
-- Assumes nothing.
use Rattle.std.proofs.Common.{◌≡◌, true}
use Rattle.std.specs.Slice.Iter.{chunks_exact_rest, chunks_exact_size}
use Rattle.lists.specs.Lists.{any}
use Rattle.tables.specs.Words.{entries_in}
use Rattle.date_text.specs.Moment.{dated_entry}
use Rattle.section_text.specs.Walk.{TextOf}
use Rattle.section_text.proofs.Walking.{Walking}
use Rattle.date_sections.specs.Dated.{DatedIs}
use Rattle.date_sections.proofs.FinestUnit.{Finest}
use Rattle.date_sections.proofs.put_dated_items.Given as goal

abbrev pub invariant-loop-pair : goal.invariant-loop-pair
invariant-loop-pair l = record {
  can_next : (goal.iterator-loop-pair).can_next l.pair-iterator;
  is_finite : (goal.iterator-loop-pair).is_finite l.pair-iterator;
  pairs : chunks_exact_size l.pair-iterator ≡ 2;
  walking : Walking (TextOf (DatedIs l.m (any dated_entry (entries_in l.items)))) l.initial.room 0 (entries_in l.items) (chunks_exact_rest l.pair-iterator) l.room l.written.end;
  dated : any dated_entry (entries_in (chunks_exact_rest l.pair-iterator)) ≡ true → any dated_entry (entries_in l.items) ≡ true;
  finest : Finest l.items (chunks_exact_rest l.pair-iterator) l.written.finest;
}
