-- `numbering::integers_in` meets its contract.
-- Assumes nothing.
use Rattle.std.proofs.Common.{◌≡◌, ◌+◌, ◌*◌, ◌≤◌, length}
use Rattle.std.specs.Slice.Iter.{chunks_exact_rest, chunks_exact_size}
use Rattle.numbering.specs.Number.{integers_in}
use Rattle.numbering.proofs.integers_in.Given as goal

abbrev pub invariant-loop-item : goal.invariant-loop-item
invariant-loop-item l = record {
  can_next : (goal.iterator-loop-item).can_next l.item-iterator;
  is_finite : (goal.iterator-loop-item).is_finite l.item-iterator;
  pairs : chunks_exact_size l.item-iterator ≡ 2;
  few : 2 * l.places + length (chunks_exact_rest l.item-iterator) ≤ length l.words;
  met : integers_in l.words ≡ l.places + integers_in (chunks_exact_rest l.item-iterator);
}
