-- `settling::seconds_in` meets its contract.
-- Assumes nothing.
use Rattle.std.proofs.Common.{◌≡◌}
use Rattle.std.specs.Slice.Iter.{chunks_exact_rest, chunks_exact_size}
use Rattle.settling.specs.Settle.{seconds_in}
use Rattle.settling.proofs.seconds_in.Given as goal

abbrev pub invariant-loop-item : goal.invariant-loop-item
invariant-loop-item l = record {
  can_next : (goal.iterator-loop-item).can_next l.item-iterator;
  is_finite : (goal.iterator-loop-item).is_finite l.item-iterator;
  pairs : chunks_exact_size l.item-iterator ≡ 2;
  nearest : seconds_in l.words ≡ seconds_in (chunks_exact_rest l.item-iterator);
}
