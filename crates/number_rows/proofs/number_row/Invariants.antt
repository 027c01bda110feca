-- `number_rows::number_row` meets its contract. The invariant, `Counting`: what is left to be asked of the entries that are left.
-- Assumes nothing.
use mathlib.Core.Path.{◌≡◌}
use Rattle.std.specs.Slice.Iter.{chunks_exact_rest, chunks_exact_size}
use Rattle.tables.specs.Words.{entries_in}
use Rattle.number_rows.proofs.NumberRows.{Counting}
use Rattle.number_rows.proofs.number_row.Given as goal

abbrev pub invariant-loop-pair : goal.invariant-loop-pair
invariant-loop-pair l = (chunks_exact_size l.pair-iterator ≡ 2) × Counting l.words (entries_in (chunks_exact_rest l.pair-iterator)) l.s
