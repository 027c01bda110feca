-- `bare_rows::bare_fits` meets its contract. The invariant, `Baring`: what was met, and the entries that are left.
-- Assumes nothing.
use Prim.Native.Nat.{◌+◌, ◌≤◌}
use mathlib.Core.Path.{◌≡◌}
use lib.ListN.{length}
use Rattle.std.specs.Slice.Iter.{chunks_exact_rest, chunks_exact_size}
use Rattle.tables.specs.Words.{entries_in}
use Rattle.bare_rows.proofs.BareRows.{Baring}
use Rattle.bare_rows.proofs.bare_fits.Given as goal

abbrev pub invariant-loop-pair : goal.invariant-loop-pair
invariant-loop-pair l =
    (chunks_exact_size l.pair-iterator ≡ 2)
    × (l.fills + length (chunks_exact_rest l.pair-iterator) ≤ length l.words)
    × (l.owns + length (chunks_exact_rest l.pair-iterator) ≤ length l.words)
    × Baring l.words l.own l.fills l.owns (entries_in (chunks_exact_rest l.pair-iterator))
