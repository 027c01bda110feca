-- `settling::settle` meets its contract.
-- Assumes nothing.
use Prim.Native.Nat.{◌*◌}
use mathlib.Core.Path.{◌≡◌}
use mathlib.Core.List.{List, []}
use lib.Dec.{T}
use Rattle.lists.specs.Lists.{every}
use Rattle.formats.specs.Items.{Item}
use Rattle.tables.specs.Words.{entries_words}
use Rattle.tables.specs.Encode.{run_entries}
use Rattle.settling.specs.Settle.{is_no_minute}
use Rattle.settling.proofs.Settling.{Going}
use Rattle.settling.proofs.settle.Given as goal

abbrev pub invariant-loop-k : goal.invariant-loop-k
invariant-loop-k l =
    (is : List Item) → T (every is_no_minute is) → l.initial.words ≡ entries_words (run_entries is) [] → Going is l.words l.hours (2 * l.k)
