-- `prepare_check::put_words` meets its contract.
-- Assumes nothing.
use Prim.Native.Nat.{◌+◌, ◌*◌, ◌≤◌}
use lib.ListN.{drop}
use Rattle.writing.specs.Put.{Rest}
use Rattle.prepare_check.specs.Lines.{spaced_all}
use Rattle.prepare_check.proofs.lines.put_words.Given as goal

abbrev pub invariant-loop-word : goal.invariant-loop-word
invariant-loop-word l =
    Rest l.initial.room l.at (spaced_all l.words) l.room l.o (spaced_all (drop l.word-index l.words)) × (l.o ≤ l.at + 26 * l.word-index)
