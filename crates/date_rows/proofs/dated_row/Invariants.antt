-- `date_rows::dated_row` meets its contract. The invariant, `Dating`: what is left to be asked of the entries that are left.
-- Assumes nothing.
use Rattle.tallies.proofs.Pairs.{pairs_left}
use Rattle.date_rows.proofs.DateRows.{Dating}
use Rattle.date_rows.proofs.dated_row.Given as goal

abbrev pub invariant-loop-tag : goal.invariant-loop-tag
invariant-loop-tag l = Dating l.words (pairs_left l.tag-items l.tag-index) l.s
