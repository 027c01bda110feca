-- `prepare_check::put_words` meets its contract.
-- Assumes nothing.
use lib.ListN.{drop_of_length-le}
use Rattle.writing.proofs.Laws.{rest_put, rest-done}
use Rattle.prepare_check.specs.Lines.{spaced_all}
use Rattle.prepare_check.proofs.Laws.{all_first}
use borrow.Author.Rules.{rules}
use Rattle.prepare_check.proofs.lines.put_words.Goals as goal

pub loop-word-preserved : goal.loop-word-preserved
loop-word-preserved c =
    let l = c.loop-word in
    (rest_put (rw (all_first _ _ c.loop-word-test.true) at l.invariant.0) (rw c.from.ensures at c.put_spaced-o.ensures.put), search rules)

pub returns-clause-put : goal.returns-clause-put
unfolding spaced_all
returns-clause-put c =
    let l = c.loop-word in
    rest-done (rw (drop_of_length-le _ c.loop-word-test.false) at l.invariant.0)
