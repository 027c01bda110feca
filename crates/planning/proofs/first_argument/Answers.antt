-- `planning::first_argument` meets its contract.
-- Assumes nothing.
use Rattle.std.proofs.Common.{rules, tests}
use Rattle.std.proofs.lemmas.Iterator.Search.{find_from_yields_List}
use Rattle.values.specs.Ranges.{between}
use Rattle.tables.specs.Words.{Entry, entries_in}
use Rattle.table_words.proofs.Pairs.{YieldsList-from_entries}
use Rattle.planning.proofs.Places.{argument-found}
use Rattle.planning.proofs.first_argument.Goals as goal

pub returns : goal.returns
returns c =
    argument-found (entries_in c.args.items.now) c.find-first.result _
    (find_from_yields_List (λ (e : Entry). between 4 6 e.tag) _ _ c.find-first.result c.find-first.ensures.ran (YieldsList-from_entries c.args.items.now (cc) (cc)) (λ x b q k. search (rules, tests)))
    (search (rules, tests))
