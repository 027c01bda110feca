-- `date_text::shows_date` meets its contract.
-- Assumes nothing.
use Rattle.std.proofs.Common.{rules, tests, ◌∙◌}
use Rattle.std.proofs.lemmas.Iterator.Search.{any_from_yields_List}
use Rattle.table_words.proofs.Pairs.{YieldsList-from_entries}
use Rattle.date_text.specs.Moment.{dated_entry}
use Rattle.date_text.proofs.Moments.{dated-listed}
use Rattle.date_text.proofs.shows_date.Goals as goal

pub returns : goal.returns
returns c =
    any_from_yields_List dated_entry _ _ _ c.any.ensures.ran (YieldsList-from_entries c.args.items.now (cc) (cc)) (λ x b q k. search (rules, tests))
    ∙ dated-listed _
