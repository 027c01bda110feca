-- `scans::has_tag` meets its contract.
-- Assumes nothing.
use Rattle.std.proofs.Common.{rules, tests, eqb, ◌∙◌}
use Rattle.std.proofs.lemmas.Iterator.Search.{any_from_yields_List}
use Rattle.tables.specs.Words.{Entry}
use Rattle.table_words.proofs.Pairs.{YieldsList-from_entries}
use Rattle.scans.proofs.Scanned.{any-listed}
use Rattle.scans.proofs.has_tag.Goals as goal

pub returns : goal.returns
returns c =
    any_from_yields_List (λ (e : Entry). eqb e.tag c.args.tag) _ _ _ c.any.ensures.ran (YieldsList-from_entries c.args.words.now (cc) (cc)) (λ x b q k. search (rules, tests))
    ∙ any-listed _ _
