-- `examining::verdicts::first_beyond` meets its contract.
-- Assumes nothing.
use mathlib.Core.Bool.{not}
use borrow.Author.Rules.{rules}
use borrow.Author.Tests.{tests}
use Rattle.std.proofs.lemmas.Iterator.{YieldsList-from_slice}
use Rattle.std.proofs.lemmas.Iterator.Search.{position_from_yields_List}
use Rattle.drafting.specs.declared.Draft.{Draft}
use Rattle.examining.proofs.Testing.{position-failing}
use Rattle.examining.proofs.verdicts.first_beyond.Goals as goal

pub returns : goal.returns
returns c =
    position-failing (λ (d : Draft). d.within) c.args.drafts.now _
    (position_from_yields_List (λ (d : Draft). not d.within) c.position.new.self _ c.position.result c.position.ensures.ran
    (YieldsList-from_slice c.args.drafts.now cc) (λ x b q k. search (rules, tests)))
