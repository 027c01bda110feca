-- `lexing::brackets::is_run` meets its contract.
-- Assumes nothing.
use mathlib.Core.Path.{◌≡◌}
use borrow.Author.Rules.{rules}
use borrow.Author.Tests.{tests}
use lib.Dec.{eqb}
use Rattle.std.specs.List.{list_all}
use Rattle.std.proofs.lemmas.Iterator.{YieldsList-from_slice}
use Rattle.std.proofs.lemmas.Iterator.Search.{all_from_yields_List}
use Rattle.lexing.proofs.Bracketing.{run-test}
use Rattle.lexing.proofs.brackets.is_run.Goals as goal

pub returns : goal.returns
returns c =
    let e : c.all.result ≡ list_all (eqb c.args.u) c.args.inside.now
    = all_from_yields_List (eqb c.args.u) c.all.new.self _ c.all.result c.all.ensures.ran (YieldsList-from_slice c.args.inside.now cc) (λ x b q k. search (rules, tests)) in
    run-test c.args.u c.args.inside.now _ _ c.is_empty.ensures e
