-- `lexing::brackets::named_colour` meets its contract.
-- Assumes nothing.
use mathlib.Core.Path.{◌≡◌}
use mathlib.Core.List.{List, map}
use Prim.Native.Nat.{ℕ}
use borrow.Author.Rules.{rules}
use borrow.Author.Tests.{tests}
use Rattle.std.proofs.Common.{Bor}
use Rattle.std.specs.List.{position}
use Rattle.std.proofs.lemmas.Iterator.{YieldsList-from_slice}
use Rattle.std.proofs.lemmas.Iterator.Search.{position_from_yields_List}
use Rattle.calendar.specs.Names.{units}
use Rattle.formats.specs.Tokens.{same, colour_names}
use Rattle.lexing.proofs.Bracketing.{named-colour}
use Rattle.lexing.proofs.brackets.named_colour.Goals as goal

pub returns : goal.returns
unfolding units colour_names
returns c =
    let us = c.args.inside.now in
    let e : c.position.result ≡ position (λ (w : List ℕ). same w us) (map units colour_names)
    = position_from_yields_List (λ (w : Bor (List ℕ)). same w.now us) c.position.new.self _ c.position.result c.position.ensures.ran
    (YieldsList-from_slice _ c.iter.ensures.rest) (λ x b q k. search (rules, tests)) in
    named-colour us c.position.result c.map.result e (search rules)
