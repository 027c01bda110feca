-- `figure_text::is_spent` meets its contract.
-- Assumes nothing.
use mathlib.Core.Path.{◌≡◌, ◌∙◌}
use Prim.Native.Nat.{ℕ, suc, ◌+◌}
use native.Mathlib.Numerals.{add-one}
use native.Mathlib.Omega.{arith}
use lib.Dec.{eqb}
use lib.ListN.{take}
use Rattle.std.specs.List.{list_all}
use Rattle.std.proofs.Common.{rules, tests}
use Rattle.std.proofs.lemmas.Iterator.{YieldsList-from_slice}
use Rattle.std.proofs.lemmas.Iterator.Search.{all_from_yields_List}
use Rattle.figure_text.proofs.Digits.{spent_all}
use Rattle.figure_text.proofs.is_spent.Goals as goal

pub returns : goal.returns
returns c n e =
    let low = take (c.args.q + 1) c.args.digits.now in
    all_from_yields_List (λ (d : ℕ). eqb d 0) c.all.new.self _ c.all.result c.all.ensures.ran (YieldsList-from_slice low cc) (λ x b q k. search (rules, tests))
    ∙ rw add-one (spent_all n e (suc c.args.q) (omega arith))
