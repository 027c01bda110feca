-- `lexing::scan::starts_with` meets its contract.
-- Assumes nothing.
use mathlib.Core.Path.{◌≡◌, sym, ◌∙◌}
use Prim.Native.Nat.{ℕ}
use borrow.Author.Rules.{rules}
use borrow.Author.Tests.{le-leb, lt-leb, tests}
use lib.Dec.{eqb}
use Rattle.std.specs.List.{list_all, zip}
use Rattle.std.proofs.lemmas.Iterator.{YieldsList-from_slice, YieldsList-from_zip}
use Rattle.std.proofs.lemmas.Iterator.Search.{all_from_yields_List}
use Rattle.lexing.proofs.Scanning.{starts-zip}
use Rattle.lexing.proofs.scan.starts_with.Goals as goal

pub returns-then-word-us : goal.returns-then-word-us
returns-then-word-us c =
    let pair : ℕ × ℕ → _ = λ p. eqb p.0 p.1 in
    let e : c.all.result ≡ list_all pair (zip c.args.word.now c.args.us.now)
    = all_from_yields_List pair c.all.new.self _ c.all.result c.all.ensures.ran
    (YieldsList-from_zip (YieldsList-from_slice c.args.word.now cc) (YieldsList-from_slice c.args.us.now cc)) (λ x b q k. search (rules, tests)) in
    e ∙ sym (rw (le-leb _ _ c.if-word-us.true) at (starts-zip c.args.word.now c.args.us.now))

pub returns-else-word-us : goal.returns-else-word-us
returns-else-word-us c = let h = lt-leb _ _ c.if-word-us.false in rw h (sym (rw h at (starts-zip c.args.word.now c.args.us.now)))
