-- `fraction_rows::is_denominator` meets its contract.
-- Assumes nothing.
use native.Mathlib.Omega.{arith}
use mathlib.Core.Path.{◌≡◌, ◌∙◌}
use mathlib.Core.Bool.{true, false}
use lib.ListN.{get_or}
use borrow.Author.Tests.{ltb-true, ltb-false, leb-true, leb-false}
use Rattle.std.proofs.lemmas.Bool.Decides.{nat_tests}
use Rattle.values.specs.Ranges.{between}
use Rattle.fraction_rows.proofs.FractionParts.{literal-told, words-none, words-run, words-wide, words-fixed}
use Rattle.fraction_rows.proofs.is_denominator.Goals.{in_default-via-then-words-lt2, in_default-via-else-words-lt2+in_default-1}
use Rattle.fraction_rows.proofs.is_denominator.Goals as goal

pub returns-then-contains : goal.returns-then-contains
returns-then-contains c =
    let in_range : between 1 999 (get_or c.args.words.now 1 0) ≡ true = grind (arith, nat_tests, c.if-contains.ensures) in
    literal-told _ c.bare_fits.ensures ∙ words-fixed _ c.in-25.len_at_least (omega arith) in_range

pub returns-else-contains : goal.returns-else-contains
returns-else-contains c =
    let wide : between 1 999 (get_or c.args.words.now 1 0) ≡ false = grind (arith, nat_tests, c.if-contains.ensures) in
    c.if-contains.false ∙ words-wide _ c.in-25.len_at_least (omega arith) wide

pub returns-in_default : goal.returns-in_default
returns-in_default c =
    c.is_run.ensures
    ∙ elim c.in_default.branch [
      | in_default-via-then-words-lt2 w ↦ words-none _ (omega (arith, ltb-true, leb-true))
      | in_default-via-else-words-lt2+in_default-1 w ↦ words-run _ (omega (arith, ltb-false, leb-false)) (λ e. omega (arith, e))
    ]
