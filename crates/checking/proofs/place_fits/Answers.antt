-- `checking::place_fits` meets its contract.
-- Assumes nothing.
use borrow.Author.Tests.{eq-eqb, ne_eqb}
use Rattle.table_words.specs.Sections.{head_from}
use Rattle.checking.proofs.Stands.{place-plain, place-flagged, place-compared}
use Rattle.checking.proofs.place_fits.Goals as goal

pub returns-then-h-eq0 : goal.returns-then-h-eq0
returns-then-h-eq0 c = place-plain _ _ _ _ (head_from c.args.h) _ c.if-h-eq0.true c.plain_fits.ensures

pub returns-then-flag : goal.returns-then-flag
returns-then-flag c = place-flagged _ _ _ _ (head_from c.args.h) c.if-h-eq0.false (eq-eqb _ 1 c.if-flag.true)

pub returns : goal.returns
returns c = place-compared _ _ _ _ (head_from c.args.h) c.if-h-eq0.false _ (ne_eqb _ 1 c.if-flag.false) c.compared_stands.ensures
