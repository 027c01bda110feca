-- `table_words::runs::run_end` meets its contract. The invariant, `Seeking`: every entry so far is a place.
-- Assumes nothing.
use mathlib.Core.Path.{refl, sym, ◌∙◌}
use Rattle.tables.proofs.Words.{seeking-start}
use Rattle.table_words.proofs.Cuts.{part-met, part-passed, part_none}
use Rattle.table_words.proofs.PlaceRuns.{finds-run}
use Rattle.table_words.proofs.runs.run_end.Goals as goal

pub loop-k-init : goal.loop-k-init
loop-k-init c = seeking-start _ _ _ refl

pub returns-then-not-is_place : goal.returns-then-not-is_place
returns-then-not-is_place c = part-met finds-run c.loop-k.invariant c.loop-k-test.true (sym c.is_place.ensures ∙ c.if-not-is_place.true)

pub loop-k-preserved : goal.loop-k-preserved
loop-k-preserved c = part-passed finds-run c.loop-k.invariant c.loop-k-test.true (sym c.is_place.ensures ∙ c.if-not-is_place.false)

pub returns : goal.returns
returns c = part_none finds-run c.loop-k.invariant c.loop-k-test.false
