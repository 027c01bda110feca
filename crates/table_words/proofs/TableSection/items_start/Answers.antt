-- `table_words::TableSection::items_start` meets its contract. The invariant, `Starting`: where the words of section k begin.
-- Assumes nothing.
use native.Mathlib.Omega.{arith}
use Rattle.table_words.proofs.Heads.{head-within}
use Rattle.table_words.proofs.Bodies.{starting-start, starting-within, starting-step}
use Rattle.table_words.proofs.TableSection.items_start.Goals as goal

pub loop-k-init : goal.loop-k-init
loop-k-init c =
    starting-start _ _ _ c.args.self.table.passes c.args.self.there c.section_count.ensures.count

pub head_at-h-requires : goal.head_at-h-requires
head_at-h-requires c = let s = c.loop-k.invariant in head-within _ _ s.good (omega (arith, s.last))

pub overflow_add-start-in-loop-k : goal.overflow_add-start-in-loop-k
overflow_add-start-in-loop-k c =
    omega (arith, starting-within c.loop-k.invariant c.loop-k-test.true c.head_at-h.ensures)

pub loop-k-preserved : goal.loop-k-preserved
loop-k-preserved c =
    starting-step c.loop-k.invariant c.loop-k-test.true c.head_at-h.ensures
