-- `table_words::TableSection::no_minus` meets its contract.
-- Assumes nothing.
use mathlib.Core.Path.{ap, ◌∙◌}
use Rattle.tables.specs.Words.{Head}
use Rattle.tables.specs.Encode.{head_of, no_minus}
use Prim.Native.Nat.{◌/◌, ◌%◌}
use lib.Dec.{eqb}
use Rattle.table_words.proofs.Heads.{minus-told}
use Rattle.table_words.proofs.TableSection.no_minus.Goals as goal

pub returns : goal.returns
unfolding head_of no_minus
returns c = ap (λ (h : Head). eqb (h.flags / 2 % 2) 1) c.head.ensures.words ∙ minus-told _ _ _
