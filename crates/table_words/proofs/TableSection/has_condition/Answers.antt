-- `table_words::TableSection::has_condition` meets its contract.
-- Assumes nothing.
use mathlib.Core.Path.{ap, ◌∙◌}
use Rattle.tables.specs.Words.{Head}
use Rattle.tables.specs.Encode.{head_of}
use mathlib.Core.Bool.{not}
use lib.Dec.{eqb}
use Rattle.tables.proofs.MadeHeads.{operator-some}
use Rattle.table_words.proofs.TableSection.has_condition.Goals as goal

pub returns : goal.returns
unfolding head_of
returns c = ap (λ (h : Head). not (eqb h.operator 0)) c.head.ensures.words ∙ operator-some _
