-- `table_words::TableSection::is_text` meets its contract.
-- Assumes nothing.
use mathlib.Core.Path.{ap, ◌∙◌}
use Rattle.tables.specs.Words.{Head}
use Rattle.tables.specs.Encode.{head_of}
use lib.Dec.{eqb}
use Rattle.tables.proofs.Standing.{text-word}
use Rattle.table_words.proofs.TableSection.is_text.Goals as goal

pub returns : goal.returns
unfolding head_of
returns c = ap (λ (h : Head). eqb h.kind 3) c.head.ensures.words ∙ text-word _
