-- `table_words::TableSection::is_twelve_hour` meets its contract.
-- Assumes nothing.
use mathlib.Core.Path.{ap, ◌∙◌}
use Rattle.tables.specs.Words.{Head}
use Rattle.tables.specs.Encode.{head_of}
use lib.Dec.{ltb}
use Rattle.table_words.proofs.Heads.{twelve-told}
use Rattle.table_words.proofs.TableSection.is_twelve_hour.Goals as goal

pub returns : goal.returns
unfolding head_of
returns c = ap (λ (h : Head). ltb 3 h.flags) c.head.ensures.words ∙ twelve-told _ _ _
