-- `table_words::TableSection::is_grouped` meets its contract.
-- Assumes nothing.
use mathlib.Core.Path.{ap, ◌∙◌}
use Rattle.tables.specs.Words.{Head}
use Rattle.tables.specs.Encode.{head_of}
use Rattle.tables.specs.Decode.{grouped_at}
use Rattle.tables.proofs.MadeHeads.{grouped-back}
use Rattle.table_words.proofs.TableSection.is_grouped.Goals as goal

pub returns : goal.returns
unfolding head_of grouped_at
returns c = ap (λ (h : Head). grouped_at h.flags) c.head.ensures.words ∙ grouped-back _ _ _
