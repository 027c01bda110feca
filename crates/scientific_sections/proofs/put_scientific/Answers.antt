-- `scientific_sections::put_scientific` meets its contract.
-- Assumes nothing.
use mathlib.Core.List.{append_assoc}
use Rattle.writing.proofs.Laws.{put-put}
use Rattle.scientific_sections.proofs.put_scientific.Goals as goal

pub returns-clause-put : goal.returns-clause-put
returns-clause-put c = λ us vs t u. rw (← append_assoc) (put-put (c.put_text-at.ensures.put us t) (c.put_items.ensures.put vs u))
