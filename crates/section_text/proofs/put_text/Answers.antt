-- `section_text::put_text` meets its contract.
-- Assumes nothing.
use Rattle.writing.proofs.Laws.{put-put}
use Rattle.section_text.proofs.put_text.Goals as goal

pub returns-clause-put : goal.returns-clause-put
returns-clause-put c = λ us t. put-put c.put_sign-at.ensures.put (c.put_items.ensures.put us t)
