-- `table_words::TableSection::head` meets its contract.
-- Assumes nothing.
use Rattle.table_words.proofs.Heads.{head-within, head-made}
use Rattle.table_words.proofs.TableSection.head.Goals as goal

pub head_at-requires : goal.head_at-requires
head_at-requires c = let s = c.args.self in head-within _ _ s.table.passes s.there

pub returns-clause-words : goal.returns-clause-words
returns-clause-words c = let s = c.args.self in (head-made _ _ s.table.passes s.there c.head_at.ensures).0

pub returns-clause-range : goal.returns-clause-range
returns-clause-range c = let s = c.args.self in (head-made _ _ s.table.passes s.there c.head_at.ensures).1
