-- `table_words::Table::section_count` meets its contract.
-- Assumes nothing.
use native.Mathlib.Omega.{arith}
use Rattle.table_words.proofs.Heads.{long}
use Rattle.table_words.proofs.Table.section_count.Goals as goal

pub bounds-self-0 : goal.bounds-self-0
bounds-self-0 c = let x = long _ c.args.self.passes in omega arith

pub returns-clause-least : goal.returns-clause-least
returns-clause-least c = (long _ c.args.self.passes).least

pub returns-clause-most : goal.returns-clause-most
returns-clause-most c = (long _ c.args.self.passes).most
