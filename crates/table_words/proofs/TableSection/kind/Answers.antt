-- `table_words::TableSection::kind` meets its contract.
-- Assumes nothing.
use native.Mathlib.Omega.{arith}
use mathlib.Core.Path.{sym, ap, ◌∙◌}
use Rattle.table_words.proofs.KindWords.{kind_with, kind-told, past-words}
use Rattle.table_words.proofs.TableSection.kind.Goals as goal

pub returns-in-0 : goal.returns-in-0
returns-in-0 c = ap kind_with (sym c.in-0.is) ∙ kind-told _ _ c.head.ensures.words

pub returns-in-1 : goal.returns-in-1
returns-in-1 c = ap kind_with (sym c.in-1.is) ∙ kind-told _ _ c.head.ensures.words

pub returns-in-2 : goal.returns-in-2
returns-in-2 c = ap kind_with (sym c.in-2.is) ∙ kind-told _ _ c.head.ensures.words

pub returns-in-3 : goal.returns-in-3
returns-in-3 c = ap kind_with (sym c.in-3.is) ∙ kind-told _ _ c.head.ensures.words

pub returns-in-4 : goal.returns-in-4
returns-in-4 c = ap kind_with (sym c.in-4.is) ∙ kind-told _ _ c.head.ensures.words

pub returns-in-5 : goal.returns-in-5
returns-in-5 c = ap kind_with (sym c.in-5.is) ∙ kind-told _ _ c.head.ensures.words

pub returns-in_default : goal.returns-in_default
returns-in_default c = sym (past-words c.head.result.kind (omega arith)) ∙ kind-told _ _ c.head.ensures.words
