-- `date_text::put_name` meets its contract.
-- Assumes nothing.
use Rattle.date_text.proofs.Moments.{month-item, day-item}
use Rattle.date_text.proofs.put_name.Goals as goal

pub returns-then-tag-eq-MONTH : goal.returns-then-tag-eq-MONTH
returns-then-tag-eq-MONTH = λ c x q d. rw (month-item _ x q _ _ d _ c.requires.1 c.if-tag-eq-MONTH.true c.month_letters.ensures) (rw c.most_letters-most.ensures at c.put_letters.ensures)

pub returns : goal.returns
returns = λ c x q d. rw (day-item _ x q _ _ d _ c.requires.1 c.if-tag-eq-MONTH.false c.weekday_letters.ensures) (rw c.most_letters-most.ensures at c.put_letters-2.ensures)
