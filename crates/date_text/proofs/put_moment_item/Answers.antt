-- `date_text::put_moment_item` meets its contract.
-- Assumes nothing.
use Prim.Native.Nat.{min}
use mathlib.Core.Path.{sym, ap, ◌∙◌}
use native.Mathlib.Omega.{arith}
use Rattle.calendar.specs.Clock.{Clock, clock_of}
use Rattle.formats.specs.Text.{item_units}
use Rattle.formats.specs.Reading.{item_span}
use Rattle.tables.specs.Decode.{item_at}
use Rattle.date_text.proofs.Spans.{with-day, named-day}
use Rattle.date_text.proofs.put_moment_item.Goals as goal

pub returns-then-tag-eq-PART-clause-put : goal.returns-then-tag-eq-PART-clause-put
unfolding clock_of item_units item_at item_span
returns-then-tag-eq-PART-clause-put c =
    let k = c.if-tag-eq-PART.true in
    λ x q i d. rw k (rw (ap (λ (k : Clock). k.thousandth) i.clock) at c.put_part.ensures)

pub returns-then-tag-eq-PART-clause-finest : goal.returns-then-tag-eq-PART-clause-finest
unfolding clock_of item_units item_at item_span
returns-then-tag-eq-PART-clause-finest c =
    let k = c.if-tag-eq-PART.true in
    rw k (c.min.ensures ∙ ap (min _) c.part_span.ensures)

pub returns-then-tag-eq-HALF_DAY-clause-put : goal.returns-then-tag-eq-HALF_DAY-clause-put
unfolding clock_of item_units item_at item_span
returns-then-tag-eq-HALF_DAY-clause-put c =
    let k = c.if-tag-eq-HALF_DAY.true in
    λ x q i d. rw k (rw (ap (λ (k : Clock). k.hour) i.clock) at c.put_half.ensures)

pub returns-then-tag-eq-HALF_DAY-clause-finest : goal.returns-then-tag-eq-HALF_DAY-clause-finest
unfolding clock_of item_units item_at item_span
returns-then-tag-eq-HALF_DAY-clause-finest c =
    let k = c.if-tag-eq-HALF_DAY.true in
    rw k (with-day _ (omega arith))

pub returns-then-is_named-clause-finest : goal.returns-then-is_named-clause-finest
returns-then-is_named-clause-finest c =
    with-day _ (omega arith) ∙ ap (min _) (sym (named-day _ _ (sym c.is_named.ensures ∙ c.if-is_named.true)))
