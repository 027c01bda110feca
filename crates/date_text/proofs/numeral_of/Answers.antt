-- `date_text::numeral_of` meets its contract. First what each call and each reading asks, then, for each tag, that the text is the numeral, and the
-- finest unit.
-- Assumes nothing.
use Prim.Native.Nat.{ℕ, ◌%◌, ◌≤◌, ◌<◌}
use mathlib.Core.Path.{◌≡◌, sym, ap, ◌∙◌}
use native.Mathlib.Omega.{arith}
use borrow.Author.Tests.{ltb-false}
use Rattle.figures.specs.Digits.{numeral}
use Rattle.figures.proofs.Past.{past}
use Rattle.calendar.specs.Clock.{Clock, clock_of, elapsed_hours, elapsed_minutes, elapsed_seconds}
use Rattle.formats.specs.Text.{hour_shown, year_units, item_units, elapsed_count}
use Rattle.formats.specs.Reading.{item_span}
use Rattle.tables.specs.Decode.{item_at}
use Rattle.date_text.proofs.Letters.{named-digits}
use Rattle.date_text.proofs.Spans.{with-day}
use Rattle.date_text.proofs.numeral_of.Goals as goal

-- behind the tags of the arms, and that of a part of a second, is one tag alone
seconds-tag : (tag : ℕ) → 20 ≤ tag → tag < 21 → tag ≡ 20
seconds-tag tag l g = omega arith

pub returns-in-11-clause-units : goal.returns-in-11-clause-units
unfolding item_units item_at item_span elapsed_count elapsed_hours elapsed_minutes
returns-in-11-clause-units c =
    let k = c.in-11.is in λ x q i d. rw k (ap (year_units _) (sym (d (rw k)).year) ∙ c.year_numeral.ensures.0)

pub returns-in-11-clause-finest : goal.returns-in-11-clause-finest
unfolding item_units item_at item_span elapsed_count elapsed_hours elapsed_minutes
returns-in-11-clause-finest c =
    let k = c.in-11.is in rw k (c.year_numeral.ensures.1 ∙ with-day _ c.requires.4)

pub returns-in-12-clause-units : goal.returns-in-12-clause-units
unfolding item_units item_at item_span elapsed_count elapsed_hours elapsed_minutes
returns-in-12-clause-units c =
    let k = c.in-12.is in let p = c.requires in λ x q i d. rw (k, c.new.ensures) (named-digits _ _ _ (ltb-false 2 _ (rw k at p.3)) ∙ ap (numeral _) (sym (d (rw k)).month))

pub returns-in-12-clause-finest : goal.returns-in-12-clause-finest
unfolding item_units item_at item_span elapsed_count elapsed_hours elapsed_minutes
returns-in-12-clause-finest c =
    let k = c.in-12.is in let p = c.requires in rw (k, c.new.ensures) (with-day _ p.4)

pub returns-in-13-clause-units : goal.returns-in-13-clause-units
unfolding item_units item_at item_span elapsed_count elapsed_hours elapsed_minutes
returns-in-13-clause-units c =
    let k = c.in-13.is in let p = c.requires in λ x q i d. rw (k, c.new-in-13.ensures) (named-digits _ _ _ (ltb-false 2 _ (rw k at p.3)) ∙ ap (numeral _) (sym (d (rw k)).day_of_month))

pub returns-in-13-clause-finest : goal.returns-in-13-clause-finest
unfolding item_units item_at item_span elapsed_count elapsed_hours elapsed_minutes
returns-in-13-clause-finest c =
    let k = c.in-13.is in let p = c.requires in rw (k, c.new-in-13.ensures) (with-day _ p.4)

pub returns-in-14-clause-units : goal.returns-in-14-clause-units
unfolding clock_of item_units item_at item_span
returns-in-14-clause-units c =
    let k = c.in-14.is in
    λ x q i d. rw (k, c.new-in-14.ensures, c.hour_shown.ensures, i.twelve) (ap (numeral _) (ap (λ (k : Clock). hour_shown x.twelve k.hour) (sym i.clock)))

pub returns-in-14-clause-finest : goal.returns-in-14-clause-finest
unfolding clock_of item_units item_at item_span
returns-in-14-clause-finest c =
    let k = c.in-14.is in
    rw (k, c.new-in-14.ensures) c.min.ensures

pub returns-in-15-clause-units : goal.returns-in-15-clause-units
unfolding clock_of item_units item_at item_span
returns-in-15-clause-units c =
    let k = c.in-15.is in
    λ x q i d. rw (k, c.new-in-15.ensures) (ap (numeral _) (ap (λ (k : Clock). k.minute) (sym i.clock)))

pub returns-in-15-clause-finest : goal.returns-in-15-clause-finest
unfolding clock_of item_units item_at item_span
returns-in-15-clause-finest c =
    let k = c.in-15.is in
    rw (k, c.new-in-15.ensures) c.min-in-15.ensures

pub returns-in-16-clause-units : goal.returns-in-16-clause-units
unfolding clock_of item_units item_at item_span
returns-in-16-clause-units c =
    let k = c.in-16.is in
    λ x q i d. rw (k, c.new-in-16.ensures) (ap (numeral _) (ap (λ (k : Clock). k.second) (sym i.clock)))

pub returns-in-16-clause-finest : goal.returns-in-16-clause-finest
unfolding clock_of item_units item_at item_span
returns-in-16-clause-finest c =
    let k = c.in-16.is in
    rw (k, c.new-in-16.ensures) c.min-in-16.ensures

pub returns-in-18-clause-units : goal.returns-in-18-clause-units
unfolding item_units item_at item_span elapsed_count elapsed_hours elapsed_minutes
returns-in-18-clause-units c = let k = c.in-18.is in λ x q i d. rw (k, c.new-in-18.ensures, i.elapsed)

pub returns-in-18-clause-finest : goal.returns-in-18-clause-finest
unfolding item_units item_at item_span elapsed_count elapsed_hours elapsed_minutes
returns-in-18-clause-finest c = let k = c.in-18.is in rw (k, c.new-in-18.ensures) c.min-in-18.ensures

pub returns-in-19-clause-units : goal.returns-in-19-clause-units
unfolding item_units item_at item_span elapsed_count elapsed_hours elapsed_minutes
returns-in-19-clause-units c = let k = c.in-19.is in λ x q i d. rw (k, c.new-in-19.ensures, i.elapsed)

pub returns-in-19-clause-finest : goal.returns-in-19-clause-finest
unfolding item_units item_at item_span elapsed_count elapsed_hours elapsed_minutes
returns-in-19-clause-finest c = let k = c.in-19.is in rw (k, c.new-in-19.ensures) c.min-in-19.ensures

pub returns-in_default-clause-units : goal.returns-in_default-clause-units
unfolding item_units item_at item_span elapsed_count elapsed_seconds
returns-in_default-clause-units c =
    let r = c.in_default.in_default-own.rest in
    let p = c.requires in
    let k = seconds-tag _ (past _ 11 9 p.0 (((r.0.0, p.1), r.0.1), r.1)) p.2 in
    λ x q i d. rw (k, c.new-in_default.ensures, i.elapsed)

pub returns-in_default-clause-finest : goal.returns-in_default-clause-finest
unfolding item_units item_at item_span elapsed_count elapsed_seconds
returns-in_default-clause-finest c =
    let r = c.in_default.in_default-own.rest in
    let p = c.requires in
    let k = seconds-tag _ (past _ 11 9 p.0 (((r.0.0, p.1), r.0.1), r.1)) p.2 in
    rw (k, c.new-in_default.ensures) c.min-in_default.ensures
