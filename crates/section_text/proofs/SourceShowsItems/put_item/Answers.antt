-- `section_text::Source` puts an item as `ShowsItems` promises.
-- Assumes nothing.
use native.Mathlib.Omega.{arith}
use mathlib.Core.Path.{sym, ◌∙◌}
use Rattle.lists.proofs.Bools.{true-T}
use Rattle.calendar.specs.Names.{units}
use Rattle.formats.specs.Items.{item_allowed}
use Rattle.formats.specs.Text.{item_units}
use Rattle.tables.specs.Decode.{item_at}
use Rattle.tables.proofs.BackEntries.{between-facts}
use Rattle.writing.proofs.Laws.{put-none}
use Rattle.section_text.proofs.Items.{place-argument, place-put, point-held, late-other}
use Rattle.section_text.proofs.Walking.{begins-in-range, puts-first}
use Rattle.section_text.proofs.SourceShowsItems.put_item.Goals as goal

pub overflow_sub-q : goal.overflow_sub-q
overflow_sub-q c = (place-argument _ _ (between-facts 4 6 _ (true-T (sym c.is_place.ensures ∙ c.if-is_place.true))) (begins-in-range c.requires.1)).0

pub put_place-requires : goal.put_place-requires
put_place-requires c =
    let b = c.requires in
    (omega (arith, b.0), c.args.self.now.used, omega (arith, place-argument _ _ (between-facts 4 6 _ (true-T (sym c.is_place.ensures ∙ c.if-is_place.true))) (begins-in-range b.1)))

pub returns-then-is_place : goal.returns-then-is_place
returns-then-is_place c =
    puts-first (λ x k q i f. place-put _ _ (between-facts 4 6 _ (true-T (sym c.is_place.ensures ∙ c.if-is_place.true))) k q i f c.put_place.ensures.put)

pub returns-in-1 : goal.returns-in-1
unfolding item_units item_at item_allowed units
returns-in-1 c = puts-first (λ x k q i f. rw c.in-1.is c.put_unit.ensures)

pub returns-in-2 : goal.returns-in-2
unfolding item_units item_at item_allowed units
returns-in-2 c = puts-first (λ x k q i f. rw c.in-2.is c.put_unit-in-2.ensures)

pub returns-in-3 : goal.returns-in-3
unfolding item_units item_at item_allowed units
returns-in-3 c = puts-first (λ x k q i f. rw c.in-3.is (put-none _ _))

pub returns-in-7 : goal.returns-in-7
unfolding item_units item_at item_allowed units
returns-in-7 c = puts-first (λ x k q i f. let e = c.in-7.is in rw e (c.put_point.ensures.put x (i.numeric (point-held k (rw e at f.allowed)))))

pub returns-in-8 : goal.returns-in-8
unfolding item_units item_at item_allowed units
returns-in-8 c = puts-first (λ x k q i f. rw c.in-8.is c.put_unit-in-8.ensures)

pub returns-in-9 : goal.returns-in-9
unfolding item_units item_at item_allowed units
returns-in-9 c = puts-first (λ x k q i f. let e = c.in-9.is in rw e (c.put_standing.ensures x.standing (i.general (rw e at f.allowed))))

pub returns-in-10 : goal.returns-in-10
unfolding item_units item_at item_allowed units
returns-in-10 c = puts-first (λ x k q i f. let e = c.in-10.is in rw e (c.put_standing-in-10.ensures x.standing (i.textual (rw e at f.allowed))))

pub returns-in_default : goal.returns-in_default
returns-in_default c =
    puts-first
    (λ x k q i f.
    absurd (late-other k q _ _ (begins-in-range c.requires.1) (sym c.is_place.ensures ∙ c.if-is_place.false) c.in_default.in_default-own.rest f i.undated i.unscientific i.unfractional))
