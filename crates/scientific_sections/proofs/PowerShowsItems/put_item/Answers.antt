-- `scientific_sections::Power` puts an item as `ShowsItems` promises.
-- Assumes nothing.
use mathlib.Core.Path.{sym, ◌∙◌}
use Rattle.lists.proofs.Bools.{true-T}
use Rattle.formats.specs.Text.{item_units}
use Rattle.tables.specs.Decode.{item_at}
use Rattle.tables.proofs.BackEntries.{between-facts}
use Rattle.writing.proofs.Laws.{put-none}
use Rattle.figure_text.proofs.Digits.{put_as}
use Rattle.section_text.proofs.Items.{place-power, place-units}
use Rattle.section_text.proofs.Walking.{begins-in-range, puts-first}
use Rattle.scientific_sections.proofs.PowerItems.{mark-units, power-fill}
use Rattle.scientific_sections.proofs.Exponents.{point-bare}
use Rattle.scientific_sections.proofs.PowerShowsItems.put_item.Goals as goal

pub returns-then-is_place : goal.returns-then-is_place
returns-then-is_place c =
    let b = between-facts 4 6 _ (true-T (sym c.is_place.ensures ∙ c.if-is_place.true)) in
    puts-first (λ x k q i f. put_as (place-units _ _ b x q) (c.put_place.ensures x q i.1 i.2 (place-power _ _ b k q f)))

pub returns-then-tag-ge-EXPONENT_PLUS : goal.returns-then-tag-ge-EXPONENT_PLUS
returns-then-tag-ge-EXPONENT_PLUS c =
    let r = begins-in-range c.requires.1 in
    puts-first (λ x k q i f. rw (mark-units _ _ x k q i.0 c.if-tag-ge-EXPONENT_PLUS.true r f, i.1.sign) c.put_mark.ensures)

pub returns-in-1 : goal.returns-in-1
unfolding item_units item_at
returns-in-1 c = puts-first (λ x k q i f. rw c.in-1.is c.put_unit.ensures)

pub returns-in-2 : goal.returns-in-2
unfolding item_units item_at
returns-in-2 c = puts-first (λ x k q i f. rw c.in-2.is c.put_unit-in-2.ensures)

pub returns-in-7 : goal.returns-in-7
unfolding item_units item_at
returns-in-7 c = puts-first (λ x k q i f. rw (c.in-7.is, point-bare x _ i.2 c.args.self.now.some) c.put_unit-in-7.ensures)

pub returns-in_default : goal.returns-in_default
unfolding item_units item_at
returns-in_default c =
    let r = begins-in-range c.requires.1 in
    puts-first
    (λ x k q i f.
    rw (power-fill k q _ _ i.0 r (sym c.is_place.ensures ∙ c.if-is_place.false) c.if-tag-ge-EXPONENT_PLUS.false c.in_default.in_default-own.rest f)
    (put-none _ _))
