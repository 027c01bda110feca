-- `fraction_sections::LooseItems` puts an item as `ShowsItems` promises.
-- Assumes nothing.
use Rattle.tables.specs.Decode.{item_at}
use Rattle.writing.proofs.Laws.{put-none}
use Rattle.fraction_sections.specs.Fraction.{loose_units}
use Rattle.fraction_sections.proofs.Loose.{loose-other, loose-first}
use Rattle.fraction_sections.proofs.LooseItemsShowsItems.put_item.Goals as goal

pub returns-in-1 : goal.returns-in-1
unfolding loose_units item_at
returns-in-1 c = loose-first _ _ (rw c.in-1.is c.put_unit.ensures)

pub returns-in-3 : goal.returns-in-3
unfolding loose_units item_at
returns-in-3 c = loose-first _ _ (rw c.in-3.is (put-none _ _))

pub returns-in-25 : goal.returns-in-25
unfolding loose_units item_at
returns-in-25 c = loose-first _ _ (rw c.in-25.is c.put_fixed.ensures)

pub returns-in_default : goal.returns-in_default
returns-in_default c =
    let o = c.in_default.in_default-own.rest in
    loose-first _ _ (rw (loose-other _ _ _ o.0.0.1 o.0.1 o.1) c.put_unit-in_default.ensures)
