-- `fraction_sections::put_loose` meets its contract.
-- Assumes nothing.
use native.Mathlib.Omega.{arith}
use mathlib.Core.Path.{refl}
use Rattle.fraction_sections.proofs.Loose.{loose-short, loose-has, items-counted}
use Rattle.table_words.specs.Runs.{items_in}
use Rattle.fraction_sections.proofs.put_loose.Goals as goal

pub put_items-requires : goal.put_items-requires
put_items-requires c = (omega (arith, c.requires.0), loose-has _ _ c.requires.1)

pub returns : goal.returns
returns c =
    let put = c.put_items.ensures.put _ refl in
    let items = c.args.items.now in
    record { within = omega (arith, put.next, loose-short c.args.blank (items_in items), items-counted items, c.requires.1); put = put }
