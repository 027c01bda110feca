-- `showing::is_parted` meets its contract.
-- Assumes nothing.
use mathlib.Core.Path.{ap, ◌∙◌}
use lib.Dec.{ltb}
use Rattle.lists.specs.Lists.{count}
use Rattle.lists.proofs.Counts.{positive-count}
use Rattle.formats.specs.Items.{is_place}
use Rattle.tables.proofs.BackEntries.{place-tag}
use Rattle.showing.proofs.is_parted.Goals as goal

pub returns : goal.returns
returns c =
    ap (ltb 0) (c.count_between.ensures is_place place-tag ∙ ap (count is_place) c.run_start-end.ensures.before) ∙ positive-count is_place _
