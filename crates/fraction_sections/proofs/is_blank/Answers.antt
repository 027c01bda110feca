-- `fraction_sections::is_blank` meets its contract.
-- Assumes nothing.
use native.Mathlib.Omega.{arith}
use mathlib.Core.Path.{ap}
use mathlib.Core.Bool.{Bool, ◌&&◌}
use lib.Dec.{eqb}
use Rattle.formats.specs.Items.{is_place}
use Rattle.tables.proofs.BackEntries.{place-tag}
use Rattle.fraction_sections.proofs.Fractions.{places-told}
use Rattle.fraction_sections.proofs.is_blank.Goals as goal

pub returns : goal.returns
returns c =
    ap (λ (b : Bool). b && eqb c.args.above 0) (places-told _ _ _ (omega arith) (c.count_between-places.ensures is_place place-tag))
