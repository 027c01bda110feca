-- `planning::text_plan` meets its contract.
-- Assumes nothing.
use native.Mathlib.Omega.{arith}
use mathlib.Core.Path.{sym, ◌∙◌}
use Rattle.choosing.proofs.Finding.{text_at}
use Rattle.planning.proofs.Texts.{text-section, itself-reads}
use Rattle.planning.proofs.text_plan.Goals as goal

pub section-requires : goal.section-requires
section-requires c = (text_at _ _ (sym c.in-Some.is ∙ c.choose_text.ensures)).1

pub returns-in-None : goal.returns-in-None
returns-in-None c =
    λ digits. (omega arith, itself-reads _ c.args.text.now (omega arith) (sym c.in-None.is ∙ c.choose_text.ensures))

pub returns-in-Some : goal.returns-in-Some
returns-in-Some c =
    let z = c.section.ensures in
    λ digits.
    rw (c.bare.ensures, ← z.table)
    (text-section c.section.result (rw (z.place, z.table) (sym c.in-Some.is ∙ c.choose_text.ensures)) (omega arith) (omega arith))
