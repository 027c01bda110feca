-- `section_text::show_whole` meets its contract.
-- Assumes nothing.
use Rattle.std.proofs.Common.{arith}
use Rattle.section_text.proofs.Fitting.{told-length, shows-none, shows-within}
use Rattle.section_text.proofs.show_whole.Goals as goal
use Rattle.section_text.proofs.show_whole.Goals.{then-not-is_roomy+else-size-measured, else-not-is_roomy}

pub returns-then-size-measured : goal.returns-then-size-measured
returns-then-size-measured g c =
    λ look w roomy. shows-none _ look _ (omega (arith, told-length (w _ _ _ c.put-measured.ensures), c.if-size-measured.true))

pub returns : goal.returns
returns g c =
    λ look w roomy.
    let put = w _ _ _ c.put.ensures in
    elim c.if-not-is_roomy.branch [
      | then-not-is_roomy+else-size-measured b ↦
          shows-within _ look (omega (arith, told-length (w _ _ _ b.put-measured.ensures), b.if-size-measured.false)) put
      | else-not-is_roomy b ↦ shows-within _ look (roomy b.if-not-is_roomy.false) put
    ]
