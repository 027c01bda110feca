-- `fraction_sections::put_below` meets its contract.
-- Assumes nothing.
use native.Mathlib.Omega.{arith}
use Rattle.writing.proofs.Laws.{put-put}
use Rattle.fraction_sections.proofs.Denominators.{denominator-segment, denominator-short}
use Rattle.fraction_sections.proofs.Fractions.{below-behind, below-few, below-text}
use Rattle.fraction_sections.proofs.put_below.Goals as goal

pub put_denominator-b-requires : goal.put_denominator-b-requires
put_denominator-b-requires c =
    let x = c.run_end.ensures in
    let d = below-behind c.requires.1 in
    rw c.split_at.ensures.front (omega (arith, c.put_unit-a.ensures.next, c.requires.0), denominator-short d x, denominator-segment d x)

pub put_loose-requires : goal.put_loose-requires
put_loose-requires c = rw c.split_at.ensures.back (omega (arith, c.put_unit-a.ensures.next, c.put_denominator-b.ensures.within, c.requires.0), below-few c.requires.1 _)

pub returns-clause-put : goal.returns-clause-put
returns-clause-put c =
    rw (below-text c.requires.1 c.args.d c.run_end.ensures, ← c.split_at.ensures.front, ← c.split_at.ensures.back)
    (put-put c.put_unit-a.ensures (put-put c.put_denominator-b.ensures.put c.put_loose.ensures.put))
