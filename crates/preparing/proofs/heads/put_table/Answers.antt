-- `preparing::heads::put_table` meets its contract.
-- Assumes nothing.
use native.Mathlib.Omega.{arith}
use Rattle.preparing.proofs.Tabling.{heads-size, table-put}
use Rattle.preparing.proofs.heads.put_table.Goals as goal

pub put_units-requires : goal.put_units-requires
put_units-requires c =
    omega (
      arith,
      c.put_heads-p.ensures.next,
      heads-size c.counted_of-counted.result c.first_has-first.result 0 c.args.drafts.now,
      c.put_unit-o.ensures.next,
      c.requires.0,
      c.requires.1,
    )

pub returns : goal.returns
returns c =
    table-put _ _ _ _ c.counted_of-counted.ensures c.first_has-first.ensures c.put_unit-o.ensures c.put_heads-p.ensures c.put_units.ensures
