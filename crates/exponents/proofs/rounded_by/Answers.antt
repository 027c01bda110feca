-- `exponents::rounded_by` meets its contract: only the net power of ten counts.
-- Assumes nothing.
use Prim.Native.Nat.{◌-◌}
use native.Mathlib.Omega.{arith}
use Rattle.figures.proofs.Rounding.{powered-net}
use Rattle.figures.proofs.Exactly.{exactly-net}
use Rattle.exponents.proofs.rounded_by.Goals as goal

pub returns : goal.returns
returns c =
    let a = c.args in
    let r = rw (c.saturating_sub.ensures, c.saturating_sub-2.ensures) at c.round.ensures in record {
      digits = rw (← powered-net a.m (a.up - a.down) (a.down - a.up) a.up a.down a.decimals (omega arith)) r.digits;
      exact = rw (← exactly-net a.m (a.up - a.down) (a.down - a.up) a.up a.down a.decimals (omega arith)) r.exact;
    }
