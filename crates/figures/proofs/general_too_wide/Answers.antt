-- `figures::general_too_wide` meets its contract.
-- Assumes nothing.
use mathlib.Core.Path.{sym, ap, ◌∙◌}
use Prim.Native.Nat.{◌^◌}
use native.Mathlib.Omega.{arith}
use lib.Dec.{leb}
use Rattle.figures.proofs.General.{wide-powered, narrow-powered}
use Rattle.figures.proofs.general_too_wide.Goals as goal

-- `figures::general_too_wide` meets its contract.
-- Assumes nothing.
pub returns-then-m-lt100000000000 : goal.returns-then-m-lt100000000000
returns-then-m-lt100000000000 c = narrow-powered c.args.m c.args.scale (omega arith)

pub returns : goal.returns
returns c =
    let a = c.args in
    ap (leb (10 ^ 11)) c.divided.ensures.nearest ∙ sym (wide-powered a.m a.scale)
