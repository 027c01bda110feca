-- `exponents::leading_multiple` meets its contract.
-- Assumes nothing.
use Prim.Native.Nat.{◌-◌}
use native.Mathlib.Omega.{arith}
use Rattle.exponents.proofs.Multiples.{leads-under, leads-over, rest-most}
use Rattle.exponents.proofs.leading_multiple.Goals as goal

pub returns-then-w-scale : goal.returns-then-w-scale
returns-then-w-scale c =
    let a = c.args in
    let pre = c.requires in
    leads-under c.width_of-w.ensures pre.0 pre.1 a.scale a.integers pre.3 (omega arith) _
    (omega (arith, rest-most (a.scale - c.width_of-w.result) a.integers))

pub returns : goal.returns
returns c =
    let a = c.args in
    let pre = c.requires in
    leads-over c.width_of-w.ensures pre.0 pre.1 a.scale a.integers pre.3 (omega arith) _
    (omega (arith, rest-most (c.width_of-w.result - 1 - a.scale) a.integers))
