-- `fractions::nearest_fraction` meets its contract.
-- Assumes nothing.
use mathlib.Core.Path.{◌∙◌}
use Prim.Native.Nat.{◌≤◌}
use native.Mathlib.Nat.{div-le_self}
use native.Mathlib.Omega.{arith}
use Rattle.figures.proofs.Tens.{ten-le}
use Rattle.fractions.proofs.Telling.{unit-pos, part-less, nearest-small, told-nearest, told-exactly}
use Rattle.fractions.proofs.nearest_fraction.Goals as goal

small : (c : goal.After-nearest_part-part) → (c.nearest_part-part.result.above ≤ 999) × (1 ≤ c.nearest_part-part.result.below) × (c.nearest_part-part.result.below ≤ 999)
small c =
    let a = c.args in
    let least = ten-le 1 a.places (omega arith) in
    let most = ten-le a.places 3 (omega arith) in
    nearest-small a.m a.scale c.power-unit.ensures (omega arith) (omega arith) c.nearest_part-part.ensures

pub nonzero_rem-rest : goal.nonzero_rem-rest
nonzero_rem-rest c = unit-pos c.args.m c.args.scale c.power-unit.ensures

pub overflow_sub-power : goal.overflow_sub-power
overflow_sub-power c = omega (arith, ten-le 1 c.args.places (omega arith))

pub nearest_part-part-requires : goal.nearest_part-part-requires
nearest_part-part-requires c =
    let a = c.args in
    let u = c.power-unit.ensures in
    omega (arith, part-less a.m a.scale u, ten-le a.scale 15 (omega arith), ten-le 1 a.places (omega arith), ten-le a.places 3 (omega arith))

pub nonzero_div-m : goal.nonzero_div-m
nonzero_div-m c = unit-pos c.args.m c.args.scale c.power-unit.ensures

pub told-requires : goal.told-requires
told-requires c =
    let a = c.args in
    omega (arith, small c, div-le_self a.m c.power-unit.result)

pub is_met-requires : goal.is_met-requires
is_met-requires c =
    let a = c.args in
    omega (arith, small c.before, part-less a.m a.scale c.power-unit.ensures, ten-le a.scale 15 (omega arith))

pub returns-clause-mixed : goal.returns-clause-mixed
returns-clause-mixed c =
    let a = c.args in told-nearest a.m a.scale c.power-unit.ensures _ _ c.told.ensures _ c.power.ensures c.nearest_part-part.ensures

pub returns-clause-exact : goal.returns-clause-exact
returns-clause-exact c =
    let a = c.args in c.is_met.ensures ∙ told-exactly a.m a.scale c.power-unit.ensures _ _ c.told.ensures
