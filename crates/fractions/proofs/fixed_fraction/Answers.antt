-- `fractions::fixed_fraction` meets its contract.
-- Assumes nothing.
use mathlib.Core.Path.{◌∙◌}
use native.Mathlib.Nat.{div-le_self}
use native.Mathlib.Omega.{arith}
use Rattle.fractions.proofs.Telling.{unit-pos, fixed-small, told_over, fixed-met, told-exactly}
use Rattle.fractions.proofs.fixed_fraction.Goals as goal

pub nonzero_rem-m : goal.nonzero_rem-m
nonzero_rem-m c = unit-pos c.args.m c.args.scale c.power-unit.ensures

pub nonzero_div-m : goal.nonzero_div-m
nonzero_div-m c = unit-pos c.args.m c.args.scale c.power-unit.ensures

pub told-requires : goal.told-requires
told-requires c =
    let a = c.args in
    omega (arith, fixed-small a.m a.scale c.power-unit.ensures c.requires.3 (rw c.from-below.ensures at c.divided-q.ensures.nearest), div-le_self a.m c.power-unit.result)

pub returns-clause-mixed : goal.returns-clause-mixed
returns-clause-mixed c =
    let a = c.args in
    let q = c.divided-q.ensures in rw (← c.from-below.ensures) (told_over a.m a.scale c.power-unit.ensures _ _ c.told.ensures q.nearest)

pub returns-clause-exact : goal.returns-clause-exact
returns-clause-exact c =
    let a = c.args in
    let q = c.divided-q.ensures in q.exact ∙ fixed-met a.m a.scale c.power-unit.ensures _ q.nearest ∙ told-exactly a.m a.scale c.power-unit.ensures _ _ c.told.ensures
