-- `cuts::scientific_cut` meets its contract.
-- Assumes nothing.
use native.Mathlib.Omega.{arith}
use Rattle.exponents.proofs.Small.{exponent_small}
use Rattle.cuts.proofs.Reach.{below-counted, above-counted, above_most}
use Rattle.cuts.proofs.scientific_cut.Goals as goal

pub decimals_cut-requires : goal.decimals_cut-requires
decimals_cut-requires c =
    let pre = c.requires in
    let small = exponent_small _ _ _ _ pre.0 pre.1 pre.2 pre.3 pre.4 in
    (omega (arith, small, c.round_scientific-x.ensures.size), omega (arith, pre.1), pre.4)

pub returns-then-x : goal.returns-then-x
returns-then-x c =
    let told = c.round_scientific-x.ensures in
    below-counted _ _ _ _ told.size told.sign c.if-x.true c.decimals_cut.ensures

pub overflow_add-scale : goal.overflow_add-scale
overflow_add-scale c =
    let pre = c.requires in
    let told = c.round_scientific-x.ensures in
    omega (arith, above_most _ _ _ _ told.size told.sign pre.0 pre.1 pre.2 pre.4 c.if-x.false)

pub decimals_cut-requires-else-x : goal.decimals_cut-requires-else-x
decimals_cut-requires-else-x c =
    let pre = c.requires in
    let told = c.round_scientific-x.ensures in
    let most = above_most _ _ _ _ told.size told.sign pre.0 pre.1 pre.2 pre.4 c.if-x.false in
    (omega arith, omega arith, pre.4)

pub returns-else-x : goal.returns-else-x
returns-else-x c =
    let told = c.round_scientific-x.ensures in
    above-counted _ _ _ _ told.size told.sign c.if-x.false c.decimals_cut-else-x.ensures
