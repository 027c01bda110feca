-- `figures::divided` meets its contract.
-- Assumes nothing.
use native.Mathlib.Omega.{arith}
use native.Mathlib.Nat.{mod-lt}
use Rattle.figures.proofs.Tens.{ten-pos}
use Rattle.figures.proofs.Rounding.{nearest-far, divided_at, divided_fits}
use Rattle.figures.proofs.Exactly.{far-exactly, exactly_at}
use Rattle.figures.proofs.divided.Goals as goal

-- `figures::divided` meets its contract.
-- Assumes nothing.
pub returns-then-k-gt19-clause-nearest : goal.returns-then-k-gt19-clause-nearest
returns-then-k-gt19-clause-nearest c =
    let a = c.args in
    nearest-far a.m a.k (omega arith) c.if-k-gt19.true

-- `figures::divided` meets its contract.
-- Assumes nothing.
pub returns-then-k-gt19-clause-exact : goal.returns-then-k-gt19-clause-exact
returns-then-k-gt19-clause-exact c =
    let a = c.args in
    far-exactly a.m a.k (omega arith) c.if-k-gt19.true

pub nonzero_div-q : goal.nonzero_div-q
nonzero_div-q c = omega (arith, ten-pos c.args.k)

pub nonzero_rem-r : goal.nonzero_rem-r
nonzero_rem-r c = omega (arith, ten-pos c.args.k)

pub overflow_sub-p : goal.overflow_sub-p
overflow_sub-p c = omega (arith, ten-pos c.args.k, mod-lt c.args.m (nonzero_div-q c))

pub overflow_add-result : goal.overflow_add-result
overflow_add-result c =
    omega (arith, c.from.ensures, divided_fits c.args.m c.power-p.result c.args.k c.power-p.ensures (omega arith))

pub returns-clause-nearest : goal.returns-clause-nearest
returns-clause-nearest c = rw c.from.ensures (divided_at c.args.m c.power-p.result c.args.k c.power-p.ensures)

pub returns-clause-exact : goal.returns-clause-exact
returns-clause-exact c = exactly_at c.args.m c.power-p.result c.args.k c.power-p.ensures
