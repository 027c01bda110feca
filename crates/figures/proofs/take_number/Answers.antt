-- `figures::take_number` meets its contract. The coefficient is read as bits, which read back are the field.
-- Assumes nothing.
use mathlib.Core.Path.{◌≡◌, refl}
use mir.Syntax.{w64}
use mir.Val.{to_z, of_z}
use Rattle.std.proofs.Common.{rules}
use Rattle.figures.specs.Sign.{signed_of, taken_of}
use Rattle.figures.proofs.take_number.Goals as goal

pub returns-then-magnitude-x : goal.returns-then-magnitude-x
unfolding taken_of signed_of
returns-then-magnitude-x c =
    let e : to_z w64 (of_z w64 c.args.x.coefficient) ≡ c.args.x.coefficient = search rules in
    let v = rw e at c.unsigned_abs-magnitude.ensures.value in
    rw (v, e, rw v at c.if-magnitude-x.true) refl

pub returns : goal.returns
unfolding taken_of
returns c =
    let e : to_z w64 (of_z w64 c.args.x.coefficient) ≡ c.args.x.coefficient = search rules in
    rw (rw (c.unsigned_abs-magnitude.ensures.value, e) at c.if-magnitude-x.false) refl
