-- `exponents::round_scientific` meets its contract.
-- Assumes nothing.
use mathlib.Core.Path.{refl, sym, ◌∙◌}
use native.Mathlib.Omega.{arith}
use Rattle.figures.specs.Digits.{digit, figures}
use Rattle.exponents.proofs.Multiples.{leading-roundable}
use Rattle.exponents.proofs.Tells.{nought-tells, found-tells, carried-tells, leading-within}
use Rattle.exponents.proofs.round_scientific.Goals as goal

pub returns-then-m-eq0 : goal.returns-then-m-eq0
unfolding figures digit
returns-then-m-eq0 c =
    let t = nought-tells c.args.scale c.args.integers c.args.decimals {digits = figures 0} c.if-m-eq0.true refl in
    record { mantissa = t.0; exact = t.1.0; size = t.1.1.0; sign = t.1.1.1 }

pub rounded_by-digits-requires : goal.rounded_by-digits-requires
rounded_by-digits-requires c =
    let pre = c.requires in
    leading-roundable c.leading_multiple-e.ensures pre.0 pre.3 pre.4

pub returns-then-carries : goal.returns-then-carries
returns-then-carries c =
    let l = c.leading_multiple-e.ensures in
    let pre = c.requires in
    let carry = c.carries.ensures _ (leading-within l pre.4) c.rounded_by-digits.ensures.digits in
    let t =
    carried-tells l pre.4 (omega arith) pre.0 pre.1 pre.2 c.next_multiple.ensures c.one.ensures
    (sym carry ∙ c.if-carries.true) c.told.ensures refl in
    record { mantissa = t.0; exact = t.1.0; size = t.1.1.0; sign = t.1.1.1 }

pub returns : goal.returns
returns c =
    let l = c.leading_multiple-e.ensures in
    let pre = c.requires in
    let carry = c.carries.ensures _ (leading-within l pre.4) c.rounded_by-digits.ensures.digits in
    let t =
    found-tells l pre.4 (omega arith) pre.0 pre.1 pre.2 c.rounded_by-digits.ensures.digits c.rounded_by-digits.ensures.exact
    (sym carry ∙ c.if-carries.false) c.told-2.ensures in
    record { mantissa = t.0; exact = t.1.0; size = t.1.1.0; sign = t.1.1.1 }
