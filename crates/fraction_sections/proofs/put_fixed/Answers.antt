-- `fraction_sections::put_fixed` meets its contract.
-- Assumes nothing.
use Rattle.std.proofs.Common.{◌≡◌, arith, rules}
use Rattle.figures.proofs.Digits.{width-most}
use Rattle.fraction_sections.proofs.Loose.{fixed-digits}
use Rattle.fraction_sections.proofs.put_fixed.Goals as goal

pub put_spaces-requires : goal.put_spaces-requires
put_spaces-requires c = (omega (arith, c.requires), omega (arith, c.width_of-digits.ensures, width-most c.from-number.result))

pub put_digits-requires : goal.put_digits-requires
put_digits-requires c = omega (arith, c.requires, c.width_of-digits.ensures, width-most c.from-number.result)

pub returns-then-blank : goal.returns-then-blank
returns-then-blank c =
    let n : c.from-number.result ≡ c.args.n = search rules in
    rw (c.if-blank.true, ← n, ← c.width_of-digits.ensures) c.put_spaces.ensures

pub returns : goal.returns
returns c =
    let n : c.from-number.result ≡ c.args.n = search rules in
    rw (c.if-blank.false, ← fixed-digits c.args.n, ← n, ← c.width_of-digits.ensures) c.put_digits.ensures
