-- `planning::number_in` meets its contract.
-- Assumes nothing.
use native.Mathlib.Omega.{arith}
use Rattle.std.proofs.Common.{rules}
use mathlib.Core.Path.{refl, sym}
use Rattle.formats.proofs.Exactness.{exactly-literal}
use Rattle.planning.proofs.Subjects.{literal-subject}
use Rattle.planning.proofs.Numbers.{literal-takes, number-section, scientific-reads, fraction-reads}
use Rattle.planning.proofs.Sections.{scientific-takes, fraction-takes}
use Rattle.planning.proofs.Sorts.{date-refused, general-sort}
use Rattle.planning.proofs.number_in.Goals as goal

pub general_plan-requires : goal.general_plan-requires
general_plan-requires c = (c.requires.0, general-sort c.kind.result c.kind.ensures (search rules))

pub returns-in-Literal : goal.returns-in-Literal
returns-in-Literal c =
    let e = sym c.in-Literal.ensures in
    λ text x why ev eo.
    rw (c.without_digits.ensures.0, c.without_digits.ensures.1, c.bare.ensures, c.added_minus-minus.ensures)
    (number-section c.args.section _ x why ev eo (literal-takes _ x e) (sym (exactly-literal _ x e)) (omega arith) (literal-subject _ e))

pub returns-in-DateTime : goal.returns-in-DateTime
returns-in-DateTime c =
    λ text x why ev eo. rw eo (date-refused _ _ _ why x (sym c.in-DateTime.ensures))

pub returns-in-Scientific : goal.returns-in-Scientific
returns-in-Scientific c =
    let p = c.requires in
    let e = sym c.in-Scientific.ensures in
    λ text x why ev eo.
    rw c.without_digits-in-Scientific.ensures.0
    (record {
      table = refl;
      kind = e;
      small = p.0;
      scale = p.1;
      number = record { number = x; is = ev };
      reads = scientific-reads c.args.section _ x why ev eo (scientific-takes _ x e) e;
    })

pub returns-in-Fraction : goal.returns-in-Fraction
returns-in-Fraction c =
    let p = c.requires in
    let e = sym c.in-Fraction.ensures in
    λ text x why ev eo.
    rw c.without_digits-in-Fraction.ensures.0
    (record {
      table = refl;
      kind = e;
      small = p.0;
      scale = p.1;
      number = record { number = x; is = ev };
      reads = fraction-reads c.args.section _ x why ev eo (fraction-takes _ x e) e;
    })
