-- `spans::section_span` meets its contract.
-- Assumes nothing.
use native.Mathlib.Omega.{arith}
use mathlib.Core.Path.{refl}
use lib.Seq.{length-take-le}
use Rattle.examining.proofs.Answering.{examined-no, examined-fine}
use Rattle.spans.proofs.Spanning.{section-refused, section-fine, last-section, section-missing}
use Rattle.spans.proofs.section_span.Goals as goal

pub returns-in_default : goal.returns-in_default
returns-in_default c =
    let v = examined-no _ _ _ _ _ c.in_default.ensures in
    let r = section-refused c.args.code.now c.args.n _ _ v in
    record { start = r.start; size = r.size; inside = r.inside }

pub returns-then-e-n : goal.returns-then-e-n
returns-then-e-n c =
    let accepted = examined-fine _ _ _ _ _ c.in-Ok.ensures in
    let r = section-missing c.args.code.now c.args.n _ _ _ _ (c.in-Ok.ensures.sound _ refl) accepted (omega (arith, c.if-e-n.true)) in
    record { start = r.start; size = r.size; inside = r.inside }

pub shared_ref_as_front-span_between : goal.shared_ref_as_front-span_between
shared_ref_as_front-span_between c =
    let s = c.in-Ok.ensures.sound _ refl in
    let size = length-take-le c.in-Ok.e.tokens c.examine.new.room.tokens s.inside in
    omega (arith, s.buffered.few)

pub span_between-requires-clause-buffered : goal.span_between-requires-clause-buffered
span_between-requires-clause-buffered c = (c.in-Ok.ensures.sound _ refl).buffered

pub span_between-requires-clause-last_value : goal.span_between-requires-clause-last_value
span_between-requires-clause-last_value c =
    (last-section c.args.code.now c.args.n _ _ _ _ (c.in-Ok.ensures.sound _ refl), omega (arith, c.if-e-n.false))

pub returns : goal.returns
returns c =
    let accepted = examined-fine _ _ _ _ _ c.in-Ok.ensures in
    let r = section-fine c.args.code.now c.args.n accepted _ c.span_between.ensures in
    record { start = r.start; size = r.size; inside = r.inside }
