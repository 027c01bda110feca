-- `numbering::integers_in` meets its contract.
-- Assumes nothing.
use Rattle.std.proofs.Common.{◌<◌, sym, ◌∙◌, length, ap, length-append, arith, rules}
use Rattle.std.specs.Slice.Iter.{chunks_exact_rest}
use borrow.Author.Tests.{ne_eqb}
use Rattle.numbering.proofs.Scanning.{integers-pair, integers-none, more-places}
use Rattle.numbering.proofs.integers_in.Goals as goal

pub loop-item-preserved : goal.loop-item-preserved
loop-item-preserved c =
    let s = c.in-Some.ensures.steps in
    let i = c.loop-item.invariant in
    let pair = integers-pair _ _ _ s.1.0 (s.1.1 ∙ i.pairs) in
    let m = more-places _ c.from-places.result _ _ (rw (ne_eqb _ 7 c.if-tag-eq-POINT.false, sym c.is_place.ensures) at pair) c.from-places.ensures in
    let n = simp length-append at (ap length s.1.0) in
    record {
      can_next = search rules;
      is_finite = search rules;
      pairs = s.0 ∙ i.pairs;
      few = omega (arith, i.few, m.1, n, s.1.1, i.pairs);
      met = omega (arith, i.met, m.0);
    }

pub returns-then-tag-eq-POINT : goal.returns-then-tag-eq-POINT
returns-then-tag-eq-POINT c =
    let s = c.in-Some.ensures.steps in
    let i = c.loop-item.invariant in
    let pair = integers-pair _ _ _ s.1.0 (s.1.1 ∙ i.pairs) in
    let none = rw c.if-tag-eq-POINT.true at pair in
    (omega (arith, i.met, none), omega (arith, i.few, c.requires))

pub returns : goal.returns
returns c =
    let i = c.loop-item.invariant in
    let few : length (chunks_exact_rest c.loop-item.item-iterator) < 2 = omega (arith, c.in-None.ensures.steps.1.0, i.pairs) in
    (omega (arith, i.met, integers-none _ few), omega (arith, i.few, c.requires))
