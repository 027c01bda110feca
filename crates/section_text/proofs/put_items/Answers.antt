-- `section_text::put_items` meets its contract. The invariant, `Walking`: the text of the entries that are left is what is left to put.
-- Assumes nothing.
use Rattle.std.proofs.Common.{◌∙◌, arith, rules}
use Rattle.section_text.proofs.Walking.{walking-begins, walking-step, walking-end, walking-within}
use Rattle.section_text.proofs.put_items.Goals as goal

pub put_item-end-requires : goal.put_item-end-requires
put_item-end-requires g c =
    let i = c.loop-pair.invariant in
    let s = c.in-Some.ensures.steps in
    (omega (arith, walking-within i.walking, c.requires.0), walking-begins i.walking _ _ s.1.0 (s.1.1 ∙ i.pairs))

pub loop-pair-preserved : goal.loop-pair-preserved
loop-pair-preserved g c =
    let i = c.loop-pair.invariant in
    let s = c.in-Some.ensures.steps in
    record {
      can_next = search rules;
      is_finite = search rules;
      pairs = s.0 ∙ i.pairs;
      walking = walking-step i.walking _ _ s.1.0 (s.1.1 ∙ i.pairs) c.put_item-end.ensures;
    }

pub returns : goal.returns
returns g c =
    let i = c.loop-pair.invariant in
    record {
      within = walking-within i.walking;
      put = walking-end i.walking (g.met.I.ShowsItems.ends c.args.from.now) (omega (arith, c.in-None.ensures.steps.1.0, i.pairs));
    }
