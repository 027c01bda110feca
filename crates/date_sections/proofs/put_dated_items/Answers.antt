-- `date_sections::put_dated_items` meets its contract.
-- Assumes nothing.
use Rattle.std.proofs.Common.{◌≡◌, ◌<◌, length, ap, ◌∙◌, refl, true, arith, rules}
use Rattle.std.specs.Slice.Iter.{chunks_exact_rest}
use Rattle.lists.specs.Lists.{any}
use Rattle.tables.specs.Words.{entries_in}
use Rattle.date_text.specs.Moment.{dated_entry}
use Rattle.date_text.proofs.Spans.{finest-some}
use Rattle.section_text.proofs.Walking.{entries-pair, begins-in-range, begins-fits, puts-first, walking_start, walking-begins, walking-step, walking-end, walking-within}
use Rattle.section_text.specs.Walk.{text-ends}
use Rattle.date_sections.proofs.Dated.{dated-put, dated-first, dated-behind}
use Rattle.date_sections.proofs.FinestUnit.{dated-tag, finest-start, finest-step, finest-end}
use Rattle.date_sections.proofs.put_dated_items.Goals as goal

pub loop-pair-init : goal.loop-pair-init
loop-pair-init c =
    let e : chunks_exact_rest c.into_iter-pair-iterator.result ≡ c.args.items.now = search rules in
    record {
      can_next = search rules;
      is_finite = search rules;
      pairs = search rules;
      walking = walking_start e c.requires;
      dated = λ t. rw e at t;
      finest = finest-start _ _ _ e (omega arith);
    }

pub put_dated_item-written-requires : goal.put_dated_item-written-requires
put_dated_item-written-requires c =
    let i = c.loop-pair.invariant in
    let s = c.in-Some.ensures.steps in
    let b = walking-begins i.walking _ _ s.1.0 (s.1.1 ∙ i.pairs) in
    let r = begins-in-range b in
    (omega (arith, walking-within i.walking), r, dated-tag _ _ _ _ b.has.subject.0 r (begins-fits b), i.finest.most)

pub loop-pair-preserved : goal.loop-pair-preserved
loop-pair-preserved c =
    let i = c.loop-pair.invariant in
    let s = c.in-Some.ensures.steps in
    let n = s.1.1 ∙ i.pairs in
    let e = c.put_dated_item-written.ensures in
    let next = ap entries_in s.1.0 ∙ entries-pair _ _ n in
    let some : (any dated_entry _ ≡ true) → any dated_entry (entries_in c.args.items.now) ≡ true = λ t. i.dated (rw next t) in
    record {
      can_next = search rules;
      is_finite = search rules;
      pairs = s.0 ∙ i.pairs;
      walking = walking-step i.walking _ _ s.1.0 n (puts-first (dated-put _ (λ t. some (dated-first _ _ t)) e.put));
      dated = λ t. some (dated-behind _ _ t);
      finest = finest-step i.finest _ _ s.1.0 n e.finest;
    }

pub returns : goal.returns
returns c =
    let i = c.loop-pair.invariant in
    let h : length (chunks_exact_rest c.loop-pair.pair-iterator) < 2 = omega (arith, c.in-None.ensures.steps.1.0, i.pairs) in
    let finest = finest-end i.finest h in
    record {
      within = walking-within i.walking;
      put = walking-end i.walking (λ us t. text-ends t) h;
      finest = finest;
      some = finest-some _ finest;
    }
