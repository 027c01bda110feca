-- `settling::seconds_in` meets its contract.
-- Assumes nothing.
use Rattle.std.proofs.Common.{sym, ◌∙◌, rules, arith}
use Rattle.settling.proofs.Tags.{seconds-pair, seconds-none}
use Rattle.settling.proofs.seconds_in.Goals as goal

pub returns-then-is_run : goal.returns-then-is_run
returns-then-is_run c =
    let s = c.in-Some.ensures.steps in
    let i = c.loop-item.invariant in
    let e = seconds-pair _ _ _ s.1.0 (s.1.1 ∙ i.pairs) in
    sym (i.nearest ∙ rw (sym c.is_run.ensures ∙ c.if-is_run.true) at e)

pub loop-item-preserved : goal.loop-item-preserved
loop-item-preserved c =
    let s = c.in-Some.ensures.steps in
    let i = c.loop-item.invariant in
    let e = seconds-pair _ _ _ s.1.0 (s.1.1 ∙ i.pairs) in
    record {
      can_next = search rules;
      is_finite = search rules;
      pairs = s.0 ∙ i.pairs;
      nearest = i.nearest ∙ rw (sym c.is_run.ensures ∙ c.if-is_run.false) at e;
    }

pub returns : goal.returns
returns c =
    let i = c.loop-item.invariant in
    sym (i.nearest ∙ seconds-none _ (omega (arith, c.in-None.ensures.steps.1.0, i.pairs)))
