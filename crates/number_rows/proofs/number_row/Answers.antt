-- `number_rows::number_row` meets its contract. The invariant, `Counting`: what is left to be asked of the entries that are left.
-- Assumes nothing.
use native.Mathlib.Omega.{arith}
use mathlib.Core.Path.{sym, ◌∙◌}
use borrow.Author.Rules.{rules}
use Rattle.tallies.proofs.Pairs.{entries-pair, entries-none}
use Rattle.number_rows.proofs.NumberRows.{counting-start, counting-step, counting-fault, counting-none, counting-open, counting-ends, counting-told}
use Rattle.number_rows.proofs.number_row.Goals as goal

pub loop-pair-init : goal.loop-pair-init
loop-pair-init c =
    let made = c.chunks_exact-pair-items.ensures in
    rw (c.into_iter-pair-iterator.ensures.into_iter_gives, made.rest) (made.size, counting-start _)

pub returns-in_err-s : goal.returns-in_err-s
returns-in_err-s c =
    let turn = c.in-Some.ensures.steps in
    let i = c.loop-pair.invariant in
    rw c.from_residual.ensures
    (counting-fault i.1 _ _ _ (entries-pair _ _ _ turn.1.0 (turn.1.1 ∙ i.0)) (search rules) (sym c.in_err-s.ensures))

pub loop-pair-preserved : goal.loop-pair-preserved
loop-pair-preserved c =
    let turn = c.in-Some.ensures.steps in
    let i = c.loop-pair.invariant in
    (turn.0 ∙ i.0, counting-step i.1 _ _ _ (entries-pair _ _ _ turn.1.0 (turn.1.1 ∙ i.0)) (search rules) (sym c.in_ok-s.ensures))

pub returns-then-s : goal.returns-then-s
returns-then-s c =
    let i = c.loop-pair.invariant in
    counting-none i.1 (entries-none _ (omega (arith, i.0, c.in-None.ensures.steps.1.0))) c.if-s.true

pub returns-then-s-2 : goal.returns-then-s-2
returns-then-s-2 c =
    let i = c.loop-pair.invariant in
    counting-open i.1 (entries-none _ (omega (arith, i.0, c.in-None.ensures.steps.1.0))) c.if-s.false c.if-s-2.true

pub overflow_sub-result : goal.overflow_sub-result
overflow_sub-result c =
    let i = c.loop-pair.invariant in
    (counting-ends i.1 (entries-none _ (omega (arith, i.0, c.in-None.ensures.steps.1.0))) c.if-s.false c.if-s-2.false).0

pub overflow_sub-result-2 : goal.overflow_sub-result-2
overflow_sub-result-2 c =
    let i = c.loop-pair.invariant in
    (counting-ends i.1 (entries-none _ (omega (arith, i.0, c.in-None.ensures.steps.1.0))) c.if-s.false c.if-s-2.false).1

pub returns : goal.returns
returns c =
    let i = c.loop-pair.invariant in
    counting-told i.1 (entries-none _ (omega (arith, i.0, c.in-None.ensures.steps.1.0))) c.if-s.false c.if-s-2.false
