-- `drafting::sections::draft_all` meets its contract.
-- Assumes nothing.
use native.Mathlib.Omega.{arith}
use Rattle.drafting.proofs.Sectioning.{sectioning-start, next-asks, next-items, sectioning-step, sectioning-end}
use Rattle.drafting.proofs.sections.draft_all.Goals as goal

pub loop-k-init : goal.loop-k-init
loop-k-init c = sectioning-start _ _ _ _ _ c.requires.code_len_bound c.requires.lexes

pub draft_section-draft-requires-clause-room : goal.draft_section-draft-requires-clause-room
draft_section-draft-requires-clause-room c = let a = next-asks c.loop-k.invariant c.loop-k-test.true _ c.section_end-size.ensures in (a.0.2, a.1.0)

pub draft_section-draft-requires-clause-read : goal.draft_section-draft-requires-clause-read
draft_section-draft-requires-clause-read c = (next-asks c.loop-k.invariant c.loop-k-test.true _ c.section_end-size.ensures).1.1

pub overflow_add-at : goal.overflow_add-at
overflow_add-at c =
    let d = c.draft_section-draft.ensures in
    omega (arith, next-items c.loop-k.invariant c.loop-k-test.true _ c.section_end-size.ensures _ _ d.draft d.put)

pub loop-k-preserved : goal.loop-k-preserved
loop-k-preserved c =
    let d = c.draft_section-draft.ensures in
    rw c.from.ensures (sectioning-step c.loop-k.invariant c.loop-k-test.true _ c.section_end-size.ensures _ _ d.draft d.put)

pub returns : goal.returns
returns c = sectioning-end c.loop-k.invariant c.loop-k-test.false
