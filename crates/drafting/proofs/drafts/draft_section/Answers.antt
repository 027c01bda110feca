-- `drafting::drafts::draft_section` meets its contract.
-- Assumes nothing.
use mathlib.Core.Path.{sym}
use Rattle.drafting.proofs.Drafting.{heading-body, section-drafted}
use Rattle.drafting.proofs.Digits.{heading-digit, units-behind}
use Rattle.drafting.proofs.drafts.draft_section.Goals as goal

pub heading_condition-condition-requires : goal.heading_condition-condition-requires
heading_condition-condition-requires c =
    let p = c.args.part in (p.short, heading-digit p.code.now p.marks.now _ c.heading_of-h.ensures c.requires.read)

pub draft_body-body-requires-clause-room : goal.draft_body-body-requires-clause-room
draft_body-body-requires-clause-room c =
    let p = c.args.part in (c.requires.room.0, rw (heading-body p.code.now p.marks.now _ c.heading_of-h.ensures) c.requires.room.1)

pub draft_body-body-requires-clause-units : goal.draft_body-body-requires-clause-units
draft_body-body-requires-clause-units c = let p = c.args.part in units-behind p.code.now p.marks.now c.heading_of-h.result.tokens c.requires.read

pub returns-clause-draft : goal.returns-clause-draft
returns-clause-draft c =
    let p = c.args.part in
    let head = c.heading_of-h.ensures in
    let body = heading-body p.code.now p.marks.now _ head in
    rw c.is_some.ensures
    (section-drafted p.code.now p.marks.now _ head _ _ _ _ c.heading_condition-condition.ensures c.unwrap_or-amount.ensures (c.draft_body-body.ensures.draft _ (sym body)))

pub returns-clause-put : goal.returns-clause-put
returns-clause-put c =
    let p = c.args.part in
    let body = heading-body p.code.now p.marks.now _ c.heading_of-h.ensures in rw (← body) c.draft_body-body.ensures.put
