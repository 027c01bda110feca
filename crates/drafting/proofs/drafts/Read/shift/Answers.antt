-- `drafting::drafts::Read::shift` meets its contract.
-- Assumes nothing.
use mathlib.Core.Path.{◌≡◌, sym, ◌∙◌, ap}
use mathlib.Core.Bool.{true}
use borrow.Author.Tests.{eq-eqb, ne_eqb}
use Rattle.lists.proofs.Bools.{by_cases}
use Rattle.tables.specs.Standing.{shift_of}
use Rattle.tallies.specs.Tally.{kind_told, within_told}
use Rattle.drafting.specs.Draft.{thousands_by}
use Rattle.drafting.proofs.drafts.Read.shift.Goals as goal

pub returns-then-kind-ne-NUMBER : goal.returns-then-kind-ne-NUMBER
unfolding shift_of
returns-then-kind-ne-NUMBER c =
    let s = c.args.self in
    by_cases (within_told s.tally (thousands_by s.facts s.commas))
    (λ w. rw (w, ne_eqb (kind_told s.tally) 2 (λ e. c.if-kind-ne-NUMBER.true (c.kind.ensures ∙ e))))
    (λ w. rw w)

pub returns : goal.returns
unfolding shift_of
returns c =
    let s = c.args.self in
    let within : within_told s.tally (thousands_by s.facts s.commas) ≡ true
    = ap (within_told s.tally) (sym c.thousands-thousands.ensures) ∙ sym c.within.ensures ∙ c.if-not-within.false in
    rw (within, eq-eqb (kind_told s.tally) 2 (sym c.kind.ensures ∙ c.if-kind-ne-NUMBER.false), c.thousands-thousands.ensures)
