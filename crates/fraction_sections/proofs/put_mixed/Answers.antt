-- `fraction_sections::put_mixed` meets its contract.
-- Assumes nothing.
use mathlib.Core.Path.{sym, ◌∙◌}
use Rattle.writing.proofs.Laws.{put-put}
use Rattle.fraction_sections.proofs.Fractions.{mixed-blank, mixed-shown}
use Rattle.fraction_sections.proofs.put_mixed.Goals as goal

pub returns-then-is_blank-clause-put : goal.returns-then-is_blank-clause-put
returns-then-is_blank-clause-put c =
    rw (mixed-blank c.requires c.args.f (sym c.is_blank.ensures ∙ c.if-is_blank.true))
    (put-put c.put_sign-at.ensures.put (put-put c.put_whole-a.ensures.put (put-put c.put_loose-b.ensures.put c.put_loose.ensures.put)))

pub returns-clause-put : goal.returns-clause-put
returns-clause-put c =
    rw (mixed-shown c.requires c.args.f (sym c.is_blank.ensures ∙ c.if-is_blank.false))
    (put-put c.put_sign-at.ensures.put (put-put c.put_whole-a.ensures.put (put-put c.put_whole-c.ensures.put c.put_below.ensures.put)))
