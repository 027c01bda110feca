-- `requests::read_request` meets its contract: each line that was read leaves what follows it, and the first that was not is told.
-- Assumes nothing.
use mathlib.Core.Path.{sym, refl, ◌∙◌}
use native.Mathlib.Omega.{arith}
use Rattle.std.proofs.lemmas.Result.{err_from_is_err_and}
use Rattle.calendar.specs.Names.{units}
use Rattle.requests.specs.Reads.{part_of}
use Rattle.requests.proofs.Requesting.{gone, kept, malformed-read, code-found, code-missing, kind-found, kind-missing, kind-known, kind-unknown, value-found, value-missing, value-bad, value-more, value-end, text-of, text-within}
use Rattle.requests.proofs.read_request.Goals as goal

pub returns-in_err-code : goal.returns-in_err-code
unfolding units
returns-in_err-code c =
    let input = c.args.input.now in
    let g = gone c.ok_or.ensures.value c.in_err-code.was in
    let p = err_from_is_err_and c.from_residual.result c.from_residual.ensures.1 in
    rw (p.1, p.2) (malformed-read input _ 1 _ (code-missing input c.line_at.ensures g.0) g.1)

pub returns-in_err-kind : goal.returns-in_err-kind
unfolding units
returns-in_err-kind c =
    let input = c.args.input.now in
    let code = code-found input c.line_at.ensures (kept c.ok_or.ensures.ok_part c.in_ok-code.was) in
    let g = gone c.ok_or-2.ensures.value c.in_err-kind.was in
    let p = err_from_is_err_and c.from_residual-in_err-kind.result c.from_residual-in_err-kind.ensures.1 in
    rw (p.1, p.2) (malformed-read input _ 2 _ (code.0 ∙ kind-missing input _ _ c.line_at-2.ensures g.0) g.1)

pub returns-in_err-sort : goal.returns-in_err-sort
unfolding units
returns-in_err-sort c =
    let input = c.args.input.now in
    let code = code-found input c.line_at.ensures (kept c.ok_or.ensures.ok_part c.in_ok-code.was) in
    let kind = kind-found input _ (part_of input c.in_ok-code.code) c.line_at-2.ensures (kept c.ok_or-2.ensures.ok_part c.in_ok-kind.was) in
    let g = gone c.ok_or-3.ensures.value c.in_err-sort.was in
    let p = err_from_is_err_and c.from_residual-in_err-sort.result c.from_residual-in_err-sort.ensures.1 in
    rw (p.1, p.2) (malformed-read input _ 2 _ (code.0 ∙ kind.0 ∙ kind-unknown _ _ _ (sym (rw c.part_of.ensures.units at c.sort_of.ensures) ∙ g.0)) g.1)

pub returns-in_err-line : goal.returns-in_err-line
unfolding units
returns-in_err-line c =
    let input = c.args.input.now in
    let code = code-found input c.line_at.ensures (kept c.ok_or.ensures.ok_part c.in_ok-code.was) in
    let kind = kind-found input _ (part_of input c.in_ok-code.code) c.line_at-2.ensures (kept c.ok_or-2.ensures.ok_part c.in_ok-kind.was) in
    let sort = kind-known (part_of input c.in_ok-code.code) _ _ _ (sym (rw c.part_of.ensures.units at c.sort_of.ensures) ∙ kept c.ok_or-3.ensures.ok_part c.in_ok-sort.was) in
    let g = gone c.ok_or-4.ensures.value c.in_err-line.was in
    let p = err_from_is_err_and c.from_residual-in_err-line.result c.from_residual-in_err-line.ensures.1 in
    rw (p.1, p.2) (malformed-read input _ 3 _ (code.0 ∙ kind.0 ∙ sort ∙ value-missing input _ _ _ c.line_at-3.ensures g.0) g.1)

pub returns-in_err-value : goal.returns-in_err-value
unfolding units
returns-in_err-value c =
    let input = c.args.input.now in
    let code = code-found input c.line_at.ensures (kept c.ok_or.ensures.ok_part c.in_ok-code.was) in
    let kind = kind-found input _ (part_of input c.in_ok-code.code) c.line_at-2.ensures (kept c.ok_or-2.ensures.ok_part c.in_ok-kind.was) in
    let sort = kind-known (part_of input c.in_ok-code.code) _ _ _ (sym (rw c.part_of.ensures.units at c.sort_of.ensures) ∙ kept c.ok_or-3.ensures.ok_part c.in_ok-sort.was) in
    let line = value-found input _ (part_of input c.in_ok-code.code) c.in_ok-sort.sort c.line_at-3.ensures (kept c.ok_or-4.ensures.ok_part c.in_ok-line.was) in
    let g = gone c.ok_or-5.ensures.value c.in_err-value.was in
    let p = err_from_is_err_and c.from_residual-in_err-value.result c.from_residual-in_err-value.ensures.1 in
    rw (p.1, p.2) (malformed-read input _ 3 _ (code.0 ∙ kind.0 ∙ sort ∙ line.0 ∙ value-bad _ _ _ _ (sym (rw c.part_of-2.ensures.units at c.value_of.ensures) ∙ g.0)) g.1)

pub returns-then-line-input : goal.returns-then-line-input
unfolding units
returns-then-line-input c =
    let input = c.args.input.now in
    let code = code-found input c.line_at.ensures (kept c.ok_or.ensures.ok_part c.in_ok-code.was) in
    let kind = kind-found input _ (part_of input c.in_ok-code.code) c.line_at-2.ensures (kept c.ok_or-2.ensures.ok_part c.in_ok-kind.was) in
    let sort = kind-known (part_of input c.in_ok-code.code) _ _ _ (sym (rw c.part_of.ensures.units at c.sort_of.ensures) ∙ kept c.ok_or-3.ensures.ok_part c.in_ok-sort.was) in
    let line = value-found input _ (part_of input c.in_ok-code.code) c.in_ok-sort.sort c.line_at-3.ensures (kept c.ok_or-4.ensures.ok_part c.in_ok-line.was) in
    let value = sym (rw c.part_of-2.ensures.units at c.value_of.ensures) ∙ kept c.ok_or-5.ensures.ok_part c.in_ok-value.was in
    malformed-read input _ 4 _ (code.0 ∙ kind.0 ∙ sort ∙ line.0 ∙ value-more _ _ _ _ input _ value (omega (arith, line.1.before, c.if-line-input.true))) refl

pub returns : goal.returns
unfolding units
returns c =
    let input = c.args.input.now in
    let code = code-found input c.line_at.ensures (kept c.ok_or.ensures.ok_part c.in_ok-code.was) in
    let kind = kind-found input _ (part_of input c.in_ok-code.code) c.line_at-2.ensures (kept c.ok_or-2.ensures.ok_part c.in_ok-kind.was) in
    let sort = kind-known (part_of input c.in_ok-code.code) _ _ _ (sym (rw c.part_of.ensures.units at c.sort_of.ensures) ∙ kept c.ok_or-3.ensures.ok_part c.in_ok-sort.was) in
    let line = value-found input _ (part_of input c.in_ok-code.code) c.in_ok-sort.sort c.line_at-3.ensures (kept c.ok_or-4.ensures.ok_part c.in_ok-line.was) in
    let value = sym (rw c.part_of-2.ensures.units at c.value_of.ensures) ∙ kept c.ok_or-5.ensures.ok_part c.in_ok-value.was in
    let p = c.in_ok-line.line in
    let s = c.in_ok-sort.sort in
    record {
      same =
          rw (c.asked.ensures, c.text_part-text.ensures, ← text-of s input p)
          (sym (code.0 ∙ kind.0 ∙ sort ∙ line.0 ∙ value-end _ _ _ _ input _ value (omega (arith, c.if-line-input.false))));
      parts = (code.1.within, rw c.text_part-text.ensures (text-within s input p line.1.within));
    }
