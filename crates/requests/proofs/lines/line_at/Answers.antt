-- `requests::lines::line_at` meets its contract.
-- Assumes nothing.
use mathlib.Core.Path.{sym, ◌∙◌, refl}
use native.Mathlib.Omega.{arith}
use lib.ListN.{drop, length-drop}
use Rattle.formats.specs.Tokens.{before}
use Rattle.lexing.proofs.Scanning.{rest_all}
use Rattle.requests.proofs.Lining.{marked, unmarked, line-unended, line_refused, line-found}
use Rattle.requests.proofs.lines.line_at.Goals as goal

pub returns-in_err-end : goal.returns-in_err-end
returns-in_err-end c =
    let a = c.args in
    let us = a.input.now in
    let none = unmarked 10 (drop a.at us) _ (rw (rest_all us a.at) at c.position_of.ensures) c.in_err-end.was in
    rw c.from_residual.ensures (line-unended us a.name.now a.at (before 10 (drop a.at us)) refl (omega (arith, none, length-drop a.at us)))

pub returns-then-not-is_line : goal.returns-then-not-is_line
returns-then-not-is_line c =
    let a = c.args in
    let us = a.input.now in
    let found = marked 10 (drop a.at us) _ (rw (rest_all us a.at) at c.position_of.ensures) _ c.in_ok-end.was in
    line_refused us a.name.now a.at _ found.0 (sym c.is_line.ensures ∙ c.if-not-is_line.true)

pub returns : goal.returns
returns c =
    let a = c.args in
    let us = a.input.now in
    let found = marked 10 (drop a.at us) _ (rw (rest_all us a.at) at c.position_of.ensures) _ c.in_ok-end.was in
    line-found us a.name.now a.at _ found.0 (omega (arith, found.1, length-drop a.at us)) (sym c.is_line.ensures ∙ c.if-not-is_line.false)
