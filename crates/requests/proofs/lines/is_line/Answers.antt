-- `requests::lines::is_line` meets its contract.
-- Assumes nothing.
use Rattle.std.proofs.Common.{◌≡◌, leb}
use Rattle.std.specs.List.{list_all}
use Rattle.lists.specs.Lists.{every}
use Rattle.lexing.proofs.Scanning.{every-all}
use Rattle.requests.specs.Lines.{is_ascii, is_line}
use Rattle.requests.proofs.lines.is_line.Goals as goal

pub returns : goal.returns
unfolding is_line is_ascii
returns c =
    let us = c.args.line.now in
    let all : every is_ascii us ≡ list_all (λ u. leb u 127) us = every-all is_ascii us in
    rw (all, c.is_ascii.ensures, c.starts_with.ensures)
