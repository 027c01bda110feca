-- `lexing::scan::number_of` meets its contract. The invariant, `Numbering`: what the digits that are left make of the number so far.
-- Assumes nothing.
use lib.ListN.{drop}
use Rattle.lexing.proofs.Scanning.{Numbering}
use Rattle.lexing.proofs.scan.number_of.Given as goal

abbrev pub invariant-loop-digit : goal.invariant-loop-digit
invariant-loop-digit l = Numbering l.digits l.n (drop l.digit-index l.digits)
