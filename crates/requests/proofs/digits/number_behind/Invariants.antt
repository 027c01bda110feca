-- `requests::digits::number_behind` meets its contract. The invariant: the number of all digits is the number of those left behind what was counted, up to the limit.
-- Assumes nothing.
use Rattle.requests.proofs.Numerals.{Counting}
use Rattle.requests.proofs.digits.number_behind.Given as goal

abbrev pub invariant-loop-u : goal.invariant-loop-u
invariant-loop-u l = Counting l.us l.v l.limit l.n l.u-index
