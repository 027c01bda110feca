-- `writing::put_digits` meets its contract.
-- Assumes nothing.
use Rattle.writing.proofs.Numerals.{Peeled}
use Rattle.writing.proofs.put_digits.Given as goal

abbrev pub invariant-loop-o : goal.invariant-loop-o
invariant-loop-o l = Peeled l.initial.room l.at l.count l.n l.room l.o l.rest
