-- `fraction_sections::put_spaces` meets its contract. The invariant, `Spacing`: as many spaces are left as units up to the end.
-- Assumes nothing.
use Rattle.fraction_sections.proofs.Spaces.{Spacing}
use Rattle.fraction_sections.proofs.put_spaces.Given as goal

abbrev pub invariant-loop-k : goal.invariant-loop-k
invariant-loop-k l = Spacing l.initial.room l.at l.count l.room l.k
