-- `lexing::buffer::fill` meets its contract. The invariant, `Filling`: the lexing of the whole is the tokens that are put, their semicolons counted, and then that of what is left.
-- Assumes nothing.
use Prim.Native.Nat.{◌-◌}
use lib.ListN.{length}
use Rattle.lexing.proofs.Filling.{Filling}
use Rattle.lexing.proofs.buffer.fill.Given as goal

abbrev pub invariant-loop-at : goal.invariant-loop-at
invariant-loop-at l = Filling l.code l.tokens (length l.initial.tokens) l.at l.n l.semicolons

abbrev pub decreases-loop-at : goal.decreases-loop-at
decreases-loop-at l = length l.code - l.at
