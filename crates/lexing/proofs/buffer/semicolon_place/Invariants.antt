-- `lexing::buffer::semicolon_place` meets its contract. The invariant, `Ahead`: the semicolon is `left` semicolons ahead.
-- Assumes nothing.
use Rattle.lexing.proofs.Semicolons.{Ahead}
use Rattle.lexing.proofs.buffer.semicolon_place.Given as goal

abbrev pub invariant-loop-m : goal.invariant-loop-m
invariant-loop-m l = Ahead l.tokens l.k l.left l.m-index
