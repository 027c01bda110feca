-- No element so far is a line feed.
-- Assumes nothing.
use Rattle.std.proofs.Common.{◌≡◌, ◌+◌, drop}
use Rattle.std.specs.List.{position_or_len}
use Rattle.input.proofs.line_end.Given as goal

abbrev pub invariant-loop-k : goal.invariant-loop-k
invariant-loop-k g l =
    position_or_len (λ x. g.T.PartialEq.eq x l.line_feed) (drop l.at l.input)
    ≡ l.k + position_or_len (λ x. g.T.PartialEq.eq x l.line_feed) (drop l.k l.x-items)
