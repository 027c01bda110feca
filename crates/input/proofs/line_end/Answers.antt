-- The part that is walked begins at `at` and goes to the end of the input.
-- Assumes nothing.
use Rattle.std.proofs.Common.{ap, arith}
use Rattle.std.specs.List.{position_or_len}
use Rattle.std.proofs.lemmas.List.{take_rest}
use Rattle.input.proofs.line_end.Goals as goal

pub loop-k-init : goal.loop-k-init
loop-k-init g c =
    omega (arith, ap (position_or_len (λ x. g.T.PartialEq.eq x c.args.line_feed)) (take_rest c.args.input.now c.args.at))
