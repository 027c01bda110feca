-- `figure_text::put_decimals` meets its contract.
-- Assumes nothing.
use native.Mathlib.Omega.{arith}
use Rattle.writing.proofs.Laws.{put-none, put-put}
use Rattle.figure_text.proofs.Digits.{put_as}
use Rattle.figure_text.proofs.General.{decimals-some, decimals-none}
use Rattle.figure_text.proofs.put_decimals.Goals as goal

pub returns-then-lowest-lt-UNITS_PLACE-clause-put : goal.returns-then-lowest-lt-UNITS_PLACE-clause-put
returns-then-lowest-lt-UNITS_PLACE-clause-put c =
    λ n e. put_as (decimals-some n c.args.lowest (omega arith)) (put-put c.put_unit-a.ensures (c.put_run.ensures.put n e))

pub returns-clause-put : goal.returns-clause-put
returns-clause-put c = λ n e. put_as (decimals-none n c.args.lowest (omega arith)) (put-none _ _)
