-- `figure_text::put_general` meets its contract.
-- Assumes nothing.
use mathlib.Core.Path.{◌≡◌}
use Prim.Native.Nat.{max}
use native.Mathlib.Omega.{arith}
use Rattle.writing.proofs.Laws.{put-put}
use Rattle.figure_text.proofs.Digits.{put_as}
use Rattle.figure_text.proofs.General.{general-runs}
use Rattle.figure_text.proofs.put_general.Goals as goal

pub returns-clause-put : goal.returns-clause-put
returns-clause-put c =
    let e : max c.args.f.used 16 ≡ max 16 c.args.f.used = omega arith in
    λ x are. put_as (general-runs are c.lowest_place.ensures.list)
    (put-put (rw (c.max.ensures, e) at (c.put_run-a.ensures.put x.figures are.number))
    (c.put_decimals.ensures.put x.figures are.number))
