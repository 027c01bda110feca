-- `show::main` is safe and ends: the answer fits its room.
-- Assumes nothing.
use mathlib.Core.Path.{sym}
use lib.Seq.{length-take-le}
use Rattle.responding.proofs.Answering.{front-within}
use Rattle.show.proofs.main.Goals as goal

pub slice_bounds-output-end : goal.slice_bounds-output-end
slice_bounds-output-end c =
    let r = c.respond_input-n.ensures in
    front-within _ _ r.size r.out

pub slice_bounds-write_all-end : goal.slice_bounds-write_all-end
slice_bounds-write_all-end c =
    let r = c.respond_input-n.ensures in
    sym (length-take-le _ _ (front-within _ _ r.size r.out))
