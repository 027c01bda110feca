-- `vectors::respond_block` is safe and ends: every answer fits its room.
-- Assumes nothing.
use native.Mathlib.Omega.{arith}
use mathlib.Core.Path.{sym}
use lib.Seq.{length-take-le}
use Rattle.responding.proofs.Answering.{responded-within, response-taken-whole}
use Rattle.vectors.proofs.respond_block.Goals as goal

pub slice_bounds-output-end : goal.slice_bounds-output-end
slice_bounds-output-end g c = omega (arith, responded-within _ _ c.in-Ok.ensures.result, c.respond_bytes.auto.out)

pub slice_bounds-write_all-end : goal.slice_bounds-write_all-end
slice_bounds-write_all-end g c =
    sym (length-take-le _ _ (omega (arith, responded-within _ _ c.in-Ok.ensures.result, c.respond_bytes.auto.out)))

pub unreachable-requires : goal.unreachable-requires
unreachable-requires g c =
    response-taken-whole _ _ c.respond_bytes.ensures.short (omega (arith, c.room-output.ensures)) _ c.in-Err.ensures.result
