-- `responding::respond_bytes` meets its contract: 6,148 bytes decide what an input asks.
-- Assumes nothing.
use native.Mathlib.Omega.{arith}
use Rattle.responding.proofs.Answering.{left_out, put_whole}
use Rattle.responding.proofs.respond_bytes.Goals as goal

pub returns-then-out-k : goal.returns-then-out-k
returns-then-out-k c =
    let a = c.args in
    let r =
    left_out a.input.now _ _ _ c.room-wide.ensures c.min-n.ensures c.put_bytes.ensures c.room-lines.ensures
    c.respond-told.ensures a.out.now (omega arith)
    in record { result = r.0; out = r.1.0; short = r.1.1 }

pub returns : goal.returns
returns c =
    let a = c.args in
    let r =
    put_whole a.input.now _ _ _ c.room-wide.ensures c.min-n.ensures c.put_bytes.ensures c.room-lines.ensures
    c.respond-told.ensures a.out.now (omega arith) c.narrow.ensures
    in record { result = r.0; out = r.1.0; short = r.1.1 }
