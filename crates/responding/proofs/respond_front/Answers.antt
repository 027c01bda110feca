-- `responding::respond_front` meets its contract.
-- Assumes nothing.
use Rattle.responding.proofs.Answering.{front-answered, response-taken-whole}
use Rattle.responding.proofs.respond_front.Goals as goal

pub unreachable-requires : goal.unreachable-requires
unreachable-requires c = response-taken-whole _ _ c.respond_bytes.ensures.short c.requires _ c.in-Err.ensures.result

pub returns : goal.returns
returns c =
    let a = c.args in
    let r = c.respond_bytes.ensures in
    let f = front-answered a.input.now a.out.now a.got c.min-n.ensures c.requires r.out r.short _ c.in-Ok.ensures.result in
    record { size = f.0; out = f.1 }
