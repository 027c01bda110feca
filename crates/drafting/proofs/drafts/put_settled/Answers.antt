use Rattle.std.proofs.Common.{arith}
use Rattle.writing.proofs.Laws.{put-size}
use Rattle.drafting.specs.Parts.{tokens_of}
use Rattle.drafting.proofs.Settled.{settled-size, settled-put}
use Rattle.drafting.proofs.drafts.put_settled.Goals as goal

pub slice_bounds-settle-end : goal.slice_bounds-settle-end
slice_bounds-settle-end c =
    let e = c.put_items-end.ensures in
    omega (arith, e.next, put-size e, settled-size (tokens_of c.args.body), c.requires.room.1)

pub returns : goal.returns
returns c = settled-put (tokens_of c.args.body) c.put_items-end.ensures c.requires.room.1 c.settle.ensures
