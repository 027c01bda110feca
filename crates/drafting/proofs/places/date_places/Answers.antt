use Rattle.std.proofs.Common.{rules, arith}
use Rattle.drafting.proofs.Integers.{part-room, parting-end}
use Rattle.drafting.proofs.places.date_places.Goals as goal

pub part_token-s-requires : goal.part_token-s-requires
part_token-s-requires c =
    let r = part-room c.args.body.now c.loop-mark.mark-index c.loop-mark.s c.loop-mark.invariant in (omega arith, omega arith)

pub returns : goal.returns
returns c =
    let r = part-room c.args.body.now c.loop-mark.mark-index c.loop-mark.s c.loop-mark.invariant in
    (search (rules, parting-end), omega arith, omega arith)
