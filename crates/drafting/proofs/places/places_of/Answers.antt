-- `drafting::places::places_of` meets its contract.
-- Assumes nothing.
use Rattle.drafting.proofs.Integers.{places-dated, places-other, places-bound}
use Rattle.drafting.proofs.places.places_of.Goals as goal

pub returns-then-f : goal.returns-then-f
returns-then-f c =
    let d = c.date_places.ensures in
    (places-dated c.args.f c.args.body.now c.requires.1 _ d.0 c.if-f.true, d.1, d.2)

pub returns : goal.returns
returns c =
    let b = places-bound c.args.f c.args.body.now c.requires.1 c.requires.0 in
    (places-other c.args.f c.args.body.now c.requires.1 c.if-f.false, b.0, b.1)
