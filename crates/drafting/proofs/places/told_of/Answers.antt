use Rattle.std.proofs.Common.{refl}
use Rattle.drafting.proofs.Integers.{told-of}
use Rattle.drafting.proofs.places.told_of.Goals as goal

pub returns : goal.returns
returns c =
    let p = c.places_of-places.ensures in
    told-of c.args.f c.args.body.now c.requires.1 _ refl refl (p.1, p.2) p.0
