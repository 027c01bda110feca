-- `figures_check::show` keeps what it calls in reach: a number that is taken has fifteen digits.
-- Assumes nothing.
use mathlib.Core.Path.{sym, ◌∙◌}
use Rattle.figures.proofs.Sign.{in-says, range-says}
use Rattle.figures.proofs.Rounding.{roundable}
use Rattle.figures_check.proofs.show.Goals as goal

pub round-digits-requires : goal.round-digits-requires
round-digits-requires g c =
    let l = in-says _ _ (sym c.take_number.ensures ∙ c.in-Some.is) in
    roundable (rw l.1 (range-says _ l.0).0) c.args.r.within.0 c.args.r.within.1
