-- `showing::show_dated` meets its contract.
-- Assumes nothing.
use Rattle.planning.proofs.Instants.{date-takes, instant-places}
use Rattle.showing.proofs.Instants.{instant-moment, instant-known}
use Rattle.showing.proofs.show_dated.Goals as goal

pub show_dated_section-requires : goal.show_dated_section-requires
show_dated_section-requires c =
    (c.requires, instant-known c.items.ensures _ _ c.is_twelve_hour.ensures c.shows_date-dated.ensures c.moment_of-moment.ensures)

pub returns : goal.returns
returns c =
    c.show_dated_section.ensures _
    (instant-moment c.items.ensures _ _ c.is_twelve_hour.ensures c.shows_date-dated.ensures c.moment_of-moment.ensures)
    (instant-places c.args.section _ _ (date-takes _ c.requires))
