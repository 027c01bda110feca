-- `choosing::choose_among` meets its contract.
-- Assumes nothing.
use mathlib.Core.Path.{◌≡◌}
use Rattle.table_words.specs.Sections.{section_in}
use Rattle.choosing.specs.Seeking.{exact_of, takes}
use Rattle.table_words.proofs.Heads.{long}
use Rattle.choosing.proofs.Standing.{second-there, found_first, found-none-of-one, found-second, found-none-of-two, found-third}
use Rattle.choosing.proofs.choose_among.Goals as goal
use Rattle.choosing.proofs.choose_among.Goals.{After-takes, After-takes-2}

-- what the first section and the second take
first : (c : After-takes) → c.takes.result ≡ takes c.counted-counted.result 0 (section_in c.args.table.words.now 0) (exact_of c.args.v)
first c = rw (c.section.ensures.section, c.section.ensures.place) at c.takes.ensures

second : (c : After-takes-2) → c.takes-2.result ≡ takes c.counted-counted.result 1 (section_in c.args.table.words.now 1) (exact_of c.args.v)
second c = rw (c.section-2.ensures.section, c.section-2.ensures.place) at c.takes-2.ensures

pub section-requires : goal.section-requires
section-requires c = (long _ c.args.table.passes).least

pub returns-then-takes : goal.returns-then-takes
returns-then-takes c = found_first _ c.args.table.passes c.requires c.counted-counted.ensures _ (first (goal.at.returns-then-takes c).After-takes) c.if-takes.true

pub returns-then-counted-eq1 : goal.returns-then-counted-eq1
returns-then-counted-eq1 c =
    found-none-of-one _ c.args.table.passes c.requires c.counted-counted.ensures _ (first (goal.at.returns-then-counted-eq1 c).After-takes)
    c.if-takes.false c.if-counted-eq1.true

pub section-requires-2 : goal.section-requires-2
section-requires-2 c = second-there _ c.args.table.passes c.requires c.counted-counted.ensures c.if-counted-eq1.false

pub returns-then-takes-2 : goal.returns-then-takes-2
returns-then-takes-2 c =
    found-second _ c.args.table.passes c.requires c.counted-counted.ensures _ (first (goal.at.returns-then-takes-2 c).After-takes)
    c.if-takes.false c.if-counted-eq1.false (second (goal.at.returns-then-takes-2 c).After-takes-2) c.if-takes-2.true

pub returns-then-counted-eq2 : goal.returns-then-counted-eq2
returns-then-counted-eq2 c =
    found-none-of-two _ c.args.table.passes c.requires c.counted-counted.ensures _ (first (goal.at.returns-then-counted-eq2 c).After-takes)
    c.if-takes.false c.if-counted-eq1.false (second (goal.at.returns-then-counted-eq2 c).After-takes-2) c.if-takes-2.false c.if-counted-eq2.true

pub returns : goal.returns
returns c =
    found-third _ c.args.table.passes c.requires c.counted-counted.ensures _ (first (goal.at.returns c).After-takes)
    c.if-takes.false c.if-counted-eq1.false (second (goal.at.returns c).After-takes-2) c.if-takes-2.false c.if-counted-eq2.false
