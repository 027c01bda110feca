-- `fraction_sections::put_whole` meets its contract.
-- Assumes nothing.
use native.Mathlib.Omega.{arith}
use Rattle.std.proofs.Common.{false, [], rules}
use Rattle.formats.specs.Items.{is_place}
use Rattle.formats.specs.Reading.{whole_text}
use Rattle.tables.specs.Words.{entries_in}
use Rattle.tables.proofs.BackEntries.{place-tag}
use Rattle.table_words.specs.Runs.{items_in}
use Rattle.section_text.specs.Subject.{SubjectIs}
use Rattle.section_text.specs.Walk.{TextOf}
use Rattle.section_text.proofs.Lengths.{short-text}
use Rattle.fraction_sections.proofs.Segments.{segment-subject, segment-text, segment-short}
use Rattle.fraction_sections.proofs.put_whole.Goals as goal

pub overflow_cast-places : goal.overflow_cast-places
overflow_cast-places c = let g = c.requires.1 in omega (arith, c.count_between-places.ensures is_place place-tag, g.places, g.most)

pub put_items-requires : goal.put_items-requires
put_items-requires c =
    let g = c.requires.1 in
    let items = c.args.items.now in
    let i = segment-subject g c.args.n (search rules) c.round-digits.ensures.digits (c.count_between-places.ensures is_place place-tag) c.figures_of.ensures.made [] in
    let t : TextOf (λ k. SubjectIs k c.round-digits.result (record { figures = c.figures_of.result; lent = false }) []) (entries_in items) (whole_text c.args.n (items_in items)) =
    segment-text g c.args.n i in
    (c.requires.0, short-text items _ g.few t (omega (arith, segment-short g c.args.n)))

pub returns-clause-put : goal.returns-clause-put
returns-clause-put c =
    let g = c.requires.1 in
    let items = c.args.items.now in
    let i = segment-subject g c.args.n (search rules) c.round-digits.ensures.digits (c.count_between-places.ensures is_place place-tag) c.figures_of.ensures.made [] in
    let t : TextOf (λ k. SubjectIs k c.round-digits.result (record { figures = c.figures_of.result; lent = false }) []) (entries_in items) (whole_text c.args.n (items_in items)) =
    segment-text g c.args.n i in
    c.put_items.ensures.put _ t
