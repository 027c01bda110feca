-- `showing::section_fraction` meets its contract.
-- Assumes nothing.
use Rattle.std.proofs.Common.{arith}
use Rattle.formats.specs.Items.{is_place}
use Rattle.tables.proofs.BackEntries.{place-tag}
use Rattle.showing.proofs.Fractions.{fraction_words, fixed-is, places-range, places_is, fraction-exactly}
use Rattle.showing.proofs.section_fraction.Goals as goal

pub bounds-from-2 : goal.bounds-from-2
bounds-from-2 c = omega (arith, (fraction_words c.args.section c.requires.0 c.items-items.ensures c.cut_start.ensures c.split_at.ensures.front c.split_at.ensures.back).inside)

pub bounds-from-3 : goal.bounds-from-3
bounds-from-3 c = omega (arith, (fraction_words c.args.section c.requires.0 c.items-items.ensures c.cut_start.ensures c.split_at.ensures.front c.split_at.ensures.back).inside)

pub fixed_fraction-requires : goal.fixed_fraction-requires
fixed_fraction-requires c =
    let p = c.requires in
    let b = (fraction_words c.args.section c.requires.0 c.items-items.ensures c.cut_start.ensures c.split_at.ensures.front c.split_at.ensures.back).fixed c.if-from-eq-FIXED.true in
    rw c.from.ensures (p.1, p.2, b.2, b.3)

pub returns-then-from-eq-FIXED : goal.returns-then-from-eq-FIXED
returns-then-from-eq-FIXED c =
    let p = c.requires in
    let e = c.fixed_fraction.ensures in
    let f = fixed-is (fraction_words c.args.section c.requires.0 c.items-items.ensures c.cut_start.ensures c.split_at.ensures.front c.split_at.ensures.back) c.args.v p.1 c.is_parted-parted.ensures c.if-from-eq-FIXED.true (rw c.from.ensures at e.mixed) in
    record { is = f.0; exact = λ x ev. fraction-exactly _ _ x ev p.0 (f.0 x ev) e.exact; small = f.1 }

pub overflow_cast-places : goal.overflow_cast-places
overflow_cast-places c =
    omega (arith, places-range (fraction_words c.args.section c.requires.0 c.items-items.ensures c.cut_start.ensures c.split_at.ensures.front c.split_at.ensures.back) c.if-from-eq-FIXED.false (c.count_between-places.ensures is_place place-tag))

pub nearest_fraction-requires : goal.nearest_fraction-requires
nearest_fraction-requires c =
    let p = c.requires in
    let r = places-range (fraction_words c.args.section c.requires.0 c.items-items.ensures c.cut_start.ensures c.split_at.ensures.front c.split_at.ensures.back) c.if-from-eq-FIXED.false (c.count_between-places.ensures is_place place-tag) in
    (p.1, p.2, r.0, r.1)

pub returns : goal.returns
returns c =
    let p = c.requires in
    let e = c.nearest_fraction.ensures in
    let f = places_is (fraction_words c.args.section c.requires.0 c.items-items.ensures c.cut_start.ensures c.split_at.ensures.front c.split_at.ensures.back) c.args.v p.1 c.is_parted-parted.ensures c.if-from-eq-FIXED.false (c.count_between-places.ensures is_place place-tag) e.mixed in
    record { is = f.0; exact = λ x ev. fraction-exactly _ _ x ev p.0 (f.0 x ev) e.exact; small = f.1 }
