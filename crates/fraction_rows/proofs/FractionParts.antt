-- The parts of a fraction by themselves: those before the numerator, the numerator's and those behind the solidus, and what the walks tell of them.
-- Assumes nothing.
use Prim.Native.Nat.{ℕ, suc, ◌+◌, ◌-◌, ◌/◌, ◌≤◌, ◌<◌}
use native.Mathlib.Omega.{arith}
use mathlib.Core.Path.{◌≡◌, refl, sym, ◌∙◌, ap, subst}
use mathlib.Core.Bool.{Bool, true, false, true≢false, not, ◌&&◌, ◌||◌, and-false, or-true}
use mathlib.Core.List.{List, [], ◌∷◌}
use lib.ListN.{length, get_or, take, drop}
use lib.Dec.{T, leb, ltb, eqb, leb→le, le→leb, eqb→eq}
use borrow.Author.Tests.{eq-eqb, ne_eqb, eqb-true, leb-true, leb-false, lt-ltb, le-ltb, not-false}
use Rattle.values.specs.Ranges.{between}
use Rattle.lists.specs.Lists.{every, any, count}
use Rattle.lists.proofs.Bools.{no, and_left, and_right, and_in, or_right, or-false, by_cases, T_true, true-T, carry, not_so, every-head, every-tail, every-cons}
use Rattle.lists.proofs.Counts.{none-count, any-count, any-either}
use Rattle.formats.specs.Items.{Item, fraction_kind, literal_kind, number_kind, item_allowed, is_fill, is_place, is_point, is_percent, is_solidus, is_fixed, is_cut, integer_places, start_places, behind_start, literal_follows, denominator_fits}
use Rattle.formats.specs.Text.{first_of}
use Rattle.formats.proofs.Cutting.{places-integers, no-decimals}
use Rattle.tables.specs.Words.{Entry, entries_at, entries_in}
use Rattle.tables.specs.Encode.{entry, kind_word}
use Rattle.tables.specs.Decode.{item_at, items_at}
use Rattle.tables.specs.Rules.{entry_in_range, powers_from, run_powers}
use Rattle.tallies.specs.Tally.{makes_fraction, items_of}
use Rattle.number_rows.specs.NumberRows.{number_items, NumberCounts}
use Rattle.number_rows.specs.declared.NumberRow.{NumberRow}
use Rattle.scans.specs.Scans.{has_tag}
use Rattle.fraction_rows.specs.FractionRows.{whole_fits, fixed_fits, run_fits}
use Rattle.scans.proofs.Scanned.{tag_is, any-tagged, entries-cut}
use Rattle.tallies.proofs.Places.{places-bare}
use Rattle.tallies.proofs.Held.{apart, allowed-every, no-solidi, uncut, no-powers, powers-bare, holds, holds-back}
use Rattle.number_rows.proofs.Parts.{none-among, Figures, Part, part-bare, part-number, number-part}
use Rattle.fraction_rows.proofs.FractionLoops.{no-places}

pub fraction : Figures fraction_kind
fraction = record { text = refl; general = refl; date = refl; number = refl; places = refl }

or_left : (a b : Bool) → T a → T (a || b)
or_left true b t = tt
or_left false b t = elim t [ ]

-- ---- what every part holds
pub record Piece (fs : List Entry) : Type 0 where
  pub items : T (every (item_allowed fraction_kind) (items_at fs))
  pub ranges : T (every entry_in_range fs)
  pub fill : count is_fill (items_at fs) ≤ 1

-- ---- literals, blanks and fills only
module _ (fs : List Entry) where
  abbrev loose : List Item
  loose = items_at fs

  pub loose-in : T (items_of 0 fs) → Piece fs × (any makes_fraction loose ≡ false) × (any is_place loose ≡ false)
  unfolding kind_word
  loose-in t =
      let h = holds literal_kind fs t in
      let a = apart literal_kind loose h.items in
      let held : T (every (item_allowed fraction_kind) loose) = carry (sym (allowed-every fraction_kind loose))
      (rw (a.texts refl, a.generals refl, a.dates refl, a.places refl, a.points refl, a.percents refl, a.exponents refl, a.solidi refl) tt) in
      (record { items = held; ranges = h.ranges; fill = h.fill }, a.solidi refl, a.places refl)

  pub loose-out : Piece fs → any makes_fraction loose ≡ false → any is_place loose ≡ false → T (items_of 0 fs)
  unfolding kind_word
  loose-out p solidi places =
      let a = apart fraction_kind loose p.items in
      let held : T (every (item_allowed literal_kind) loose) = carry (sym (allowed-every literal_kind loose))
      (rw (a.texts refl, a.generals refl, a.dates refl, places, a.points refl, a.percents refl, a.exponents refl, solidi) tt) in
      holds-back literal_kind fs (record {
        items = held;
        made = tt;
        ranges = p.ranges;
        fill = p.fill;
        general = λ e. no e;
        figures = λ e. no e;
        exponent = λ e. no e;
        fraction = λ e. no e;
        dates = λ e. no e;
      })

-- ---- places among them
module _ (fs : List Entry) where
  abbrev part : List Item
  part = items_at fs

  -- what the walk over a number section's items tells of them
  pub number_in : T (number_items fs) → count is_percent part ≡ 0 → any is_point part ≡ false → Part fraction_kind fraction fs
  number_in t none point = number-part fraction_kind fraction fs t none (rw point refl)

  pub number-out : Piece fs → any makes_fraction part ≡ false → 0 < count is_place part → T (run_powers fs) → integer_places part ≤ 20
      → T (number_items fs) × (count is_percent part ≡ 0)
  number-out p solidi some powers integers =
      let a = apart fraction_kind part p.items in
      part-number fraction_kind fraction fs (record {
        items = p.items;
        exponents = a.exponents refl;
        solidi = solidi;
        some = some;
        ranges = p.ranges;
        fill = p.fill;
        points = omega (arith, none-count is_point part (a.points refl));
        powers = powers;
        integers = integers;
        decimals = omega (arith, no-decimals part (a.points refl));
      })

  pub piece_of : Part fraction_kind fraction fs → Piece fs
  piece_of p = record { items = p.items; ranges = p.ranges; fill = p.fill }

-- ---- before the numerator
pub record Whole (fs : List Entry) : Type 0 where
  pub piece : Piece fs
  pub solidi : any makes_fraction (items_at fs) ≡ false
  pub powers : T (run_powers fs)
  pub integers : integer_places (items_at fs) ≤ 20
  pub literal : T (literal_follows (items_at fs))

module _ (fs : List Entry) where
  abbrev before : List Item
  before = items_at fs

  abbrev counted_test : Bool
  counted_test = (number_items fs && eqb (count is_percent before) 0) && (not (any is_point before) && literal_follows before)

  counted-in : T counted_test → Whole fs
  counted-in t =
      let none : count is_percent before ≡ 0 = search (and_left, and_right, eqb→eq) depth 8 in
      let point : any is_point before ≡ false = not_so (any is_point before) (search (and_left, and_right) depth 8) in
      let number : T (number_items fs) = search (and_left, and_right) depth 8 in
      let p = number_in fs number none point in
      record { piece = piece_of fs p; solidi = p.solidi; powers = p.powers; integers = p.integers; literal = search (and_left, and_right) depth 8 }

  bare-in : T (items_of 0 fs) → Whole fs
  unfolding run_powers
  bare-in t =
      let l = loose-in fs t in
      let n = none-count is_place before l.2 in
      let bare = uncut before ((apart fraction_kind before l.0.items).exponents refl) l.1 in
      record {
        piece = l.0;
        solidi = l.1;
        powers = no-powers _ _ fs l.2;
        integers = omega (arith, places-bare before bare, n);
        literal = true-T (no-places before l.2);
      }

  pub whole_in : T (whole_fits fs) → Whole fs
  unfolding whole_fits
  whole_in t = by_cases (items_of 0 fs) (λ e. bare-in (true-T e)) (λ e. counted-in (rw e at t))

  pub whole_out : Whole fs → T (whole_fits fs)
  unfolding whole_fits
  whole_out w =
      by_cases (any is_place before)
      (λ e. let n = number-out fs w.piece w.solidi (any-count is_place before e) w.powers w.integers in
      let number = n.0 in
      let none : T (eqb (count is_percent before) 0) = true-T (eq-eqb _ 0 n.1) in
      let point : T (not (any is_point before)) = rw ((apart fraction_kind before w.piece.items).points refl) tt in
      let literal = w.literal in
      or_right (items_of 0 fs) counted_test (search and_in depth 6))
      (λ e. or_left (items_of 0 fs) counted_test (loose-out fs w.piece w.solidi e))

-- ---- behind the solidus
abbrev pub anew_of : List Item → ℕ
anew_of is = first_of (count is_place is)

pub record Behind (fs : List Entry) : Type 0 where
  pub piece : Piece fs
  pub solidus : any is_solidus (items_at fs) ≡ false
  pub powers : T (powers_from (anew_of (items_at fs)) (anew_of (items_at fs)) fs)
  pub places : count is_place (items_at fs) ≤ 3
  pub fits : T (denominator_fits (items_at fs))

places-split : (is : List Item) → count is_place is ≡ length (start_places is) + count is_place (behind_start is)
unfolding start_places behind_start count
places-split [] = refl
places-split (i ∷ is) = by_cases (is_place i) (λ p. rw p (omega (arith, places-split is))) (λ p. rw (p, p) (omega arith))

none_first : (p : Item → Bool) (i : Item) (is : List Item) → any p (i ∷ is) ≡ false → (p i ≡ false) × (any p is ≡ false)
unfolding any
none_first p i is e = by_cases (p i) (λ h. absurd (true≢false (rw h at e))) (λ h. (h, rw h at e))

-- a run of places at the start, and no other
run_fits_lem : (is : List Item) → 0 < count is_place is → length (start_places is) ≡ count is_place is → any is_fixed is ≡ false → T (denominator_fits is)
unfolding denominator_fits start_places behind_start count
run_fits_lem [] some e f = absurd (omega arith)
run_fits_lem (i ∷ is) some e f =
    let n = none_first is_fixed i is f in
    by_cases (is_place i)
    (λ p. let rest : count is_place (behind_start is) ≡ 0 = omega (arith, places-split is, counted i is p e) in
    rw (n.0, n.1, p, none-among is_place (behind_start is) rest) tt)
    (λ p. absurd (omega (arith, nothing i is p some e)))
  where
    counted : (i : Item) (is : List Item) → is_place i ≡ true → length (start_places (i ∷ is)) ≡ count is_place (i ∷ is) → length (start_places is) ≡ count is_place is
    counted i is p e = let f : suc (length (start_places is)) ≡ suc (count is_place is) = rw p at e in omega arith

    nothing : (i : Item) (is : List Item) → is_place i ≡ false → 0 < count is_place (i ∷ is) → length (start_places (i ∷ is)) ≡ count is_place (i ∷ is) → 0 < 0
    nothing i is p some e = let f : 0 ≡ count is_place is = rw p at e in let g : 0 < count is_place is = rw p at some in omega arith

module _ (fs : List Entry) where
  abbrev after : List Item
  after = items_at fs

  run-powers : any is_cut after ≡ false → any is_point after ≡ false → powers_from (anew_of after) (anew_of after) fs ≡ run_powers fs
  unfolding run_powers
  run-powers bare point = rw (← places-integers after point bare) (powers-bare _ _ (first_of (integer_places after)) fs bare)

  pub run_in : T (run_fits fs) → Behind fs
  unfolding run_fits
  run_in t =
      let none : count is_percent after ≡ 0 = search (and_left, and_right, eqb→eq) depth 8 in
      let point : any is_point after ≡ false = not_so (any is_point after) (search (and_left, and_right) depth 8) in
      let number : T (number_items fs) = search (and_left, and_right) depth 8 in
      let few : integer_places after ≤ 3 = search (and_left, and_right, leb→le) depth 8 in
      let same : length (start_places after) ≡ integer_places after = search (and_left, and_right, eqb→eq) depth 8 in
      let p = number_in fs number none point in
      let bare = part-bare fraction_kind fraction fs p in
      let all = places-integers after point bare in
      record {
        piece = piece_of fs p;
        solidus = (no-solidi after p.solidi).0;
        powers = carry (sym (run-powers bare point)) p.powers;
        places = omega arith;
        fits = run_fits_lem after p.some (omega arith) (no-solidi after p.solidi).1;
      }

  run_out : Behind fs → any is_fixed after ≡ false → 0 < count is_place after → length (start_places after) ≡ count is_place after → T (run_fits fs)
  unfolding run_fits
  run_out b fixed some run =
      let a = apart fraction_kind after b.piece.items in
      let solidi : any makes_fraction after ≡ false = any-either is_solidus is_fixed after ∙ rw (b.solidus, fixed) in
      let bare = uncut after (a.exponents refl) solidi in
      let all = places-integers after (a.points refl) bare in
      let few = b.places in
      let n = number-out fs b.piece solidi some (carry (run-powers bare (a.points refl)) b.powers) (omega arith) in
      let number = n.0 in
      let none : T (eqb (count is_percent after) 0) = true-T (eq-eqb _ 0 n.1) in
      let most : integer_places after ≤ 3 = omega arith in
      let point : T (not (any is_point after)) = rw (a.points refl) tt in
      let same : T (eqb (length (start_places after)) (integer_places after)) = true-T (eq-eqb _ _ (run ∙ sym all)) in
      search (and_in, le→leb) depth 8

-- a fixed number
fixed-tag : (t a : ℕ) → is_fixed (item_at (entry t a)) ≡ eqb t 25
fixed-tag t a = tag_is is_fixed 25 (entry t a) refl (omega arith) refl

module _ (a : ℕ) (fs : List Entry) where
  fixed-piece : T (between 1 999 a) → Piece fs → Piece (entry 25 a ∷ fs)
  unfolding items_at item_at item_allowed entry_in_range count
  fixed-piece r p =
      record {
        items = every-cons (item_allowed fraction_kind) (item_at (entry 25 a)) (items_at fs) tt p.items;
        ranges = every-cons entry_in_range (entry 25 a) fs r p.ranges;
        fill = p.fill;
      }

  fixed_in_lem : T (between 1 999 a) → T (items_of 0 fs) → Behind (entry 25 a ∷ fs)
  unfolding items_at item_at count any denominator_fits
  fixed_in_lem r t =
      let l = loose-in fs t in
      let n = no-solidi (items_at fs) l.1 in
      let none = none-count is_place (items_at fs) l.2 in
      record {
        piece = fixed-piece r l.0;
        solidus = n.0;
        powers = no-powers _ _ (entry 25 a ∷ fs) l.2;
        places = omega arith;
        fits = rw (l.2, n.1) tt;
      }

  fixed_out : Behind (entry 25 a ∷ fs) → T (between 1 999 a) × T (items_of 0 fs)
  unfolding items_at item_at item_allowed entry_in_range count any denominator_fits
  fixed_out b =
      let places : any is_place (items_at fs) ≡ false = not_so (any is_place (items_at fs)) (and_left (not (any is_place (items_at fs))) _ b.fits) in
      let fixed : any is_fixed (items_at fs) ≡ false = not_so (any is_fixed (items_at fs)) (and_right (not (any is_place (items_at fs))) _ b.fits) in
      let solidi : any makes_fraction (items_at fs) ≡ false = any-either is_solidus is_fixed (items_at fs) ∙ rw (b.solidus, fixed) in
      let piece : Piece fs = record {
        items = every-tail (item_allowed fraction_kind) (item_at (entry 25 a)) (items_at fs) b.piece.items;
        ranges = every-tail entry_in_range (entry 25 a) fs b.piece.ranges;
        fill = b.piece.fill;
      } in
      (every-head entry_in_range (entry 25 a) fs b.piece.ranges, loose-out fs piece solidi places)

behind-fixed : (t a : ℕ) (fs : List Entry) → t ≡ 25 → T (between 1 999 a) → T (items_of 0 fs) → Behind (entry t a ∷ fs)
behind-fixed t a fs e r l = subst (λ (n : ℕ). Behind (entry n a ∷ fs)) (sym e) (fixed_in_lem a fs r l)

fixed-behind : (t a : ℕ) (fs : List Entry) → t ≡ 25 → Behind (entry t a ∷ fs) → T (between 1 999 a) × T (items_of 0 fs)
fixed-behind t a fs e b = fixed_out a fs (subst (λ (n : ℕ). Behind (entry n a ∷ fs)) e b)

pub behind-in : (fs : List Entry) → T (fixed_fits fs || run_fits fs) → Behind fs
unfolding fixed_fits
behind-in [] t = run_in [] t
behind-in (f ∷ fs) t =
    by_cases (eqb f.tag 25 && (between 1 999 f.argument && items_of 0 fs))
    (λ e. let all = true-T e in
    let tag = and_left (eqb f.tag 25) _ all in
    let rest = and_right (eqb f.tag 25) _ all in
    behind-fixed f.tag f.argument fs (eqb→eq f.tag 25 tag) (and_left (between 1 999 f.argument) _ rest) (and_right (between 1 999 f.argument) _ rest))
    (λ e. run_in (f ∷ fs) (rw e at t))

other-run : (i : Item) (is : List Item) → is_fixed i ≡ false → T (denominator_fits (i ∷ is))
    → (0 < count is_place (i ∷ is)) × (length (start_places (i ∷ is)) ≡ count is_place (i ∷ is)) × (any is_fixed (i ∷ is) ≡ false)
unfolding denominator_fits start_places count any
other-run i is n t =
    let all : T ((is_place i && not (any is_place (behind_start is))) && not (any is_fixed is)) = rw n at t in
    let place : is_place i ≡ true = T_true (is_place i) (search (and_left, and_right)) in
    let last : any is_place (behind_start is) ≡ false = not_so (any is_place (behind_start is)) (search (and_left, and_right)) in
    let fixed : any is_fixed is ≡ false = not_so (any is_fixed is) (search (and_left, and_right)) in
    rw (place, n, fixed) (omega arith, omega (arith, places-split is, none-count is_place (behind_start is) last), refl)

pub behind-out : (fs : List Entry) → Behind fs → T (fixed_fits fs || run_fits fs)
unfolding fixed_fits denominator_fits items_at
behind-out [] b = absurd b.fits
behind-out (f ∷ fs) b =
    by_cases (eqb f.tag 25)
    (λ e. let o = fixed-behind f.tag f.argument fs (eqb-true f.tag 25 e) b in
    or_left (eqb f.tag 25 && (between 1 999 f.argument && items_of 0 fs)) _ (and_in (eqb f.tag 25) _ (true-T e) (and_in (between 1 999 f.argument) _ o.0 o.1)))
    (λ e. let o = other-run (item_at f) (items_at fs) (fixed-tag f.tag f.argument ∙ e) b.fits in
    or_right (eqb f.tag 25 && (between 1 999 f.argument && items_of 0 fs)) _ (run_out (f ∷ fs) b o.2 o.0 o.1))

-- ---- as the walks tell
pub whole-bare : (es : List Entry) → items_of 0 es ≡ true → true ≡ whole_fits es
unfolding whole_fits
whole-bare es e = rw e

bool-or-false : (b : Bool) → (b || false) ≡ b
bool-or-false true = refl
bool-or-false false = refl

unmarked : (f p l : Bool) → (not f || p) ≡ true → false ≡ (f && (not p && l))
unmarked true true l e = refl
unmarked true false l e = absurd (true≢false (sym e))
unmarked false p l e = refl

module _ (es : List Entry) where
  pub whole-none : items_of 0 es ≡ false → number_items es ≡ false → false ≡ whole_fits es
  unfolding whole_fits
  whole-none b f = rw (b, f)

  pub run-none : number_items es ≡ false → false ≡ run_fits es
  unfolding run_fits
  run-none f = rw f

module _ (es : List Entry) (n : NumberRow) (t : NumberCounts es n) where
  abbrev all : List Item
  all = items_at es

  points-are : any is_point all ≡ has_tag es 7
  points-are = any-tagged is_point 7 (λ e. tag_is is_point 7 e refl (omega arith) refl) es

  whole-told : (items_of 0 es || (eqb n.percents 0 && (not (has_tag es 7) && literal_follows all))) ≡ whole_fits es
  unfolding whole_fits
  whole-told = rw (points-are, t.fits, ← t.percents)

  pub whole-refused : items_of 0 es ≡ false → (not (eqb n.percents 0) || has_tag es 7) ≡ true → false ≡ whole_fits es
  whole-refused b e = unmarked (eqb n.percents 0) (has_tag es 7) (literal_follows all) e ∙ rw b at whole-told

  pub whole-literal : items_of 0 es ≡ false → (not (eqb n.percents 0) || has_tag es 7) ≡ false → literal_follows all ≡ whole_fits es
  whole-literal b e =
      let n = or-false (not (eqb n.percents 0)) (has_tag es 7) e in
      rw (b, not-false (eqb _ 0) n.0, n.1) at whole-told

  abbrev run_first : Bool
  run_first = eqb n.percents 0 && leb n.integers 3

  run-told : (run_first && (not (has_tag es 7) && eqb (length (start_places all)) n.integers)) ≡ run_fits es
  unfolding run_fits
  run-told = rw (points-are, t.fits, ← t.percents, ← t.integers)

  many : (p : Bool) (i : ℕ) → (p && leb i 3) ≡ not (not p || ltb 3 i)
  many true i = by_cases (leb i 3) (λ e. rw (e, le-ltb 3 i (leb-true i 3 e))) (λ e. rw (e, lt-ltb 3 i (leb-false i 3 e)))
  many false i = refl

  pub run-refused : (not (eqb n.percents 0) || ltb 3 n.integers) ≡ true → false ≡ run_fits es
  run-refused e = rw (many (eqb n.percents 0) n.integers, e) at run-told

  pub run-pointed : has_tag es 7 ≡ true → false ≡ run_fits es
  run-pointed p = rw (p, and-false run_first) at run-told

  pub run-counted : (not (eqb n.percents 0) || ltb 3 n.integers) ≡ false → has_tag es 7 ≡ false → eqb (length (start_places all)) n.integers ≡ run_fits es
  run-counted e p = rw (many (eqb n.percents 0) n.integers, e, p) at run-told

-- the items behind a solidus, by the first of them
abbrev pub behind_test : List Entry → Bool
behind_test es = fixed_fits es || run_fits es

-- a fixed number is none of a number section's items
run-unfixed : (t a : ℕ) (es : List Entry) → t ≡ 25 → run_fits (entry t a ∷ es) ≡ false
unfolding run_fits
run-unfixed t a es e =
    by_cases (run_fits (entry t a ∷ es))
    (λ r. let u = true-T r in
    let number : T (number_items (entry t a ∷ es)) = search (and_left, and_right) depth 8 in
    absurd (true≢false (sym (made t a es e) ∙ unnumbered (entry t a ∷ es) number)))
    (λ r. r)
  where
    made : (t a : ℕ) (es : List Entry) → t ≡ 25 → any makes_fraction (items_at (entry t a ∷ es)) ≡ true
    made t a es e = unfold items_at any in (rw (fixed-tag t a, eq-eqb t 25 e, or-true (is_solidus (item_at (entry t a)))))

    unnumbered : (es : List Entry) → T (number_items es) → any makes_fraction (items_at es) ≡ false
    unnumbered es t = unfold number_items kind_word in ((apart number_kind (items_at es) (holds number_kind es (and_left (items_of 2 es) _ t)).items).solidi refl)

module _ (t a : ℕ) (es : List Entry) where
  pub behind-run : (t ≡ 25 → ⊥) → run_fits (entry t a ∷ es) ≡ behind_test (entry t a ∷ es)
  unfolding fixed_fits
  behind-run n = rw (ne_eqb t 25 n)

  pub behind-first : t ≡ 25 → (between 1 999 a && items_of 0 es) ≡ behind_test (entry t a ∷ es)
  unfolding fixed_fits
  behind-first e = rw (run-unfixed t a es e, eq-eqb t 25 e) (sym (bool-or-false (between 1 999 a && items_of 0 es)))

-- the words of a literal section's items
pub literal-told : {r : Bool} (es : List Entry) → ((◌≡◌ {A = ℕ} 0 2 → ⊥) → (◌≡◌ {A = ℕ} 0 4 → ⊥) → (◌≡◌ {A = ℕ} 0 5 → ⊥) → (◌≡◌ {A = ℕ} 0 6 → ⊥) → r ≡ items_of 0 es) → r ≡ items_of 0 es
literal-told es f = f (λ e. omega (arith, e)) (λ e. omega (arith, e)) (λ e. omega (arith, e)) (λ e. omega (arith, e))

-- ---- by the words
module _ (words : List ℕ) where
  pub words-none : length words < 2 → run_fits (entries_in words) ≡ behind_test (entries_in words)
  unfolding entries_in entries_at fixed_fits
  words-none h = let none : length words / 2 ≡ 0 = omega arith in rw none

  module _ (h : 2 ≤ length words) where
    words-first : entries_in words ≡ entry (get_or words 0 0) (get_or words 1 0) ∷ entries_in (take (length words - 2) (drop 2 words))
    unfolding entries_in entries_at
    words-first = entries-cut words 0 (omega arith)

    pub words-run : (get_or words 0 0 ≡ 25 → ⊥) → run_fits (entries_in words) ≡ behind_test (entries_in words)
    words-run n = rw words-first (behind-run _ _ _ n)

    words-both : get_or words 0 0 ≡ 25
        → (between 1 999 (get_or words 1 0) && items_of 0 (entries_in (take (length words - 2) (drop 2 words)))) ≡ behind_test (entries_in words)
    words-both e = behind-first _ _ _ e ∙ ap behind_test (sym words-first)

    pub words-wide : get_or words 0 0 ≡ 25 → between 1 999 (get_or words 1 0) ≡ false → false ≡ behind_test (entries_in words)
    words-wide e b = rw b at (words-both e)

    pub words-fixed : get_or words 0 0 ≡ 25 → between 1 999 (get_or words 1 0) ≡ true
        → items_of 0 (entries_in (take (length words - 2) (drop 2 words))) ≡ behind_test (entries_in words)
    words-fixed e b = rw b at (words-both e)
