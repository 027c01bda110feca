-- A scientific section's items by those before its E and behind it, each the items of a number section.
-- Assumes nothing.
use Prim.Native.Nat.{ℕ, suc, ◌+◌, ◌≤◌}
use native.Mathlib.Omega.{arith}
use mathlib.Core.Path.{◌≡◌, refl, sym, ◌∙◌, ap}
use mathlib.Core.Bool.{Bool, true, false, not, ◌&&◌, ◌||◌, and-false}
use mathlib.Core.List.{List, ◌∷◌, ◌++◌}
use Rattle.std.specs.Prelude.{Option, None, Some}
use lib.Dec.{T, leb, ltb, eqb, leb→le, le→leb, eqb→eq}
use borrow.Author.Tests.{eq-eqb, ne_eqb, eqb-true, eqb-false, leb-true, leb-false, lt-ltb, le-ltb, le-leb, not-false}
use Rattle.values.specs.Ranges.{between}
use Rattle.lists.specs.Lists.{every, any, count}
use Rattle.lists.proofs.Bools.{no, and_left, and_right, and_in, or_right, by_cases, T_true, true-T, carry, same_test, not_so, or-false}
use Rattle.lists.proofs.Counts.{count-append, none-count, positive-count, any-map, any_same, any-either}
use Rattle.formats.proofs.ByNumber.{by_number}
use Rattle.formats.specs.Items.{Item, half, scientific_kind, item_allowed, item_number, is_fill, is_place, is_point, is_percent, is_space, is_exponent, is_cut, before_cut, from_cut, integer_places, decimal_places, places_behind, exponent_fits}
use Rattle.formats.specs.Text.{first_of}
use Rattle.formats.proofs.Cutting.{exponent-rules, integers-before, decimals-before, places-integers}
use Rattle.tables.specs.Words.{Entry}
use Rattle.tables.specs.Encode.{entry, kind_word}
use Rattle.tables.specs.Decode.{half_at, item_at, items_at, items_by_tag}
use Rattle.tables.specs.Rules.{entry_in_range, run_powers}
use Rattle.tables.proofs.BackEntries.{between-facts, span-at}
use Rattle.table_words.proofs.Cuts.{items-append}
use Rattle.tallies.specs.Tally.{items_of}
use Rattle.number_rows.specs.NumberRows.{number_items, NumberCounts}
use Rattle.number_rows.specs.declared.NumberRow.{NumberRow}
use Rattle.scientific_rows.specs.declared.ScientificRow.{ScientificRow}
use Rattle.scans.specs.Scans.{tagged, has_tag}
use Rattle.scientific_rows.specs.ScientificRows.{scientific_items, ScientificTold, mantissa_items, MantissaCounts, MantissaTold, exponent_items}
use Rattle.scans.proofs.Scanned.{tag_is, any-tagged}
use Rattle.tallies.proofs.Places.{places-counted}
use Rattle.tallies.proofs.Held.{powers-bare, powers-one, no-solidi, uncut, apart, Holds, holds, holds-back}
use Rattle.number_rows.proofs.Parts.{none-among, every-joined, count-beside, cut-here, powers-joined, Figures, Part, part-bare, part-number, number-part, filled_apart}

-- ---- the E
exponent-tag : (t a : ℕ) → T (between 22 23 t)
    → (is_exponent (item_at (entry t a)) ≡ true) × (entry_in_range (entry t a) ≡ eqb a 0) × T (item_allowed scientific_kind (item_at (entry t a)))
unfolding item_at entry_in_range item_allowed
exponent-tag t a h =
    let f = between-facts 22 23 t h in
    span-at (λ (k : ℕ). (is_exponent (item_at (entry k a)) ≡ true) × (entry_in_range (entry k a) ≡ eqb a 0) × T (item_allowed scientific_kind (item_at (entry k a))))
    22 2 t ((refl, refl, tt), ((refl, refl, tt), tt)) f.0 (omega arith)

scientific : Figures scientific_kind
scientific = record { text = refl; general = refl; date = refl; number = refl; places = refl }

-- ---- the whole section
module _ (fs gs : List Entry) (t a : ℕ) (x : T (between 22 23 t)) where
  abbrev e : Entry
  e = entry t a

  abbrev es : List Entry
  es = fs ++ (e ∷ gs)

  abbrev js : List Item
  js = items_at fs

  abbrev ks : List Item
  ks = items_at gs

  is-exponent : is_exponent (item_at e) ≡ true
  is-exponent = (exponent-tag t a x).0

  is_cut_lem : is_cut (item_at e) ≡ true
  is_cut_lem = rw is-exponent

  number-e : item_number (item_at e) ≡ 17
  number-e = eqb-true (item_number (item_at e)) 17 is-exponent

  joined : items_at es ≡ js ++ (item_at e ∷ ks)
  unfolding items_at
  joined = items-append fs (e ∷ gs)

  -- what the parts must be
  pub record Parts : Type 0 where
    pub argument : a ≡ 0
    pub mantissa : T (number_items fs)
    pub exponent : T (number_items gs)
    pub percents : (count is_percent js ≡ 0) × (count is_percent ks ≡ 0)
    pub integer : 1 ≤ integer_places js
    pub places : integer_places ks ≤ 3
    pub point : any is_point ks ≡ false
    pub space : any is_space ks ≡ false
    pub fill : count is_fill js + count is_fill ks ≤ 1

  count-is : (p : Item → Bool) → p (item_at e) ≡ false → count p (items_at es) ≡ count p js + count p ks
  count-is p n = ap (count p) joined ∙ count-beside p (item_at e) js ks n

  module _ (bare : any is_cut js ≡ false) where
    before : before_cut (items_at es) ≡ js
    before = ap before_cut joined ∙ (cut-here (item_at e) js ks is_cut_lem bare).0

    from : from_cut (items_at es) ≡ item_at e ∷ ks
    from = ap from_cut joined ∙ (cut-here (item_at e) js ks is_cut_lem bare).1

    integers-are : integer_places (items_at es) ≡ integer_places js
    integers-are = sym (integers-before (items_at es)) ∙ ap integer_places before

    decimals-are : decimal_places (items_at es) ≡ decimal_places js
    decimals-are = sym (decimals-before (items_at es)) ∙ ap decimal_places before

    places-are : places_behind (items_at es) ≡ count is_place ks
    unfolding places_behind count
    places-are = ap (count is_place) from ∙ rw number-e

    behind-any : (p : Item → Bool) → p (item_at e) ≡ false → any p (from_cut (items_at es)) ≡ any p ks
    unfolding any
    behind-any p n = ap (any p) from ∙ rw n

    powers-are : any is_cut ks ≡ false → any is_point ks ≡ false → run_powers es ≡ (run_powers fs && run_powers gs)
    unfolding run_powers
    powers-are none point =
        let anew : places_behind (items_at es) ≡ integer_places ks = places-are ∙ sym (places-integers ks point none) in
        rw (integers-are, anew)
        (powers-joined e fs gs _ _ is_cut_lem bare
        ∙ rw (
          powers-bare (first_of (integer_places ks)) (first_of (places_behind js)) (first_of (integer_places js)) fs bare,
          powers-bare (first_of (integer_places ks)) (first_of (places_behind ks)) (first_of (integer_places ks)) gs none,
        ))

  exponents-are : count is_exponent (items_at es) ≡ count is_exponent js + suc (count is_exponent ks)
  unfolding count
  exponents-are = ap (count is_exponent) joined ∙ count-append is_exponent js (item_at e ∷ ks) ∙ rw is-exponent

  held-are : every (item_allowed scientific_kind) (items_at es) ≡ (every (item_allowed scientific_kind) js && (item_allowed scientific_kind (item_at e) && every (item_allowed scientific_kind) ks))
  held-are = ap (every (item_allowed scientific_kind)) joined ∙ every-joined (item_allowed scientific_kind) js ks (item_at e)

  ranges-are : every entry_in_range es ≡ (every entry_in_range fs && (eqb a 0 && every entry_in_range gs))
  ranges-are = every-joined entry_in_range fs gs e ∙ rw (exponent-tag t a x).1

  before-part : T (number_items fs) → count is_percent js ≡ 0 → Part scientific_kind scientific fs
  before-part t none = number-part scientific_kind scientific fs t none (ap not (and-false (any is_point js)))

  behind-part : T (number_items gs) → count is_percent ks ≡ 0 → Part scientific_kind scientific gs
  behind-part t none = number-part scientific_kind scientific gs t none (ap not (and-false (any is_point ks)))

  pub cut_out : T (scientific_items es) → Parts
  unfolding scientific_items kind_word
  cut_out t =
      let is = items_at es in
      let h : Holds scientific_kind es = holds scientific_kind es (and_left (items_of 5 es) _ t) in
      let r = exponent-rules is (T_true (any is_exponent is) h.made) (h.exponent refl) in
      let exponents = exponents-are in
      let one = r.one in
      let held = carry held-are h.items in
      let before-held : T (every (item_allowed scientific_kind) js) = search (and_left, and_right) in
      let behind-held : T (every (item_allowed scientific_kind) ks) = search (and_left, and_right) in
      let before-solidi = (apart scientific_kind js before-held).solidi refl in
      let behind-solidi = (apart scientific_kind ks behind-held).solidi refl in
      let before-exponents : any is_exponent js ≡ false = none-among is_exponent js (omega arith) in
      let behind-exponents : any is_exponent ks ≡ false = none-among is_exponent ks (omega arith) in
      let bare : any is_cut js ≡ false = uncut js before-exponents before-solidi in
      let last : any is_cut ks ≡ false = uncut ks behind-exponents behind-solidi in
      let integers : integer_places is ≤ 20 = search (and_left, and_right, leb→le) depth 6 in
      let decimals : decimal_places is ≤ 15 = search (and_left, and_right, leb→le) depth 6 in
      let behind : places_behind is ≤ 3 = search (and_left, and_right, leb→le) depth 6 in
      let point : any is_point ks ≡ false = sym (behind-any bare is_point (rw number-e)) ∙ r.no_point in
      let ranged = carry ranges-are h.ranges in
      let powers = carry (powers-one es (no-solidi is ((apart scientific_kind is h.items).solidi refl)).0 ∙ powers-are bare last point) (h.figures refl).1 in
      let fill = count-is is_fill (rw number-e) in
      let points = count-is is_point (rw number-e) in
      let front : Part scientific_kind scientific fs = record {
        items = before-held;
        exponents = before-exponents;
        solidi = before-solidi;
        some = omega (arith, r.integer, integers-are bare, places-counted js);
        ranges = search (and_left, and_right);
        fill = omega (arith, fill, h.fill);
        points = omega (arith, points, (h.figures refl).0);
        powers = search (and_left, and_right);
        integers = omega (arith, integers, integers-are bare);
        decimals = omega (arith, decimals, decimals-are bare);
      } in
      let back : Part scientific_kind scientific gs = record {
        items = behind-held;
        exponents = behind-exponents;
        solidi = behind-solidi;
        some = omega (arith, r.places, places-are bare);
        ranges = search (and_left, and_right);
        fill = omega (arith, fill, h.fill);
        points = omega (arith, points, (h.figures refl).0);
        powers = search (and_left, and_right);
        integers = omega (arith, behind, places-are bare, places-counted ks);
        decimals = omega (arith, behind, places-are bare, places-counted ks);
      } in
      let mantissa = part-number scientific_kind scientific fs front in
      let exponent = part-number scientific_kind scientific gs back in
      record {
        argument = search (and_left, and_right, eqb→eq);
        mantissa = mantissa.0;
        exponent = exponent.0;
        percents = (mantissa.1, exponent.1);
        integer = omega (arith, r.integer, integers-are bare);
        places = omega (arith, behind, places-are bare, places-counted ks);
        point = point;
        space = sym (behind-any bare is_space (rw number-e)) ∙ r.no_space;
        fill = omega (arith, fill, h.fill);
      }

  pub cut_in : Parts → T (scientific_items es)
  unfolding scientific_items exponent_fits kind_word
  cut_in p =
      let is = items_at es in
      let f = before-part p.mantissa p.percents.0 in
      let g = behind-part p.exponent p.percents.1 in
      let front = part-bare scientific_kind scientific fs f in
      let last = part-bare scientific_kind scientific gs g in
      let sign = (exponent-tag t a x).2 in
      let argument : T (eqb a 0) = true-T (eq-eqb a 0 p.argument) in
      let behind : places_behind is ≡ integer_places ks = places-are front ∙ sym (places-integers ks p.point last) in
      let exponents = exponents-are in
      let some : any is_exponent is ≡ true = sym (positive-count is_exponent is) ∙ lt-ltb 0 (count is_exponent is) (omega arith) in
      let one : count is_exponent is ≤ 1 = omega (arith, none-count is_exponent js f.exponents, none-count is_exponent ks g.exponents) in
      let integer : 1 ≤ integer_places is = omega (arith, integers-are front, p.integer) in
      let placed : 1 ≤ places_behind is = omega (arith, places-are front, g.some) in
      let no_point : T (not (any is_point (from_cut is))) = rw (behind-any front is_point (rw number-e), p.point) tt in
      let no_space : T (not (any is_space (from_cut is))) = rw (behind-any front is_space (rw number-e), p.space) tt in
      let integers : integer_places is ≤ 20 = omega (arith, f.integers, integers-are front) in
      let decimals : decimal_places is ≤ 15 = omega (arith, f.decimals, decimals-are front) in
      let places : places_behind is ≤ 3 = omega (arith, behind, p.places) in
      let rules : T (leb (count is_exponent is) 1 && leb 1 (integer_places is) && leb 1 (places_behind is) && not (any is_point (from_cut is)) && not (any is_space (from_cut is))) =
      search (and_in, le→leb) depth 8 in
      let held : T (every (item_allowed scientific_kind) is) = carry (sym held-are) (search and_in) in
      let solidi = (apart scientific_kind is held).solidi refl in
      let items : T (items_of 5 es) = holds-back scientific_kind es (record {
        items = held;
        made = true-T some;
        ranges = carry (sym ranges-are) (search and_in);
        fill = omega (arith, count-is is_fill (rw number-e), p.fill);
        general = λ e. no e;
        figures = λ e. (omega (arith, count-is is_point (rw number-e), f.points, none-count is_point ks p.point), carry (sym (powers-one es (no-solidi is solidi).0 ∙ powers-are front last p.point)) (search and_in));
        exponent = λ e. or_right (not (any is_exponent is)) _ rules;
        fraction = λ e. no e;
        dates = λ e. no e;
      }) in
      search (and_in, le→leb) depth 6

  -- ---- as they are tested
  abbrev parts_test : Bool
  parts_test = eqb a 0 && (exponent_items gs && (not (has_tag fs 3 && has_tag gs 3) && mantissa_items fs))

  tested-in : T parts_test → Parts
  unfolding mantissa_items exponent_items
  tested-in t =
      let mantissa : T (number_items fs) = search (and_left, and_right) depth 8 in
      let exponent : T (number_items gs) = search (and_left, and_right) depth 8 in
      let before : count is_percent js ≡ 0 = search (and_left, and_right, eqb→eq) depth 8 in
      let behind : count is_percent ks ≡ 0 = search (and_left, and_right, eqb→eq) depth 8 in
      let both : T (not (has_tag fs 3 && has_tag gs 3)) = search (and_left, and_right) depth 8 in
      record {
        argument = search (and_left, eqb→eq);
        mantissa = mantissa;
        exponent = exponent;
        percents = (before, behind);
        integer = search (and_left, and_right, leb→le) depth 8;
        places = search (and_left, and_right, leb→le) depth 8;
        point = not_so (any is_point ks) (search (and_left, and_right) depth 8);
        space = not_so (any is_space ks) (search (and_left, and_right) depth 8);
        fill = leb→le _ 1 (carry (filled_apart fs gs (before-part mantissa before).fill (behind-part exponent behind).fill) both);
      }

  tested-out : Parts → T parts_test
  unfolding mantissa_items exponent_items
  tested-out p =
      let argument : T (eqb a 0) = true-T (eq-eqb a 0 p.argument) in
      let before : T (eqb (count is_percent js) 0) = true-T (eq-eqb _ 0 p.percents.0) in
      let behind : T (eqb (count is_percent ks) 0) = true-T (eq-eqb _ 0 p.percents.1) in
      let point : T (not (any is_point ks)) = rw p.point tt in
      let space : T (not (any is_space ks)) = rw p.space tt in
      let fill = p.fill in
      let both : T (not (has_tag fs 3 && has_tag gs 3)) = carry (sym (filled_apart fs gs (omega arith) (omega arith))) (le→leb (count is_fill js + count is_fill ks) 1 fill) in
      let mantissa = p.mantissa in
      let exponent = p.exponent in
      let integer = p.integer in
      let places = p.places in
      search (and_in, le→leb) depth 8

  scientific-is : parts_test ≡ scientific_items es
  scientific-is = same_test parts_test (scientific_items es) (λ t. cut_in (tested-in t)) (λ t. tested-out (cut_out t))

  pub no-argument : (a ≡ 0 → ⊥) → scientific_items es ≡ false
  no-argument n = rw (ne_eqb a 0 n) at (sym scientific-is)

  pub no-exponent : exponent_items gs ≡ false → scientific_items es ≡ false
  no-exponent n = rw (n, and-false (eqb a 0)) at (sym scientific-is)

  pub both-filled : (has_tag fs 3 && has_tag gs 3) ≡ true → scientific_items es ≡ false
  both-filled n = rw (n, and-false (exponent_items gs), and-false (eqb a 0)) at (sym scientific-is)

  pub parts-told : a ≡ 0 → exponent_items gs ≡ true → (has_tag fs 3 && has_tag gs 3) ≡ false → (r : Option ScientificRow) → MantissaTold fs r → ScientificTold es r
  parts-told z b n = told
    where
      mantissa-is : mantissa_items fs ≡ scientific_items es
      mantissa-is = rw (eq-eqb a 0 z, b, n) at scientific-is

      told : (r : Option ScientificRow) → MantissaTold fs r → ScientificTold es r
      told None m = sym mantissa-is ∙ m
      told (Some r) m =
          let fits = sym mantissa-is ∙ m.fits in
          let p = cut_out (true-T fits) in
          record { fits = fits; decimals = m.decimals ∙ sym (decimals-are (part-bare scientific_kind scientific fs (before-part p.mantissa p.percents.0))) }

-- ---- the walk over either part
module _ (es : List Entry) where
  pub no-mantissa : number_items es ≡ false → mantissa_items es ≡ false
  unfolding mantissa_items
  no-mantissa f = rw f

  pub exponent-none : number_items es ≡ false → false ≡ exponent_items es
  unfolding exponent_items
  exponent-none f = rw f

module _ (es : List Entry) (n : NumberRow) (t : NumberCounts es n) where
  pub mantissa-refused : (not (eqb n.percents 0) || eqb n.integers 0) ≡ true → mantissa_items es ≡ false
  unfolding mantissa_items
  mantissa-refused e = rw (t.fits, ← t.percents, ← t.integers) (none (eqb n.percents 0) n.integers e)
    where
      none : (p : Bool) (i : ℕ) → (not p || eqb i 0) ≡ true → (p && leb 1 i) ≡ false
      none true i e = rw (eqb-true i 0 e)
      none false i e = refl

  pub mantissa-told : (not (eqb n.percents 0) || eqb n.integers 0) ≡ false → MantissaCounts es (record { decimals = n.decimals })
  unfolding mantissa_items
  mantissa-told e =
      let f = or-false (not (eqb n.percents 0)) (eqb n.integers 0) e in
      let some = eqb-false n.integers 0 f.1 in
      record { fits = rw (t.fits, ← t.percents, ← t.integers, not-false (eqb n.percents 0) f.0, le-leb 1 n.integers (omega arith)); decimals = t.decimals }

  abbrev first_test : Bool
  first_test = not (eqb n.percents 0) || ltb 3 n.integers

  exponent-told : (not first_test && (not (has_tag es 7) && not (has_tag es 6))) ≡ exponent_items es
  unfolding exponent_items
  exponent-told =
      rw (any-tagged is_point 7 (λ e. tag_is is_point 7 e refl (omega arith) refl) es, any-tagged is_space 6 (λ e. tag_is is_space 6 e refl (omega arith) refl) es, t.fits, ← t.percents, ← t.integers)
      (ap (λ (b : Bool). b && (not (has_tag es 7) && not (has_tag es 6))) (first (eqb n.percents 0) n.integers))
    where
      first : (p : Bool) (i : ℕ) → not (not p || ltb 3 i) ≡ (p && leb i 3)
      first true i = by_cases (leb i 3) (λ e. rw (e, le-ltb 3 i (leb-true i 3 e))) (λ e. rw (e, lt-ltb 3 i (leb-false i 3 e)))
      first false i = refl

  pub exponent-refused : first_test ≡ true → false ≡ exponent_items es
  exponent-refused e = rw e at exponent-told

  pub exponent-pointed : has_tag es 7 ≡ true → false ≡ exponent_items es
  exponent-pointed e = rw (e, and-false (not first_test)) at exponent-told

  pub exponent-spaced : first_test ≡ false → has_tag es 7 ≡ false → not (has_tag es 6) ≡ exponent_items es
  exponent-spaced e p = rw (e, p) at exponent-told

-- ---- without an E
exponent-tags : (e : Entry) → is_exponent (item_at e) ≡ (eqb e.tag 22 || eqb e.tag 23)
unfolding item_at
exponent-tags e =
    by_number is_exponent (λ (n : ℕ). eqb n 22 || eqb n 23) (items_by_tag e.argument) 26 (half (half_at e.argument)) refl
    (λ n h. sym (rw (ne_eqb n 22 (λ x. absurd (omega arith)), ne_eqb n 23 (λ x. absurd (omega arith))))) e.tag

pub none_told : (es : List Entry) → has_tag es 22 ≡ false → has_tag es 23 ≡ false → scientific_items es ≡ false
unfolding scientific_items items_at kind_word
none_told es p m =
    let none : any is_exponent (items_at es) ≡ false =
    any-map is_exponent item_at es ∙ any_same (λ (e : Entry). is_exponent (item_at e)) (λ (e : Entry). tagged 22 e || tagged 23 e) exponent-tags es
    ∙ any-either (tagged 22) (tagged 23) es ∙ rw (p, m) in
    by_cases (scientific_items es)
    (λ e. let made = (holds scientific_kind es (and_left (items_of 5 es) _ (true-T e))).made in absurd (carry none made))
    (λ e. e)
