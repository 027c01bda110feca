-- A fraction's items by those of its parts.
-- Assumes nothing.
use Prim.Native.Nat.{ℕ, suc, ◌+◌, ◌-◌, ◌≤◌, ◌<◌}
use native.Mathlib.Omega.{arith}
use mathlib.Core.Path.{◌≡◌, refl, sym, ◌∙◌, ap}
use mathlib.Core.Bool.{Bool, true, false, true≢false, not, ◌&&◌, ◌||◌}
use mathlib.Core.List.{List, [], ◌∷◌, ◌++◌, append_assoc}
use lib.ListN.{length, take, drop}
use lib.Seq.{take-append_seam, drop-append_seam}
use lib.Dec.{T, eqb, leb→le, le→leb, eqb→eq}
use borrow.Author.Tests.{eq-eqb, eqb-true, lt-ltb}
use Rattle.lists.specs.Lists.{every, any, count, is_empty}
use Rattle.lists.proofs.Bools.{no, and_left, and_right, and_in, or_right, or-false, by_cases, T_true, true-T, carry, same_test}
use Rattle.lists.proofs.Counts.{count-append, any_append, every-both, none-count, any-either, positive-count}
use Rattle.formats.specs.Items.{Item, solidus, fraction_kind, item_allowed, item_number, is_fill, is_place, is_point, is_percent, is_exponent, is_solidus, is_fixed, is_cut, before_cut, from_cut, integer_places, places_behind, end_places, before_end, numerator_items, whole_items, main_items, literal_follows, denominator_fits, fraction_fits}
use Rattle.formats.specs.Text.{first_of}
use Rattle.formats.proofs.Cutting.{integers-before, fraction-rules, none_passes}
use Rattle.tables.specs.Words.{Entry, entries_in}
use Rattle.tables.specs.Encode.{entry, kind_word}
use Rattle.tables.specs.Decode.{item_at, items_at}
use Rattle.tables.specs.Rules.{entry_in_range, powers_from, run_powers, powers_run_down}
use Rattle.tables.proofs.BackEntries.{items-length}
use Rattle.table_words.specs.Runs.{items_in, CutAt}
use Rattle.table_words.proofs.Cuts.{items-append, rest_all}
use Rattle.scans.proofs.Scanned.{tag_is, any-tagged}
use Rattle.tallies.specs.Tally.{makes_fraction, items_of}
use Rattle.number_rows.specs.NumberRows.{number_items}
use Rattle.scans.specs.Scans.{has_tag}
use Rattle.fraction_rows.specs.FractionRows.{fraction_items, whole_fits, fixed_fits, run_fits, parts_fit}
use Rattle.tallies.proofs.Held.{apart, no-solidi, uncut, powers-bare, Holds, holds, holds-back}
use Rattle.number_rows.proofs.Parts.{none-among, every-joined, count-beside, cut-here, powers-joined, filled_apart}
use Rattle.fraction_rows.proofs.FractionParts.{Piece, Whole, whole_in, whole_out, Behind, anew_of, behind-in, behind-out, number_in, number-out}

-- ---- the places at the end are places, and there is none where they are none
end-places : (is : List Item) → every is_place (end_places is) ≡ true
unfolding end_places every
end-places [] = refl
end-places (i ∷ is) = by_cases (every is_place (i ∷ is)) (λ e. rw (e, e)) (λ e. rw e (end-places is))

some-places : (is : List Item) → every is_place is ≡ true → is_empty is ≡ false → 0 < count is_place is
unfolding every is_empty count
some-places [] e n = absurd (true≢false n)
some-places (i ∷ is) e n = by_cases (is_place i) (λ p. rw p (omega arith)) (λ p. absurd (true≢false (sym (rw p at e))))

not-empty : (is : List Item) → 0 < count is_place is → is_empty is ≡ false
unfolding is_empty count
not-empty [] h = absurd (omega arith)
not-empty (i ∷ is) h = refl

either-none : (p : Item → Bool) (is js : List Item) → any p (is ++ js) ≡ false → (any p is ≡ false) × (any p js ≡ false)
either-none p is js e = or-false (any p is) (any p js) (sym (any_append p is js) ∙ e)

-- ---- the whole section: the items before the numerator, the numerator's, the solidus with its argument and the items behind it
module _ (ws ns ds : List Entry) (a : ℕ) (whole : items_at ws ≡ before_end (items_at (ws ++ ns))) (numerator : items_at ns ≡ end_places (items_at (ws ++ ns))) where
  abbrev e : Entry
  e = entry 24 a

  abbrev es : List Entry
  es = (ws ++ ns) ++ (e ∷ ds)

  abbrev is : List Item
  is = items_at es

  abbrev js : List Item
  js = items_at (ws ++ ns)

  abbrev ks : List Item
  ks = items_at ds

  joined : is ≡ js ++ (solidus ∷ ks)
  unfolding items_at item_at
  joined = items-append (ws ++ ns) (e ∷ ds)

  front : js ≡ items_at ws ++ items_at ns
  front = items-append ws ns

  -- what is counted and held
  count-is : (p : Item → Bool) → p solidus ≡ false → count p is ≡ count p (items_at ws) + count p (items_at ns) + count p ks
  count-is p n = ap (count p) joined ∙ count-beside p solidus js ks n ∙ rw front (omega (arith, count-append p (items_at ws) (items_at ns)))

  solidi-are : count is_solidus is ≡ count is_solidus js + suc (count is_solidus ks)
  unfolding count
  solidi-are = ap (count is_solidus) joined ∙ count-append is_solidus js (solidus ∷ ks)

  held-are : every (item_allowed fraction_kind) is ≡ ((every (item_allowed fraction_kind) (items_at ws) && every (item_allowed fraction_kind) (items_at ns)) && every (item_allowed fraction_kind) ks)
  unfolding item_allowed
  held-are =
      let f = item_allowed fraction_kind in
      ap (every f) joined ∙ every-joined f js ks solidus ∙ rw front (ap (λ (b : Bool). b && every f ks) (every-both f (items_at ws) (items_at ns)))

  ranges-are : every entry_in_range es ≡ ((every entry_in_range ws && every entry_in_range ns) && (eqb a 0 && every entry_in_range ds))
  unfolding entry_in_range item_at
  ranges-are =
      every-joined entry_in_range (ws ++ ns) ds e ∙ ap (λ (b : Bool). b && (eqb a 0 && every entry_in_range ds)) (every-both entry_in_range ws ns)

  some-solidus : any is_solidus is ≡ true
  some-solidus = sym (positive-count is_solidus is) ∙ lt-ltb 0 (count is_solidus is) (omega (arith, solidi-are))

  module _ (bare : any is_cut js ≡ false) where
    before : before_cut is ≡ js
    before = ap before_cut joined ∙ (cut-here solidus js ks refl bare).0

    from : from_cut is ≡ solidus ∷ ks
    from = ap from_cut joined ∙ (cut-here solidus js ks refl bare).1

    whole_is : whole_items is ≡ items_at ws
    unfolding whole_items
    whole_is = rw (some-solidus, before) (sym whole)

    numerator-is : numerator_items is ≡ items_at ns
    unfolding numerator_items
    numerator-is = rw before (sym numerator)

    main-is : main_items is ≡ items_at ns ++ (solidus ∷ ks)
    unfolding main_items
    main-is = rw (some-solidus, numerator-is, from)

    places-are : places_behind is ≡ count is_place ks
    unfolding places_behind count
    places-are = ap (count is_place) from

    bare-numerator : any is_cut (items_at ns) ≡ false
    bare-numerator = (either-none is_cut (items_at ws) (items_at ns) (rw front at bare)).1

    integers-are : integer_places (main_items is) ≡ integer_places (items_at ns)
    integers-are =
        ap integer_places main-is ∙ sym (integers-before (items_at ns ++ (solidus ∷ ks))) ∙ ap integer_places (cut-here solidus (items_at ns) ks refl bare-numerator).0

    -- the numerator's places and those behind the solidus each run down
    later : run_powers (ns ++ (e ∷ ds)) ≡ (run_powers ns && powers_from (anew_of ks) (anew_of ks) ds)
    unfolding run_powers places_behind item_at items_at count
    later =
        let items : items_at (ns ++ (e ∷ ds)) ≡ items_at ns ++ (solidus ∷ ks) = items-append ns (e ∷ ds) in
        let cut = cut-here solidus (items_at ns) ks refl bare-numerator in
        let integers : integer_places (items_at ns ++ (solidus ∷ ks)) ≡ integer_places (items_at ns) = sym (integers-before (items_at ns ++ (solidus ∷ ks))) ∙ ap integer_places cut.0 in
        rw (items, cut.1, integers)
        (powers-joined e ns ds (anew_of ks) (first_of (integer_places (items_at ns))) refl bare-numerator
        ∙ ap (λ (b : Bool). b && powers_from (anew_of ks) (anew_of ks) ds) (powers-bare _ _ (first_of (integer_places (items_at ns))) ns bare-numerator))

    powers-are : powers_run_down es ≡ (run_powers ws && (run_powers ns && powers_from (anew_of ks) (anew_of ks) ds))
    unfolding powers_run_down
    powers-are =
        let size : length (whole_items is) ≡ length ws = rw whole_is (items-length ws) in
        let same : es ≡ ws ++ (ns ++ (e ∷ ds)) = append_assoc ws ns (e ∷ ds) in
        rw (size, ap (take (length ws)) same ∙ take-append_seam ws (ns ++ (e ∷ ds)), ap (drop (length ws)) same ∙ drop-append_seam ws (ns ++ (e ∷ ds)))
        (ap (λ (b : Bool). run_powers ws && b) later)

  -- what the parts must be
  pub record Parts : Type 0 where
    pub argument : a ≡ 0
    pub numerators : T (number_items ns)
    pub wholes : Whole ws
    pub behind : Behind ds
    pub fill : count is_fill (items_at ws) + count is_fill ks ≤ 1

  -- the numerator has places only
  only : T (every is_place (items_at ns))
  only = true-T (ap (every is_place) numerator ∙ end-places (items_at (ws ++ ns)))

  only-places : (p : Item → Bool) → ((i : Item) → T (is_place i) → p i ≡ false) → any p (items_at ns) ≡ false
  only-places p f = none_passes p is_place f (items_at ns) only

  pub cut_out : T (fraction_items es) → Parts
  unfolding fraction_items kind_word
  cut_out t =
      let h : Holds fraction_kind es = holds fraction_kind es (and_left (items_of 6 es) _ t) in
      let r = fraction-rules is some-solidus (h.fraction refl) in
      let wholes : integer_places (whole_items is) ≤ 20 = search (and_left, and_right, leb→le) depth 6 in
      let numerators : integer_places (main_items is) ≤ 20 = search (and_left, and_right, leb→le) depth 6 in
      let places : places_behind is ≤ 3 = search (and_left, and_right, leb→le) depth 6 in
      let held = carry held-are h.items in
      let held_whole : T (every (item_allowed fraction_kind) (items_at ws)) = search (and_left, and_right) in
      let held-numerator : T (every (item_allowed fraction_kind) (items_at ns)) = search (and_left, and_right) in
      let held-behind : T (every (item_allowed fraction_kind) ks) = search (and_left, and_right) in
      let ranged = carry ranges-are h.ranges in
      let fills = count-is is_fill refl in
      let most = h.fill in
      let one = r.one in
      let solidi = solidi-are in
      let none-front : any is_solidus js ≡ false = none-among is_solidus js (omega arith) in
      let none-behind : any is_solidus ks ≡ false = none-among is_solidus ks (omega arith) in
      let exponents : any is_exponent js ≡ false = rw front (any_append is_exponent (items_at ws) (items_at ns) ∙ rw ((apart fraction_kind (items_at ws) held_whole).exponents refl, (apart fraction_kind (items_at ns) held-numerator).exponents refl)) in
      let bare : any is_cut js ≡ false = any-either is_exponent is_solidus js ∙ rw (exponents, none-front) in
      let fixed : any is_fixed js ≡ false = ap (any is_fixed) (sym (before bare)) ∙ r.no_fixed in
      let fractions : any makes_fraction (items_at ws ++ items_at ns) ≡ false = ap (any makes_fraction) (sym front) ∙ any-either is_solidus is_fixed js ∙ rw (none-front, fixed) in
      let apart-fractions = either-none makes_fraction (items_at ws) (items_at ns) fractions in
      let powers = carry (powers-are bare) (h.figures refl).1 in
      let some : 0 < count is_place (items_at ns) = some-places (items_at ns) (T_true (every is_place (items_at ns)) only) (ap is_empty (sym (numerator-is bare)) ∙ r.numerator) in
      let piece : Piece ns = record { items = held-numerator; ranges = search (and_left, and_right); fill = omega arith } in
      record {
        argument = search (and_left, and_right, eqb→eq);
        numerators = (number-out ns piece apart-fractions.1 some (search (and_left, and_right)) (omega (arith, integers-are bare))).0;
        wholes = record {
          piece = record { items = held_whole; ranges = search (and_left, and_right); fill = omega arith };
          solidi = apart-fractions.0;
          powers = search (and_left, and_right);
          integers = rw (← whole_is bare) wholes;
          literal = rw (← whole_is bare) r.literal;
        };
        behind = record {
          piece = record { items = held-behind; ranges = search (and_left, and_right); fill = omega arith };
          solidus = none-behind;
          powers = search (and_left, and_right);
          places = omega (arith, places-are bare);
          fits = rw (from bare) at r.denominator;
        };
        fill = omega arith;
      }

  pub cut_in : Parts → T (fraction_items es)
  unfolding fraction_items fraction_fits kind_word
  cut_in p =
      let w = p.wholes in
      let b = p.behind in
      let point = only-places is_point (λ i t. rw (eqb-true (item_number i) 3 (T_true (is_place i) t))) in
      let percent = only-places is_percent (λ i t. rw (eqb-true (item_number i) 3 (T_true (is_place i) t))) in
      let filler = only-places is_fill (λ i t. rw (eqb-true (item_number i) 3 (T_true (is_place i) t))) in
      let n = number_in ns p.numerators (none-count is_percent (items_at ns) percent) point in
      let exponents : any is_exponent js ≡ false = rw front (any_append is_exponent (items_at ws) (items_at ns) ∙ rw ((apart fraction_kind (items_at ws) w.piece.items).exponents refl, n.exponents)) in
      let fractions : any makes_fraction js ≡ false = rw front (any_append makes_fraction (items_at ws) (items_at ns) ∙ rw (w.solidi, n.solidi)) in
      let bare : any is_cut js ≡ false = uncut js exponents fractions in
      let argument : T (eqb a 0) = true-T (eq-eqb a 0 p.argument) in
      let held_whole = w.piece.items in
      let held-numerator = n.items in
      let held-behind = b.piece.items in
      let range-whole = w.piece.ranges in
      let range-numerator = n.ranges in
      let range-behind = b.piece.ranges in
      let power-whole = w.powers in
      let power-numerator = n.powers in
      let power-behind = b.powers in
      let held : T (every (item_allowed fraction_kind) is) = carry (sym held-are) (search and_in) in
      let a' = apart fraction_kind is held in
      let one : T (eqb (count is_solidus is) 1) = true-T (eq-eqb (count is_solidus is) 1 (omega (arith, solidi-are, none-count is_solidus js (no-solidi js fractions).0, none-count is_solidus ks b.solidus))) in
      let numerators : T (not (is_empty (numerator_items is))) = rw (numerator-is bare, not-empty (items_at ns) n.some) tt in
      let literal : T (literal_follows (whole_items is)) = rw (whole_is bare) w.literal in
      let fixed : T (not (any is_fixed (before_cut is))) = rw (before bare, (no-solidi js fractions).1) tt in
      let denominator : T (denominator_fits (drop 1 (from_cut is))) = rw (from bare) b.fits in
      let rules : T (eqb (count is_solidus is) 1 && not (is_empty (numerator_items is)) && literal_follows (whole_items is) && not (any is_fixed (before_cut is)) && denominator_fits (drop 1 (from_cut is))) =
      search and_in depth 8 in
      let items : T (items_of 6 es) = holds-back fraction_kind es (record {
        items = held;
        made = true-T (any-either is_solidus is_fixed is ∙ rw some-solidus);
        ranges = carry (sym ranges-are) (search and_in);
        fill = omega (arith, count-is is_fill refl, p.fill, none-count is_fill (items_at ns) filler);
        general = λ e. no e;
        figures = λ e. (omega (arith, none-count is_point is (a'.points refl)), carry (sym (powers-are bare)) (search and_in));
        exponent = λ e. no e;
        fraction = λ e. or_right (not (any is_solidus is || any is_fixed is)) _ rules;
        dates = λ e. no e;
      }) in
      let wholes : integer_places (whole_items is) ≤ 20 = rw (whole_is bare) w.integers in
      let mains : integer_places (main_items is) ≤ 20 = rw (integers-are bare) n.integers in
      let places : places_behind is ≤ 3 = rw (places-are bare) b.places in
      search (and_in, le→leb) depth 6

  -- ---- as they are tested
  tested-in : T (parts_fit ws ns a ds) → Parts
  tested-in t =
      let whole-fits : T (whole_fits ws) = search (and_left, and_right) depth 8 in
      let behind-fits : T (fixed_fits ds || run_fits ds) = search (and_left, and_right) depth 8 in
      let apart-filled : T (not (has_tag ws 3 && has_tag ds 3)) = search (and_left, and_right) depth 8 in
      let w = whole_in ws whole-fits in
      let b = behind-in ds behind-fits in
      record {
        argument = search (and_left, eqb→eq);
        numerators = search (and_left, and_right) depth 8;
        wholes = w;
        behind = b;
        fill = leb→le _ 1 (carry (filled_apart ws ds w.piece.fill b.piece.fill) apart-filled);
      }

  tested-out : Parts → T (parts_fit ws ns a ds)
  tested-out p =
      let argument : T (eqb a 0) = true-T (eq-eqb a 0 p.argument) in
      let numerators = p.numerators in
      let wholes = whole_out ws p.wholes in
      let behind = behind-out ds p.behind in
      let fill = p.fill in
      let both : T (not (has_tag ws 3 && has_tag ds 3)) = carry (sym (filled_apart ws ds (omega arith) (omega arith))) (le→leb (count is_fill (items_at ws) + count is_fill ks) 1 fill) in
      search and_in depth 8

  pub fraction-is : parts_fit ws ns a ds ≡ fraction_items es
  fraction-is = same_test (parts_fit ws ns a ds) (fraction_items es) (λ t. cut_in (tested-in t)) (λ t. tested-out (cut_out t))

-- ---- the words before a solidus, cut before the places at their end
pub parts-told : (words : List ℕ) (at a : ℕ) (ds : List Entry) → CutAt words at (before_end (items_in words)) (end_places (items_in words))
    → parts_fit (entries_in (take at words)) (entries_in (take (length words - at) (drop at words))) a ds ≡ fraction_items (entries_in words ++ (entry 24 a ∷ ds))
parts-told words at a ds c =
    rw (rest_all at words, c.joins)
    (fraction-is (entries_in (take at words)) (entries_in (drop at words)) ds a (rw c.joins at c.before) (rw c.joins at c.from))

-- ---- without a solidus
unsolid : (is : List Item) → any is_solidus is ≡ false → T (any makes_fraction is) → T (fraction_fits is) → ⊥
unfolding fraction_fits
unsolid is none made fits =
    let fixed : any is_fixed is ≡ true = sym (any-either is_solidus is_fixed is ∙ rw none) ∙ T_true (any makes_fraction is) made in
    let all : T (eqb (count is_solidus is) 1 && not (is_empty (numerator_items is)) && literal_follows (whole_items is) && not (any is_fixed (before_cut is)) && denominator_fits (drop 1 (from_cut is))) =
    rw (none, fixed) at fits in
    let one : count is_solidus is ≡ 1 = search (and_left, and_right, eqb→eq) depth 16 in
    omega (arith, none-count is_solidus is none)

pub none_told : (es : List Entry) → has_tag es 24 ≡ false → false ≡ fraction_items es
unfolding fraction_items kind_word
none_told es n =
    let none : any is_solidus (items_at es) ≡ false = any-tagged is_solidus 24 (λ e. tag_is is_solidus 24 e refl (omega arith) refl) es ∙ n in
    by_cases (fraction_items es)
    (λ e. let h = holds fraction_kind es (and_left (items_of 6 es) _ (true-T e)) in absurd (unsolid (items_at es) none h.made (h.fraction refl)))
    (λ e. sym e)
