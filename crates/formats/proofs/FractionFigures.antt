-- What a fraction section shows (R133, R135): the nearest fraction, and pieces that are read as its whole number, numerator and denominator.
-- Assumes nothing.
use mathlib.Core.Path.{◌≡◌, refl, sym, ap, ◌∙◌}
use Prim.Native.Nat.{ℕ, zero, suc, ◌-◌, ◌*◌, ◌/◌, ◌^◌, ◌≤◌, ◌<◌}
use native.Mathlib.Nat.{lt_of_lt_of_le, lt_of_le_of_lt, mod-lt}
use native.Mathlib.Omega.{arith}
use mathlib.Core.Bool.{Bool, true, false, cond, ◌&&◌, ◌||◌}
use mathlib.Core.List.{List, [], ◌∷◌, ◌++◌, append-nil, map}
use borrow.Author.Tests.{eqb-true}
use lib.Dec.{T, eqb, ltb→lt}
use lib.IntN.{nat_abs}
use lib.ListN.{length, drop}
use Rattle.values.specs.declared.Number.{Number}
use Rattle.values.specs.Ranges.{number_in_range}
use Rattle.lists.specs.Lists.{every, any, count}
use Rattle.lists.proofs.Bools.{by_cases, cond_both, cond-case, and_left, and_parts, T_true, or-false}
use Rattle.lists.proofs.Counts.{any_append, any-either, count-append, every-weaker}
use Rattle.figures.specs.Digits.{digit_units, numeral}
use Rattle.figures.specs.Rounding.{Magnitude}
use Rattle.figures.proofs.Tens.{ten-pos, ten-le}
use Rattle.figures.proofs.Digits.{digit-small}
use Rattle.fractions.specs.declared.Mixed.{Mixed}
use Rattle.fractions.specs.Fractions.{over, nearest_fraction, behind_point, fraction_of, unparted, mixed_exactly}
use Rattle.fractions.specs.Nearest.{NearestFraction, Carried}
use Rattle.fractions.proofs.Scan.{nearest-fraction, over-half, over-within, nearest-within}
use Rattle.fractions.proofs.Telling.{carry-keeps, TellsSmall, nearest-tells-small, over-tells-small}
use Rattle.formats.specs.Tokens.{is_digit}
use Rattle.formats.specs.Items.{Item, place, solidus, fixed, Section, is_place, is_point, is_solidus, is_fixed, is_cut, from_cut, integer_places, places_behind, start_places, behind_start, numerator_items, whole_items, main_items}
use Rattle.formats.specs.Choice.{number_exact}
use Rattle.formats.specs.Text.{item_units, along}
use Rattle.formats.specs.Reading.{fixed_in, fraction_for, is_parted, section_fraction, denominator_units}
use Rattle.formats.specs.Figures.{read_from, units_read, Counts, is_blank, is_below, units_of, NearestOver, FractionWritten, FractionOf}
use Rattle.formats.proofs.FigureUnits.{digit-test}
use Rattle.formats.proofs.Cutting.{whole-bare}
use Rattle.formats.proofs.FigureItems.{whole-read}
use Rattle.formats.proofs.GeneralFigures.{numeral-read}
use Rattle.formats.proofs.Pieces.{along-length, drop-front, units-front, units-join, units-none, units-all}
use Rattle.formats.proofs.FractionParts.{no-point, places-none, numerator-places, start-places, start-joins, Denominator, fixed_below, places_below, FractionItems}
use Rattle.formats.proofs.FractionPieces.{whole_pieces, blank_piece, blanks-spaces, end_with, denominator_pieces, denominator-length, denominator-text, denominator-read, denominator-plain, below_pieces, written_pieces, fraction_pieces}

-- ---- the fraction that is picked
module _ (is : List Item) (r : FractionItems is) (y : Magnitude) (pos : 0 < y.below) where
  some-denominator : any is_fixed is ≡ false → 1 ≤ 10 ^ places_behind is - 1
  some-denominator none = omega (arith, ten-le 1 (places_behind is) (r.some_below none))

  picked-nearest : any is_fixed is ≡ false → NearestFraction y (10 ^ places_behind is - 1) (fraction_for is y)
  unfolding fraction_for nearest_fraction
  picked-nearest none = rw none (nearest-fraction y pos (10 ^ places_behind is - 1) (some-denominator none))

  picked-over : any is_fixed is ≡ true → NearestOver y (fixed_in is) (fraction_for is y)
  unfolding fraction_for over
  picked-over some =
      let half = over-half y pos (fixed_in is) in
      rw some (record { over = refl; not_above = half.0; not_below = half.1 })

  picked-from : 1 ≤ (fraction_for is y).below
  unfolding fraction_for nearest_fraction over
  picked-from =
      by_cases (any is_fixed is) (λ e. rw e (r.range e).0)
      (λ e. rw e (nearest-fraction y pos (10 ^ places_behind is - 1) (some-denominator e)).from)

  picked-within : y.above ≤ y.below → (fraction_for is y).above ≤ (fraction_for is y).below
  unfolding fraction_for nearest_fraction over
  picked-within part =
      by_cases (any is_fixed is) (λ e. rw e (over-within y pos part (fixed_in is))) (λ e. rw e (nearest-within y pos part (10 ^ places_behind is - 1)))

-- ---- what is shown of it
-- units that are read as d, digits and spaces alone
abbrev Reads : ℕ → List ℕ → Type 0
Reads d us = Counts (units_read us) (d * 10 ^ 15) × T (every (λ (u : ℕ). is_digit u || is_blank u) us)

digits-plain : (k n : ℕ) → T (every (λ (u : ℕ). is_digit u || is_blank u) (digit_units k n))
unfolding digit_units every
digits-plain zero n = tt
digits-plain (suc k) n = rw (digit-test _ (digit-small n k)) (digits-plain k n)

fixed_reads : (n : ℕ) → n ≤ 999 → Reads n (numeral 1 n)
unfolding units_read read_from
fixed_reads n most =
    let read = rw (append-nil (numeral 1 n)) at (numeral-read n [] (lt_of_le_of_lt most (ten-le 3 25 (omega arith)))) in
    (rw read (omega arith), unfold numeral in digits-plain _ n)

below_none : (is : List Item) (ps : List (List ℕ)) → any is_place is ≡ false → any is_fixed is ≡ false → units_of is_below is ps ≡ []
below_none is ps no_place no_fixed = units-none is_below is ps (any-either is_place is_fixed is ∙ rw (no_place, no_fixed))

fixed-units : (d n : ℕ) (is : List Item) → any is_place is ≡ false → any is_fixed is ≡ false
    → units_of is_below (fixed n ∷ is) (below_pieces d (fixed n ∷ is)) ≡ numeral 1 n
unfolding units_of start_places behind_start along item_units end_with
fixed-units d n is no_place no_fixed = rw (below_none is _ no_place no_fixed) (append-nil (numeral 1 n))

places-units : (d : ℕ) (is : List Item) → any is_place (behind_start is) ≡ false → any is_fixed (behind_start is) ≡ false
    → units_of is_below is (below_pieces d is) ≡ denominator_units d (start_places is)
places-units d is no_place no_fixed =
    let js : List Item = start_places is in
    let ps : List (List ℕ) = denominator_pieces d js in
    let qs : List (List ℕ) = whole_pieces 0 (behind_start is) in
    ap (λ (ks : List Item). units_of is_below ks (ps ++ qs)) (sym (start-joins is))
    ∙ units-join is_below js (behind_start is) ps qs (denominator-length d js)
    ∙ ap (λ (us : List ℕ). units_of is_below js ps ++ us) (below_none (behind_start is) qs no_place no_fixed)
    ∙ append-nil (units_of is_below js ps)
    ∙ units-all is_below js ps (every-weaker is_place is_below (λ i t. rw (T_true (is_place i) t) tt) js (start-places is)) (denominator-length d js)
    ∙ denominator-text d js

below-reads : (d : ℕ) (is : List Item) → Denominator is → d ≤ 999 → count is_place is ≤ 3 → (any is_fixed is ≡ true → d ≡ fixed_in is)
    → Reads d (units_of is_below is (below_pieces d is))
unfolding any fixed_in start_places behind_start
below-reads d _ (fixed_below n is no_place no_fixed) small few same =
    let e : d ≡ n = same refl in
    rw (fixed-units d n is no_place no_fixed, e) (fixed_reads n (omega arith))
below-reads d _ (places_below p is no_place no_fixed) small few same =
    let js : List Item = start_places (place p ∷ is) in
    let none = (or-false (any is_fixed (start_places is)) (any is_fixed (behind_start is))
    (sym (any_append is_fixed (start_places is) (behind_start is)) ∙ ap (any is_fixed) (start-joins is) ∙ no_fixed)).1 in
    let fewer : count is_place js ≤ 20 = omega (arith, count-append is_place js (behind_start is), ap (count is_place) (start-joins (place p ∷ is))) in
    rw (places-units d (place p ∷ is) no_place none) (
      denominator-read d js (start-places (place p ∷ is)) (lt_of_le_of_lt small (ten-le 3 25 (omega arith))) fewer refl,
      denominator-plain d js (start-places (place p ∷ is)),
    )

-- a fraction that is written
module _ (is : List Item) (r : FractionItems is) (above d : ℕ) (small : above < 10 ^ 25) (few : d ≤ 999) (same : any is_fixed is ≡ true → d ≡ fixed_in is) where
  abbrev ns : List Item
  ns = numerator_items is

  abbrev ps : List (List ℕ)
  ps = whole_pieces above ns

  abbrev behind : List Item
  behind = r.parts.behind

  abbrev all : T (every is_place ns)
  all = numerator-places is

  numerator-length : length ps ≡ length ns
  numerator-length = along-length (item_units _) _ _ ns

  solidus-shown : units_of is_solidus (main_items is) (written_pieces above d is) ≡ 47 ∷ []
  unfolding units_of
  solidus-shown =
      let qs : List (List ℕ) = below_pieces d behind in
      rw (r.main, r.parts.from)
      (units-join is_solidus ns (solidus ∷ behind) ps ((47 ∷ []) ∷ qs) numerator-length
      ∙ rw (units-none is_solidus ns ps (places-none is_solidus (λ p. refl) ns all), units-none is_solidus behind qs r.one))

  below-shown : Reads d (units_of is_below (from_cut is) (drop (length ns) (written_pieces above d is)))
  unfolding units_of
  below-shown =
      rw (drop-front (length ns) ps ((47 ∷ []) ∷ below_pieces d (drop 1 (from_cut is))) numerator-length, r.parts.from)
      (below-reads d behind r.below few r.denominators (λ e. same (r.fixed_behind.0 ∙ e) ∙ r.fixed_behind.1))

  fraction-written : FractionWritten above d is (written_pieces above d is)
  fraction-written =
      record {
        numerator = rw (units-front (λ (i : Item). is_place i || is_point i) ns ps ((47 ∷ []) ∷ below_pieces d (drop 1 (from_cut is))) numerator-length)
            (whole-read above (integer_places ns) false ns small refl r.numerators (places-none is_point (λ p. refl) ns all)
            (places-none is_cut (λ p. refl) ns all) r.numerator);
        solidus = solidus-shown;
        denominator = below-shown.0;
        plain = below-shown.1;
      }

-- ---- a fraction section and a number in range
module _ (s : Section) (x : Number) where
  abbrev is : List Item
  is = s.items

  abbrev exact : Magnitude
  exact = (number_exact x).size

  -- what the fraction is picked for
  abbrev near : Magnitude
  near = cond (is_parted is) (behind_point exact) exact

  abbrev told : Mixed
  told = section_fraction s x

  module _ (rules : FractionItems is) (range : T (number_in_range x)) where
    exact-pos : 0 < exact.below
    unfolding number_exact
    exact-pos = ten-pos x.scale

    near-pos : 0 < near.below
    unfolding behind_point
    near-pos = cond_both (λ (m : Magnitude). 0 < m.below) (is_parted is) exact-pos exact-pos

    told-small : TellsSmall told
    unfolding section_fraction fraction_for number_exact fraction_of
    told-small =
        let small : nat_abs x.coefficient < 10 ^ 15 = search (and_left, ltb→lt) in
        by_cases (any is_fixed is)
        (λ e. rw e (over-tells-small (is_parted is) (nat_abs x.coefficient) x.scale small (fixed_in is) (rules.range e).0 (rules.range e).1))
        (λ e.
        rw e (nearest-tells-small (is_parted is) (nat_abs x.coefficient) x.scale small (places_behind is) (rules.some_below e)
        (omega (arith, rules.places, rules.denominators))))

    told-parted : is_parted is ≡ true → Carried (exact.above / exact.below) (fraction_for is near) told
    unfolding section_fraction fraction_of behind_point
    told-parted e =
        let y : Magnitude = behind_point exact in
        rw e (carry-keeps (exact.above / exact.below) (fraction_for is y) (picked-from is rules y exact-pos)
        (picked-within is rules y exact-pos (omega (arith, mod-lt exact.above exact-pos))))

    told-alone : is_parted is ≡ false → told ≡ unparted (fraction_for is near)
    unfolding section_fraction fraction_of
    told-alone e = rw e

    told_same : told.below ≡ (fraction_for is near).below
    unfolding unparted
    told_same = by_cases (is_parted is) (λ e. (told-parted e).same) (λ e. ap (λ (m : Mixed). m.below) (told-alone e))

    told_fixed : any is_fixed is ≡ true → told.below ≡ fixed_in is
    told_fixed e = told_same ∙ (picked-over is rules near near-pos e).over

    -- what the pieces show, where nought has no added minus
    pub fraction-of : (added : Bool) → (told.whole ≡ 0 → told.above ≡ 0 → added ≡ false) → FractionOf exact is added (mixed_exactly exact told) (fraction_pieces told is)
    unfolding is_parted mixed_exactly
    fraction-of added unsigned =
        let small : told.whole < 10 ^ 16 = omega (arith, told-small.whole) in
        let ws : List Item = whole_items is in
        let ps : List (List ℕ) = whole_pieces told.whole ws in
        let blanks : List (List ℕ) = map blank_piece (main_items is) in
        let qs : List (List ℕ) = cond (is_parted is && eqb told.above 0) blanks (written_pieces told.above told.below is) in
        let all : length ps ≡ length ws = along-length (item_units _) _ _ ws in
        let behind : drop (length ws) (ps ++ qs) ≡ qs = drop-front (length ws) ps qs all in
        record {
          fraction = fraction_for is near;
          nearest = picked-nearest is rules near near-pos;
          nearest_over = picked-over is rules near near-pos;
          shown = told;
          parted = told-parted;
          alone = told-alone;
          integer = λ some. rw (units-front (λ (i : Item). is_place i || is_point i) ws ps qs all)
              (whole-read told.whole (integer_places ws) false ws (lt_of_lt_of_le small (ten-le 16 25 (omega arith))) refl rules.integers
              (no-point ws rules.whole_held) (whole-bare is) some);
          blank = λ parted none. rw (behind, parted, none) (blanks-spaces (main_items is) rules.main_held);
          written = λ some. rw behind
              (cond-case (FractionWritten told.above told.below is) (is_parted is && eqb told.above 0)
              (λ e.
              let both = and_parts (is_parted is) (eqb told.above 0) e in
              absurd (omega (arith, some both.0, eqb-true told.above 0 both.1)))
              (λ e.
              fraction-written is rules told.above told.below (lt_of_lt_of_le told-small.above (ten-le 18 25 (omega arith))) told-small.up_to told_fixed));
          no_minus_at_nought = unsigned;
          exactly = refl;
        }
