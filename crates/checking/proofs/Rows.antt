-- The rules of a row as they are tested: what every head must pass, then what is left to test of a number section, of a scientific one and of another.
-- Assumes nothing.
use Prim.Native.Nat.{ℕ, ◌+◌, ◌*◌, ◌≤◌, ◌<◌}
use native.Mathlib.Omega.{arith}
use mathlib.Core.Path.{◌≡◌, refl, sym, ◌∙◌, ap}
use mathlib.Core.List.{List}
use mathlib.Core.Bool.{Bool, true, false, true≢false, cond, not, ◌&&◌, ◌||◌, and-true, and-false, and_comm}
use lib.Dec.{T, leb, ltb, eqb, leb→le, le→leb, ltb→lt, eqb→eq}
use borrow.Author.Tests.{eqb-true, eqb-false, eq-eqb, ne_eqb, lt-ltb, lt-leb, leb-false, not-true, not-false}
use Rattle.lists.specs.Lists.{every, any, count}
use Rattle.lists.proofs.Bools.{and_left, and_right, and_in, carry, same_test, by_cases, true-T}
use Rattle.lists.proofs.Counts.{every-weaker, none-count}
use Rattle.formats.specs.Items.{Item, Kind, date_kind, scientific_kind, fraction_kind, number_kind, same_kind, shows_places, kind_of, items_kind, item_allowed, item_in_range, is_place, is_percent, items_fit, integer_places, decimal_places, places_behind, whole_items, main_items}
use Rattle.formats.specs.Where.{implies}
use Rattle.formats.specs.Limits.{elapsed_short, fixed_small, section_within}
use Rattle.formats.specs.WellFormed.{one_fill, parts_follow, is_settled, grouping_fits, section_fits}
use Rattle.formats.proofs.Cutting.{bare-from, whole-none, main-all, no-decimals}
use Rattle.formats.proofs.Each.{by-item}
use Rattle.tables.specs.Words.{Head, Entry, Row}
use Rattle.tables.specs.Encode.{kind_word, has_half, decimals_word}
use Rattle.tables.specs.Decode.{whole_at, millionths_at, items_at, grouped_at, thousands_at, section_at}
use Rattle.tables.specs.Rules.{head_in_range, entry_in_range, row_in_range, condition_fits, powers_run_down, shift_tells, shift_fits, kind_fits, decimals_fit, row_fits}
use Rattle.tables.proofs.Ranges.{HeadRanges, head-ranges, head-in-ranges}
use Rattle.tables.proofs.Back.{RowFacts, row-facts}
use Rattle.tables.proofs.BackEntries.{items-ranged, span-at}
use Rattle.tables.proofs.Standing.{same_word, kind-most, number_word}
use Rattle.date_rows.specs.declared.DatedRow.{DatedRow}
use Rattle.number_rows.specs.declared.NumberRow.{NumberRow}
use Rattle.tallies.specs.Tally.{makes_fraction, sound_entries, items_of}
use Rattle.date_rows.specs.DateRows.{DateCounts}
use Rattle.number_rows.specs.NumberRows.{number_items, NumberCounts}
use Rattle.scientific_rows.specs.ScientificRows.{scientific_items}
use Rattle.fraction_rows.specs.FractionRows.{fraction_items}
use Rattle.tallies.proofs.Places.{places-counted}
use Rattle.tallies.proofs.Held.{takes_point, Apart, apart, no-dates, no-solidi, uncut}
use Rattle.tallies.proofs.Told.{places-word}
use Rattle.table_words.specs.declared.HeadWords.{HeadWords}
use Rattle.table_words.specs.Sections.{head_from}
use Rattle.checking.specs.Checking.{agree, condition_told, number_told, scientific_told, other_items, other_told, cut_told, row_with, half_fits, row_good}

-- ---- the words that every head must pass
abbrev none_test : Head → Bool
none_test h = implies (eqb h.operator 0) (eqb h.negative 0 && eqb (whole_at h) 0 && eqb (millionths_at h) 0)

abbrev sign_test : Head → Bool
sign_test h = implies (eqb (whole_at h) 0 && eqb (millionths_at h) 0) (eqb h.negative 0)

record Compared (h : Head) : Type 0 where
  operator : T (leb h.operator 6)
  negative : T (leb h.negative 1)
  whole : T (leb (whole_at h) 999999999)
  millionths : T (leb (millionths_at h) 999999)
  none : T (none_test h)
  sign : T (sign_test h)

compared : (h : Head) → T (condition_told h) → Compared h
unfolding condition_told
compared h t = search (and_left, and_right) depth 8

condition-out : (h : Head) → T (head_in_range h) → T (condition_fits h) → T (condition_told h)
unfolding condition_fits condition_told
condition-out h range fits =
    let r : HeadRanges h = head-ranges h range in
    let c : Compared h = record {
      operator = le→leb _ _ r.operator;
      negative = le→leb _ _ r.negative;
      whole = le→leb _ _ r.whole;
      millionths = le→leb _ _ r.millionths;
      none = and_left (none_test h) (sign_test h) fits;
      sign = and_right (none_test h) (sign_test h) fits;
    } in
    search and_in depth 8

-- what is known of a head behind these tests
pub record Front (h : Head) : Type 0 where
  pub items : h.items ≤ 254
  pub words : (h.whole_low < 65536) × (h.whole_high < 65536) × (h.millionths_low < 65536) × (h.millionths_high < 65536)
  pub colour : h.colour ≤ 56
  pub condition : condition_told h ≡ true

condition-in : (h : Head) → Front h → T (condition_fits h)
unfolding condition_fits
condition-in h f =
    let c : Compared h = compared h (true-T f.condition) in
    and_in (none_test h) (sign_test h) c.none c.sign

range-in : (h : Head) → Front h → h.kind ≤ 6 → h.shift ≤ 25 → h.flags ≤ 7 → h.decimals ≤ 15 → T (head_in_range h)
range-in h f k s g d =
    let c : Compared h = compared h (true-T f.condition) in
    head-in-ranges h (record {
      kind = k;
      colour = f.colour;
      operator = leb→le _ _ c.operator;
      negative = leb→le _ _ c.negative;
      whole_low = f.words.0;
      whole_high = f.words.1;
      whole = leb→le _ _ c.whole;
      millionths_low = f.words.2;
      millionths_high = f.words.3;
      millionths = leb→le _ _ c.millionths;
      shift = s;
      flags = g;
      decimals = d;
      items = f.items;
    })

-- ---- small laws
neither : (a b : Bool) → a ≡ false → b ≡ false → T (agree a b)
neither a b p q = rw (p, q) tt

not-either : (a b : Bool) → b ≡ false → T (agree a b) → a ≡ false
not-either true true e t = absurd (true≢false e)
not-either true false e t = absurd t
not-either false b e t = refl

or_left : (a b : Bool) → T a → T (a || b)
or_left true b t = tt
or_left false b t = absurd t

ungrouped : (g : Bool) → T (not g || false) → T (not g)
ungrouped true t = t
ungrouped false t = tt

-- neither grouping nor twelve-hour
few-flags : (flags : ℕ) → T (eqb flags 0 || eqb flags 2) → (flags < 4) × T (not (grouped_at flags))
unfolding grouped_at
few-flags flags t =
    by_cases (eqb flags 0) (λ e. rw (eqb-true flags 0 e) (omega arith, tt))
    (λ e. let two : flags ≡ 2 = eqb→eq flags 2 (rw e at t) in rw two (omega arith, tt))

no-other-flags : (flags : ℕ) → flags < 4 → T (not (grouped_at flags)) → T (eqb flags 0 || eqb flags 2)
unfolding grouped_at
no-other-flags flags h =
    span-at (λ (n : ℕ). T (not (grouped_at n)) → T (eqb n 0 || eqb n 2)) 0 4 flags ((λ t. tt), ((λ t. absurd t), ((λ t. tt), ((λ t. absurd t), tt)))) (omega arith) h

shift-most : (shift percents : ℕ) → T (shift_tells shift percents) → percents ≤ 5 → (shift ≤ 25) × T (leb (thousands_at shift percents) 5)
unfolding shift_tells
shift-most shift percents t m =
    let e : shift + 3 * thousands_at shift percents ≡ 15 + 2 * percents = search (and_right, eqb→eq) in
    (omega (arith, e, m), search and_left)

short-ranged : (i : Item) → T (item_in_range i) → T (elapsed_short i)
unfolding item_in_range elapsed_short
short-ranged =
    by-item (λ i. T (item_in_range i) → T (elapsed_short i)) (λ u t. tt) (λ u t. tt) (λ u t. tt) (λ p t. tt) (λ t. tt) (λ t. tt) (λ t. tt) (λ t. tt)
    (λ n t. tt) (λ n t. tt) (λ n t. tt) (λ n t. tt) (λ n t. tt) (λ n t. tt) (λ n t. tt) (λ e n t. and_right (leb 1 n) (leb n 9) t) (λ h t. tt) (λ m t. tt)
    (λ t. tt) (λ n t. tt)

small-ranged : (i : Item) → T (item_in_range i) → T (fixed_small i)
unfolding item_in_range fixed_small
small-ranged =
    by-item (λ i. T (item_in_range i) → T (fixed_small i)) (λ u t. tt) (λ u t. tt) (λ u t. tt) (λ p t. tt) (λ t. tt) (λ t. tt) (λ t. tt) (λ t. tt)
    (λ n t. tt) (λ n t. tt) (λ n t. tt) (λ n t. tt) (λ n t. tt) (λ n t. tt) (λ n t. tt) (λ e n t. tt) (λ h t. tt) (λ m t. tt)
    (λ t. tt) (λ n t. and_right (leb 1 n) (leb n 999) t)

-- ---- the rules for the items as facts
record ItemFacts (k : ℕ) (es : List Entry) : Type 0 where
  parts : T (parts_follow (items_at es))
  settled : T (is_settled (items_at es))
  powers : T (powers_run_down es)
  ranges : T (every entry_in_range es)
  kind : T (eqb k (kind_word (items_kind (items_at es))))
  items : T (items_fit (items_at es))
  fill : T (one_fill (items_at es))

item-facts : (k : ℕ) (es : List Entry) → T (items_of k es) → ItemFacts k es
unfolding items_of sound_entries
item-facts k es t = search (and_left, and_right) depth 8

module _ (h : Head) (es : List Entry) where
  abbrev is : List Item
  is = items_at es

  abbrev row : Row
  row = row_with h es

  items-out : RowFacts row → T (items_of h.kind es)
  unfolding items_of sound_entries kind_fits section_at kind_of
  items-out f =
      let kind : T (eqb h.kind (kind_word (items_kind is))) = f.kind in
      let items : T (items_fit is) = f.items in
      let parts : T (parts_follow is) = f.parts in
      let fill : T (one_fill is) = f.fill in
      let settled : T (is_settled is) = f.settled in
      let powers : T (powers_run_down es) = f.powers in
      let entries : T (every entry_in_range es) = f.entries in
      search and_in depth 8

  good-in : ItemFacts h.kind es → T (head_in_range h) → T (condition_fits h) → T (grouping_fits (section_at row)) → T (section_within (section_at row))
      → T (shift_fits row) → T (decimals_fit row) → T (half_fits row) → T (row_good row)
  unfolding row_good row_fits section_fits row_in_range kind_fits section_at kind_of
  good-in f range condition grouping within shift decimals half = search and_in depth 16

  -- ---- the words by whether the section is a number section
  module _ (b : Bool) (e : same_kind (items_kind is) number_kind ≡ b) where
    shift_by : shift_fits row ≡ cond b (shift_tells h.shift (count is_percent is)) (eqb h.shift 0)
    unfolding shift_fits section_at kind_of
    shift_by = rw e

    grouping-by : grouping_fits (section_at row) ≡ implies (grouped_at h.flags) (b && leb 2 (integer_places is))
    unfolding grouping_fits section_at kind_of
    grouping-by = rw e

    within_by : section_within (section_at row)
        ≡ (leb (integer_places (whole_items is)) 20 && leb (integer_places (main_items is)) 20 && leb (decimal_places is) 15 && leb (places_behind is) 3 && leb (count is_percent is) 5
        && leb (cond b (thousands_at h.shift (count is_percent is)) 0) 5 && every elapsed_short is && every fixed_small is)
    unfolding section_within section_at
    within_by = rw e

  decimals-by : (b : Bool) → shows_places (items_kind is) ≡ b → decimals_fit row ≡ eqb h.decimals (cond b (decimal_places is) 0)
  unfolding decimals_fit decimals_word section_at kind_of
  decimals-by b e = rw e

  module _ (f : ItemFacts h.kind es) where
    word : kind_word (items_kind is) ≡ h.kind
    word = sym (eqb→eq h.kind (kind_word (items_kind is)) f.kind)

    short : T (every elapsed_short is)
    short = every-weaker item_in_range elapsed_short short-ranged is (items-ranged es f.ranges)

    small : T (every fixed_small is)
    small = every-weaker item_in_range fixed_small small-ranged is (items-ranged es f.ranges)

    allowed : T (every (item_allowed (items_kind is)) is)
    unfolding items_fit
    allowed = let items = f.items in search and_left depth 6

    kept : Apart (items_kind is) is
    kept = apart (items_kind is) is allowed

    number-kind : h.kind ≡ 2 → same_kind (items_kind is) number_kind ≡ true
    number-kind e = sym (number_word (items_kind is)) ∙ eq-eqb (kind_word (items_kind is)) 2 (word ∙ e)

    other-kind : (h.kind ≡ 2 → ⊥) → same_kind (items_kind is) number_kind ≡ false
    other-kind n = sym (number_word (items_kind is)) ∙ ne_eqb (kind_word (items_kind is)) 2 (λ e. n (sym word ∙ e))

    -- whether its places show digits
    places-kind : shows_places (items_kind is) ≡ (eqb h.kind 2 || (eqb h.kind 5 || eqb h.kind 6))
    places-kind = sym (places-word (items_kind is)) ∙ ap (λ (n : ℕ). eqb n 2 || (eqb n 5 || eqb n 6)) word

    shown : (b : Bool) → (eqb h.kind 2 || (eqb h.kind 5 || eqb h.kind 6)) ≡ b → shows_places (items_kind is) ≡ b
    shown b e = places-kind ∙ e

    not-kind : (j : Kind) → (h.kind ≡ kind_word j → ⊥) → same_kind j (items_kind is) ≡ false
    not-kind j n = sym (same_word j (items_kind is)) ∙ ne_eqb (kind_word j) (kind_word (items_kind is)) (λ e. n (sym word ∙ sym e))

    none-half : (h.kind ≡ 4 → ⊥) → has_half is ≡ false
    unfolding kind_word
    none-half n = unfold has_half in (no-dates is (kept.dates (not-kind date_kind n))).1

    none-percent : (h.kind ≡ 2 → ⊥) → count is_percent is ≡ 0
    unfolding kind_word
    none-percent n = none-count is_percent is (kept.percents (not-kind number_kind n))

    none-placed : shows_places (items_kind is) ≡ false → (integer_places is ≡ 0) × (decimal_places is ≡ 0)
    none-placed e =
        let none = none-count is_place is (kept.places e) in
        let places = places-counted is in
        (omega (arith, none, places), omega (arith, none, places))

    -- a point stands in number and scientific sections only, a solidus in fractions only
    none-decimal : (h.kind ≡ 2 → ⊥) → (h.kind ≡ 5 → ⊥) → decimal_places is ≡ 0
    unfolding kind_word
    none-decimal k n =
        let other : takes_point (items_kind is) ≡ false = rw (not-kind number_kind k, not-kind scientific_kind n) in
        no-decimals is (kept.points other)

    module _ (s : h.kind ≡ 6 → ⊥) where
      none-solidus : any makes_fraction is ≡ false
      unfolding kind_word
      none-solidus = kept.solidi (not-kind fraction_kind s)

      none-whole : integer_places (whole_items is) ≡ 0
      unfolding integer_places
      none-whole = ap integer_places (whole-none is (no-solidi is none-solidus).0)

      wholes-few : T (leb (integer_places (whole_items is)) 20)
      wholes-few = rw none-whole tt

      main-places : integer_places (main_items is) ≡ integer_places is
      main-places = ap integer_places (main-all is (no-solidi is none-solidus).0)

      none-behind : (h.kind ≡ 5 → ⊥) → T (leb (places_behind is) 3)
      unfolding kind_word places_behind count
      none-behind n =
          rw (bare-from is (uncut is (kept.exponents (not-kind scientific_kind n)) none-solidus)) tt

  -- ---- a number section
  module _ (k : h.kind ≡ 2) where
    number_in : Front h → T (number_items es) → T (number_told h (integer_places is) (decimal_places is) (count is_percent is))
        → T (row_good row)
    unfolding number_items number_told half_fits
    number_in front items t =
        let f : ItemFacts h.kind es = rw k (item-facts 2 es (and_left (items_of 2 es) _ items)) in
        let number = number-kind f k in
        let integers : T (leb (integer_places is) 20) = search (and_left, and_right) depth 8 in
        let places : T (leb (decimal_places is) 15) = search (and_left, and_right) depth 8 in
        let whole : h.kind ≡ 6 → ⊥ = λ e. absurd (omega (arith, k, e)) in
        let wholes = wholes-few f whole in
        let mains : T (leb (integer_places (main_items is)) 20) = rw (main-places f whole) integers in
        let behind : T (leb (places_behind is) 3) = none-behind f whole (λ e. absurd (omega (arith, k, e))) in
        let percents : T (leb (count is_percent is) 5) = search (and_left, and_right) depth 8 in
        let shifted : T (shift_tells h.shift (count is_percent is)) = search and_left in
        let same : T (eqb h.decimals (decimal_places is)) = search (and_left, and_right) depth 8 in
        let flags : h.flags < 4 = search (and_left, and_right, ltb→lt) depth 8 in
        let grouping : T (not (grouped_at h.flags) || leb 2 (integer_places is)) = search and_right depth 8 in
        let most = shift-most h.shift (count is_percent is) shifted (leb→le (count is_percent is) 5 percents) in
        let thousands : T (leb (thousands_at h.shift (count is_percent is)) 5) = most.1 in
        let shorts = short f in
        let smalls = small f in
        let decimals : h.decimals ≤ 15 = omega (arith, eqb→eq h.decimals (decimal_places is) same, leb→le (decimal_places is) 15 places) in
        good-in f (range-in h front (omega (arith, k)) most.0 (omega arith) decimals) (condition-in h front) (carry (sym (grouping-by true number)) grouping)
        (carry (sym (within_by true number)) (search and_in depth 9)) (carry (sym (shift_by true number)) shifted)
        (carry (sym (decimals-by true (shown f true (rw k)))) same)
        (neither (leb 4 h.flags) (has_half is) (lt-leb 4 h.flags flags) (none-half f (λ e. absurd (omega (arith, k, e)))))

    number-out : RowFacts row → T (half_fits row)
        → T (number_items es) × T (number_told h (integer_places is) (decimal_places is) (count is_percent is))
    unfolding number_items number_told half_fits
    number-out r half =
        let held : T (items_of 2 es) = rw k at (items-out r) in
        let f = item-facts h.kind es (items-out r) in
        let number = number-kind f k in
        let limits = carry (within_by true number) r.within in
        let shifted : T (shift_tells h.shift (count is_percent is)) = carry (shift_by true number) r.shift in
        let mains : T (leb (integer_places (main_items is)) 20) = search (and_left, and_right) depth 10 in
        let integers : T (leb (integer_places is) 20) = rw (← main-places f (λ e. absurd (omega (arith, k, e)))) mains in
        let places : T (leb (decimal_places is) 15) = search (and_left, and_right) depth 10 in
        let percents : T (leb (count is_percent is) 5) = search (and_left, and_right) depth 10 in
        let same : T (eqb h.decimals (decimal_places is)) = carry (decimals-by true (shown f true (rw k))) r.decimals in
        let none = none-half f (λ e. absurd (omega (arith, k, e))) in
        let flags : T (ltb h.flags 4) = true-T (lt-ltb _ _ (leb-false 4 h.flags (not-either (leb 4 h.flags) (has_half is) none half))) in
        let grouping : T (not (grouped_at h.flags) || leb 2 (integer_places is)) = carry (grouping-by true number) r.grouping in
        (search and_in depth 8, search and_in depth 8)

  -- ---- a scientific section
  module _ (k : h.kind ≡ 5) where
    no-number-kind : h.kind ≡ 2 → ⊥
    no-number-kind e = absurd (omega (arith, k, e))

    no-fraction-kind : h.kind ≡ 6 → ⊥
    no-fraction-kind e = absurd (omega (arith, k, e))

    scientific-in : Front h → T (scientific_items es) → T (scientific_told h (decimal_places is)) → T (row_good row)
    unfolding scientific_items scientific_told half_fits
    scientific-in front items t =
        let f : ItemFacts h.kind es = rw k (item-facts 5 es (and_left (items_of 5 es) _ items)) in
        let other = other-kind f no-number-kind in
        let shift : T (eqb h.shift 0) = search and_left depth 8 in
        let integers : T (leb (integer_places is) 20) = search (and_left, and_right) depth 8 in
        let places : T (leb (decimal_places is) 15) = search (and_left, and_right) depth 8 in
        let wholes = wholes-few f no-fraction-kind in
        let mains : T (leb (integer_places (main_items is)) 20) = rw (main-places f no-fraction-kind) integers in
        let behind : T (leb (places_behind is) 3) = search (and_left, and_right) depth 8 in
        let percents : T (leb (count is_percent is) 5) = le→leb (count is_percent is) 5 (omega (arith, none-percent f no-number-kind)) in
        let same : T (eqb h.decimals (decimal_places is)) = search (and_left, and_right) depth 8 in
        let flags = few-flags h.flags (search and_right) in
        let shorts = short f in
        let smalls = small f in
        let decimals : h.decimals ≤ 15 = omega (arith, eqb→eq h.decimals (decimal_places is) same, leb→le (decimal_places is) 15 places) in
        good-in f (range-in h front (omega (arith, k)) (omega (arith, eqb→eq h.shift 0 shift)) (omega (arith, flags.0)) decimals) (condition-in h front)
        (carry (sym (grouping-by false other)) (or_left (not (grouped_at h.flags)) false flags.1))
        (carry (sym (within_by false other)) (search (and_in, le→leb) depth 9)) (carry (sym (shift_by false other)) shift)
        (carry (sym (decimals-by true (shown f true (rw k)))) same)
        (neither (leb 4 h.flags) (has_half is) (lt-leb 4 h.flags flags.0) (none-half f (λ e. absurd (omega (arith, k, e)))))

    scientific-out : RowFacts row → T (half_fits row) → T (scientific_items es) × T (scientific_told h (decimal_places is))
    unfolding scientific_items scientific_told half_fits
    scientific-out r half =
        let held : T (items_of 5 es) = rw k at (items-out r) in
        let f = item-facts h.kind es (items-out r) in
        let other = other-kind f no-number-kind in
        let limits = carry (within_by false other) r.within in
        let shift : T (eqb h.shift 0) = carry (shift_by false other) r.shift in
        let mains : T (leb (integer_places (main_items is)) 20) = search (and_left, and_right) depth 10 in
        let integers : T (leb (integer_places is) 20) = rw (← main-places f no-fraction-kind) mains in
        let places : T (leb (decimal_places is) 15) = search (and_left, and_right) depth 10 in
        let behind : T (leb (places_behind is) 3) = search (and_left, and_right) depth 10 in
        let same : T (eqb h.decimals (decimal_places is)) = carry (decimals-by true (shown f true (rw k))) r.decimals in
        let none = none-half f (λ e. absurd (omega (arith, k, e))) in
        let few : h.flags < 4 = leb-false 4 h.flags (not-either (leb 4 h.flags) (has_half is) none half) in
        let flags : T (eqb h.flags 0 || eqb h.flags 2) = no-other-flags h.flags few (ungrouped (grouped_at h.flags) (carry (grouping-by false other) r.grouping)) in
        (search and_in depth 8, search and_in depth 8)

  -- ---- another section
  module _ (k : h.kind ≡ 2 → ⊥) (n : h.kind ≡ 5 → ⊥) where
    -- it has no decimal place
    decimals-none : ItemFacts h.kind es → decimals_fit row ≡ eqb h.decimals 0
    decimals-none f =
        decimals-by (shows_places (items_kind is)) refl ∙ rw (none-decimal f k n) (by_cases (shows_places (items_kind is)) (λ e. rw e) (λ e. rw e))

    -- the limits of its places
    few-in : T (other_items h.kind es) → ItemFacts h.kind es × T (leb (integer_places (whole_items is)) 20) × T (leb (integer_places (main_items is)) 20) × T (leb (places_behind is) 3)
    unfolding other_items fraction_items
    few-in t =
        by_cases (eqb h.kind 6)
        (λ e. let six = eqb-true h.kind 6 e in
        let all : T (fraction_items es) = rw e at t in
        (rw six (item-facts 6 es (and_left (items_of 6 es) _ all)), search (and_left, and_right) depth 6, search (and_left, and_right) depth 6, search (and_left, and_right) depth 6))
        (λ e. let f = item-facts h.kind es (rw e at t) in
        let no_six = eqb-false h.kind 6 e in
        let none = none-placed f (shown f false (rw (ne_eqb h.kind 2 k, ne_eqb h.kind 5 n, e))) in
        (f, wholes-few f no_six, rw (main-places f no_six, none.0) tt, none-behind f no_six n))

    few-out : RowFacts row → T (other_items h.kind es)
    unfolding other_items fraction_items
    few-out r =
        let held = items-out r in
        let limits = carry (within_by false (other-kind (item-facts h.kind es held) k)) r.within in
        let wholes : T (leb (integer_places (whole_items is)) 20) = search (and_left, and_right) depth 10 in
        let mains : T (leb (integer_places (main_items is)) 20) = search (and_left, and_right) depth 10 in
        let behind : T (leb (places_behind is) 3) = search (and_left, and_right) depth 10 in
        by_cases (eqb h.kind 6)
        (λ e. let six : T (items_of 6 es) = rw (eqb-true h.kind 6 e) at held in rw e (search and_in depth 6))
        (λ e. rw e held)

    other-in : Front h → T (other_items h.kind es) → T (other_told h (has_half is)) → T (row_good row)
    unfolding other_told half_fits
    other-in front items t =
        let few = few-in items in
        let f = few.0 in
        let wholes = few.1 in
        let mains = few.2 in
        let behind = few.3 in
        let other = other-kind f k in
        let shift : T (eqb h.shift 0) = search and_left depth 6 in
        let decimals : T (eqb h.decimals 0) = search (and_left, and_right) depth 6 in
        let flags : h.flags ≤ 7 = search (and_left, and_right, leb→le) depth 6 in
        let plain : T (not (grouped_at h.flags)) = search (and_left, and_right) depth 6 in
        let places : T (leb (decimal_places is) 15) = le→leb (decimal_places is) 15 (omega (arith, none-decimal f k n)) in
        let percents : T (leb (count is_percent is) 5) = le→leb (count is_percent is) 5 (omega (arith, none-percent f k)) in
        let shorts = short f in
        let smalls = small f in
        good-in f
        (range-in h front (omega (arith, word f, kind-most (items_kind is))) (omega (arith, eqb→eq h.shift 0 shift)) flags (omega (arith, eqb→eq h.decimals 0 decimals)))
        (condition-in h front) (carry (sym (grouping-by false other)) (or_left (not (grouped_at h.flags)) false plain))
        (carry (sym (within_by false other)) (search (and_in, le→leb) depth 9)) (carry (sym (shift_by false other)) shift)
        (carry (sym (decimals-none f)) decimals) (search and_right)

    other-out : RowFacts row → T (half_fits row) → T (other_told h (has_half is))
    unfolding other_told half_fits
    other-out r half =
        let f = item-facts h.kind es (items-out r) in
        let other = other-kind f k in
        let shift : T (eqb h.shift 0) = carry (shift_by false other) r.shift in
        let decimals : T (eqb h.decimals 0) = carry (decimals-none f) r.decimals in
        let flags : T (leb h.flags 7) = le→leb _ _ (head-ranges h r.head).flags in
        let plain : T (not (grouped_at h.flags)) = ungrouped (grouped_at h.flags) (carry (grouping-by false other) r.grouping) in
        search and_in depth 6

  -- ---- the answers
  pub refused : (RowFacts row → T (condition_told h) → ⊥) → false ≡ row_good row
  unfolding row_good
  refused refuted =
      by_cases (row_good row)
      (λ e. let r = row-facts row (and_left (row_fits row) (half_fits row) (true-T e)) in
      absurd (refuted r (condition-out h r.head r.condition)))
      (λ e. sym e)

  row_number : h.kind ≡ 2 → Front h
      → (number_items es && number_told h (integer_places is) (decimal_places is) (count is_percent is)) ≡ row_good row
  unfolding row_good
  row_number k front =
      let told = number_told h (integer_places is) (decimal_places is) (count is_percent is) in
      same_test (number_items es && told) (row_good row)
      (λ t. number_in k front (and_left (number_items es) told t) (and_right (number_items es) told t))
      (λ t. let o = number-out k (row-facts row (and_left (row_fits row) (half_fits row) t)) (and_right (row_fits row) (half_fits row) t) in
      and_in (number_items es) told o.0 o.1)

  row-scientific : h.kind ≡ 5 → Front h → (scientific_items es && scientific_told h (decimal_places is)) ≡ row_good row
  unfolding row_good
  row-scientific k front =
      let told = scientific_told h (decimal_places is) in
      same_test (scientific_items es && told) (row_good row)
      (λ t. scientific-in k front (and_left (scientific_items es) told t) (and_right (scientific_items es) told t))
      (λ t. let o = scientific-out k (row-facts row (and_left (row_fits row) (half_fits row) t)) (and_right (row_fits row) (half_fits row) t) in
      and_in (scientific_items es) told o.0 o.1)

  row_other : (h.kind ≡ 2 → ⊥) → (h.kind ≡ 5 → ⊥) → Front h → (half : Bool) → (T (other_items h.kind es) → half ≡ has_half is)
      → (other_told h half && other_items h.kind es) ≡ row_good row
  unfolding row_good
  row_other k n front half same =
      let told : Bool → Bool = λ b. other_told h b in
      same_test (told half && other_items h.kind es) (row_good row)
      (λ t. let i = and_right (told half) (other_items h.kind es) t in
      other-in k n front i (carry (ap told (same i)) (and_left (told half) (other_items h.kind es) t)))
      (λ t. let r = row-facts row (and_left (row_fits row) (half_fits row) t) in
      let i = few-out k n r in
      and_in (told half) (other_items h.kind es) (carry (sym (ap told (same i))) (other-out k n r (and_right (row_fits row) (half_fits row) t))) i)

  other-answer : (h.kind ≡ 2 → ⊥) → (h.kind ≡ 5 → ⊥) → Front h → (half : Bool) → (T (other_items h.kind es) → half ≡ has_half is) → other_items h.kind es ≡ true
      → other_told h half ≡ row_good row
  other-answer k n front half same held = sym (and-true (other_told h half)) ∙ rw held at (row_other k n front half same)

  -- by what the items and the tests of the head answered
  pub no_number_lem : h.kind ≡ 2 → Front h → number_items es ≡ false → false ≡ row_good row
  no_number_lem k front e = rw e at (row_number k front)

  pub number-answer : h.kind ≡ 2 → Front h → (n : NumberRow) → NumberCounts es n
      → (r : Bool) → r ≡ number_told h n.integers n.decimals n.percents → r ≡ row_good row
  number-answer k front n t r told = told ∙ rw (t.integers, t.decimals, t.percents) (rw t.fits at (row_number k front))

  pub no-dated : h.kind ≡ 4 → items_of 4 es ≡ false → false ≡ row_good row
  no-dated k e = refused (λ r c. carry (ap (λ (x : ℕ). items_of x es) k ∙ e) (items-out r))

  pub dated-answer : h.kind ≡ 4 → Front h → (n : DatedRow) → DateCounts es n → (r : Bool) → r ≡ other_told h n.halves → r ≡ row_good row
  dated-answer k front n t r e =
      let held : other_items h.kind es ≡ true = unfold other_items in (ap (λ (x : ℕ). other_items x es) k ∙ t.fits) in
      e ∙ other-answer (λ x. absurd (omega (arith, k, x))) (λ x. absurd (omega (arith, k, x))) front n.halves (λ i. t.halves) held

  -- no kind has a number above 6
  no_kind : 6 < h.kind → items_of h.kind es ≡ false
  unfolding items_of
  no_kind m = let other = ne_eqb h.kind (kind_word (items_kind is)) (λ e. absurd (omega (arith, e, kind-most (items_kind is)))) in
      rw other (and-false (sound_entries es))

  cut-answer : 5 ≤ h.kind → Front h → cut_told h es ≡ row_good row
  unfolding cut_told other_items
  cut-answer m front =
      by_cases (eqb h.kind 5)
      (λ e. rw e (row-scientific (eqb-true h.kind 5 e) front))
      (λ e. let n = eqb-false h.kind 5 e in
      let k : h.kind ≡ 2 → ⊥ = λ x. absurd (omega (arith, m, x)) in
      let d : h.kind ≡ 4 → ⊥ = λ x. absurd (omega (arith, m, x)) in
      let whole = row_other k n front false (λ i. sym (none-half (few-in k n i).0 d)) in
      rw e
      (by_cases (eqb h.kind 6)
      (λ six. rw six (and_comm (fraction_items es) (other_told h false) ∙ (rw six at whole)))
      (λ six. rw six
      (sym (and-false (other_told h false)) ∙ (rw (six, no_kind (omega (arith, m, n, eqb-false h.kind 6 six))) at whole)))))

  -- a section that is neither cut nor a number's
  module _ (k : h.kind ≡ 2 → ⊥) (m : h.kind < 5) where
    no-five : h.kind ≡ 5 → ⊥
    no-five e = absurd (omega (arith, m, e))

    bare-items : items_of h.kind es ≡ other_items h.kind es
    unfolding other_items
    bare-items = rw (ne_eqb h.kind 6 (λ e. absurd (omega (arith, m, e))))

    pub no_bare : (b : Bool) → b ≡ items_of h.kind es → not b ≡ true → false ≡ row_good row
    no_bare b e x = refused (λ r c. carry (sym (e ∙ bare-items) ∙ not-true b x) (few-out k no-five r))

    -- only a date-time section has a half-day mark
    pub bare-answer : (h.kind ≡ 4 → ⊥) → Front h → (b : Bool) → b ≡ items_of h.kind es → not b ≡ false
        → (r : Bool) → r ≡ other_told h false → r ≡ row_good row
    bare-answer d front b e t r told =
        told ∙ other-answer k no-five front false (λ i. sym (none-half (few-in k no-five i).0 d)) (sym (e ∙ bare-items) ∙ not-false b t)

-- ---- the head as it was read
pub rowed : (h : HeadWords) (head : Head) (es : List Entry) (r : Bool) → head_from h ≡ head → r ≡ row_good (row_with (head_from h) es) → r ≡ row_good (row_with head es)
rowed h head es r e g = g ∙ ap (λ (x : Head). row_good (row_with x es)) e

pub cut-rowed : (h : HeadWords) (head : Head) (es : List Entry) (r : Bool) → head_from h ≡ head → 5 ≤ h.kind → Front (head_from h)
    → r ≡ cut_told head es → r ≡ row_good (row_with head es)
cut-rowed h head es r e m front told =
    told ∙ ap (λ (x : Head). cut_told x es) (sym e) ∙ rowed h head es _ e (cut-answer (head_from h) es m front)

-- what was tested of it before the items
pub front_of : (h : HeadWords) (head : Head) → head_from h ≡ head → head.items ≤ 254
    → (h.whole_low < 65536) × (h.whole_high < 65536) × (h.millionths_low < 65536) × (h.millionths_high < 65536)
    → h.colour ≤ 56 → condition_told (head_from h) ≡ true → Front (head_from h)
front_of h head e few words colour condition =
    record { items = omega (arith, ap (λ (x : Head). x.items) e); words = words; colour = colour; condition = condition }

-- what is tested of it behind them, where it is read again
module _ (h again : HeadWords) (head : Head) (e : head_from h ≡ head) (f : head_from again ≡ head) (r : Bool) where
  pub number-again : (i d p : ℕ) → r ≡ number_told (head_from again) i d p → r ≡ number_told (head_from h) i d p
  number-again i d p t = t ∙ ap (λ (x : Head). number_told x i d p) (f ∙ sym e)

  pub other-again : (half : Bool) → r ≡ other_told (head_from again) half → r ≡ other_told (head_from h) half
  other-again half t = t ∙ ap (λ (x : Head). other_told x half) (f ∙ sym e)
