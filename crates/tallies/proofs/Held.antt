-- What a section of a kind holds: the rules for its items as facts, without those that hold by its kind.
-- Assumes nothing.
use Prim.Native.Nat.{ℕ, ◌-◌, ◌≤◌}
use native.Mathlib.Omega.{arith}
use mathlib.Core.Path.{◌≡◌, refl, sym, ◌∙◌, ap}
use mathlib.Core.Bool.{Bool, true, false, true≢false, cond, not, ◌&&◌, ◌||◌, and-true}
use mathlib.Core.List.{List, [], ◌∷◌}
use lib.Dec.{T, eqb, leb→le, le→leb, eqb→eq}
use borrow.Author.Tests.{eq-eqb}
use Rattle.lists.specs.Lists.{every, any, count}
use Rattle.lists.proofs.Bools.{and_left, and_right, and_in, or-false, by_cases, T_true, true-T, carry}
use Rattle.lists.proofs.Counts.{any_same, every-same, any-either, every-and, every-not-beside, none-count}
use Rattle.formats.specs.Items.{Item, Kind, kind_row, text_kind, general_kind, date_kind, scientific_kind, fraction_kind, number_kind, literal_kind, same_kind, shows_places, kind_from, item_makes, items_kind, item_allowed, item_number, is_fill, is_place, is_point, is_percent, is_general, is_month, is_minute, is_part, is_elapsed, is_half, is_exponent, is_solidus, is_fixed, is_cut, exponent_fits, fraction_fits, no_plain, items_fit, Run, no_run, settled_item}
use Rattle.formats.specs.WellFormed.{one_fill, parts_from, parts_follow, settled_test, is_settled, is_seconds}
use Rattle.formats.specs.Text.{digit_after, along}
use Rattle.formats.proofs.Each.{by-item, by_kind}
use Rattle.formats.proofs.Cutting.{makes-exponent, whole-none}
use Rattle.formats.proofs.FigureItems.{makes-place}
use Rattle.tables.specs.Words.{Entry}
use Rattle.tables.specs.Encode.{kind_word}
use Rattle.tables.proofs.Standing.{same_word}
use Rattle.tables.specs.Decode.{item_at, items_at}
use Rattle.tables.specs.Rules.{entry_in_range, power_fits, all_of, powers_from, run_powers, powers_run_down}
use Rattle.tallies.specs.Tally.{makes_text, makes_date, makes_fraction, belongs_date, sound_entries, items_of}

-- ---- the kind of items by what is among them
makes-general : (i : Item) → item_makes general_kind i ≡ is_general i
unfolding item_makes
makes-general =
    by-item (λ i. item_makes general_kind i ≡ is_general i) (λ u. refl) (λ u. refl) (λ u. refl) (λ p. refl) refl refl refl refl
    (λ n. refl) (λ n. refl) (λ n. refl) (λ n. refl) (λ n. refl) (λ n. refl) (λ n. refl) (λ e n. refl) (λ h. refl) (λ m. refl)
    refl (λ n. refl)

makes-fraction : (i : Item) → item_makes fraction_kind i ≡ makes_fraction i
unfolding item_makes
makes-fraction =
    by-item (λ i. item_makes fraction_kind i ≡ makes_fraction i) (λ u. refl) (λ u. refl) (λ u. refl) (λ p. refl) refl refl refl refl
    (λ n. refl) (λ n. refl) (λ n. refl) (λ n. refl) (λ n. refl) (λ n. refl) (λ n. refl) (λ e n. refl) (λ h. refl) (λ m. refl)
    refl (λ n. refl)

abbrev pub kind_by : Bool → Bool → Bool → Bool → Bool → Bool → Kind
kind_by t g d x s n =
    cond t text_kind (cond g general_kind (cond d date_kind (cond x scientific_kind (cond s fraction_kind (cond n number_kind literal_kind)))))

pub kind-is : (is : List Item)
    → items_kind is ≡ kind_by (any makes_text is) (any is_general is) (any makes_date is) (any is_exponent is) (any makes_fraction is) (any is_place is)
unfolding items_kind kind_from
kind-is is =
    rw (
      any_same (item_makes general_kind) is_general makes-general is,
      any_same (item_makes scientific_kind) is_exponent makes-exponent is,
      any_same (item_makes fraction_kind) makes_fraction makes-fraction is,
      any_same (item_makes number_kind) is_place makes-place is,
    )

-- what makes a section of the kind
abbrev pub made_by : Kind → Bool → Bool → Bool → Bool → Bool → Bool → Bool
made_by text_kind t g d x s n = t
made_by general_kind t g d x s n = g
made_by date_kind t g d x s n = d
made_by scientific_kind t g d x s n = x
made_by fraction_kind t g d x s n = s
made_by number_kind t g d x s n = n
made_by literal_kind t g d x s n = true

made_by_lem : (t g d x s n : Bool) → T (made_by (kind_by t g d x s n) t g d x s n)
made_by_lem true g d x s n = tt
made_by_lem false true d x s n = tt
made_by_lem false false true x s n = tt
made_by_lem false false false true s n = tt
made_by_lem false false false false true n = tt
made_by_lem false false false false false true = tt
made_by_lem false false false false false false = tt

abbrev pub is_made : Kind → List Item → Bool
is_made k is = made_by k (any makes_text is) (any is_general is) (any makes_date is) (any is_exponent is) (any makes_fraction is) (any is_place is)

-- ---- no item belongs to another kind
-- the kinds with a point
abbrev pub takes_point : Kind → Bool
takes_point k = same_kind number_kind k || same_kind scientific_kind k

-- an item is there that only sections of some kinds hold, where this one is of such a kind or not
abbrev held : Bool → Bool → Bool
held same some = not (some && not same)

abbrev pub allowed_by : Kind → Bool → Bool → Bool → Bool → Bool → Bool → Bool → Bool → Bool
allowed_by k T G D F Q P X S =
    held (same_kind text_kind k) T
    && (held (same_kind general_kind k) G
    && (held (same_kind date_kind k) D
    && (held (shows_places k) F
    && (held (takes_point k) Q
    && (held (same_kind number_kind k) P && (held (same_kind scientific_kind k) X && held (same_kind fraction_kind k) S))))))

twice : (b : Bool) → b ≡ not (not b)
twice true = refl
twice false = refl

abbrev AllowedOne : Kind → Item → Type 0
AllowedOne k i =
    item_allowed k i ≡ allowed_by k (makes_text i) (is_general i) (belongs_date i) (is_place i) (is_point i) (is_percent i) (is_exponent i) (makes_fraction i)

allowed-one : (k : Kind) (i : Item) → AllowedOne k i
unfolding item_allowed item_makes
allowed-one k =
    let once : (b : Bool) → b ≡ (not (not b) && true) = λ b. twice b ∙ sym (and-true (not (not b))) in
    let date : same_kind date_kind k ≡ (not (not (same_kind date_kind k)) && true) = once (same_kind date_kind k) in
    by-item (AllowedOne k) (λ u. refl) (λ u. refl) (λ u. refl)
    (λ p. once (shows_places k)) (once (takes_point k)) (once (same_kind number_kind k)) (once (same_kind general_kind k)) (once (same_kind text_kind k))
    (λ n. date) (λ n. date) (λ n. date) (λ n. date) (λ n. date) (λ n. date) (λ n. date) (λ e n. date) (λ h. date) (λ m. once (same_kind scientific_kind k))
    (twice (same_kind fraction_kind k)) (λ n. twice (same_kind fraction_kind k))

pub allowed-every : (k : Kind) (is : List Item)
    → every (item_allowed k) is
    ≡ allowed_by k (any makes_text is) (any is_general is) (any belongs_date is) (any is_place is) (any is_point is) (any is_percent is) (any is_exponent is) (any makes_fraction is)
allowed-every k is =
    let one : Bool → (Item → Bool) → Item → Bool = λ (same : Bool) (p : Item → Bool) (i : Item). held same (p i) in
    let beside : (same : Bool) (p : Item → Bool) → every (one same p) is ≡ held same (any p is) = λ same p. every-not-beside p (not same) is in
    let T = one (same_kind text_kind k) makes_text in
    let G = one (same_kind general_kind k) is_general in
    let D = one (same_kind date_kind k) belongs_date in
    let F = one (shows_places k) is_place in
    let Q = one (takes_point k) is_point in
    let P = one (same_kind number_kind k) is_percent in
    let X = one (same_kind scientific_kind k) is_exponent in
    let S = one (same_kind fraction_kind k) makes_fraction in
    every-same (item_allowed k) (λ (i : Item). T i && (G i && (D i && (F i && (Q i && (P i && (X i && S i))))))) (allowed-one k) is
    ∙ every-and T (λ (i : Item). G i && (D i && (F i && (Q i && (P i && (X i && S i)))))) is
    ∙ rw (
      every-and G (λ (i : Item). D i && (F i && (Q i && (P i && (X i && S i))))) is,
      every-and D (λ (i : Item). F i && (Q i && (P i && (X i && S i)))) is,
      every-and F (λ (i : Item). Q i && (P i && (X i && S i))) is,
      every-and Q (λ (i : Item). P i && (X i && S i)) is,
      every-and P (λ (i : Item). X i && S i) is,
      every-and X S is,
      beside (same_kind text_kind k) makes_text,
      beside (same_kind general_kind k) is_general,
      beside (same_kind date_kind k) belongs_date,
      beside (shows_places k) is_place,
      beside (takes_point k) is_point,
      beside (same_kind number_kind k) is_percent,
      beside (same_kind scientific_kind k) is_exponent,
      beside (same_kind fraction_kind k) makes_fraction,
    )

none-foreign : (some same : Bool) → T (held same some) → same ≡ false → some ≡ false
none-foreign true true t e = absurd (true≢false e)
none-foreign true false t e = absurd t
none-foreign false same t e = refl

-- no item is there that only another kind holds
pub record Apart (k : Kind) (is : List Item) : Type 0 where
  pub texts : same_kind text_kind k ≡ false → any makes_text is ≡ false
  pub generals : same_kind general_kind k ≡ false → any is_general is ≡ false
  pub dates : same_kind date_kind k ≡ false → any belongs_date is ≡ false
  pub places : shows_places k ≡ false → any is_place is ≡ false
  pub points : takes_point k ≡ false → any is_point is ≡ false
  pub percents : same_kind number_kind k ≡ false → any is_percent is ≡ false
  pub exponents : same_kind scientific_kind k ≡ false → any is_exponent is ≡ false
  pub solidi : same_kind fraction_kind k ≡ false → any makes_fraction is ≡ false

pub apart : (k : Kind) (is : List Item) → T (every (item_allowed k) is) → Apart k is
apart k is t =
    let all = carry (allowed-every k is) t in
    record {
      texts = none-foreign (any makes_text is) _ (search and_left);
      generals = none-foreign (any is_general is) _ (search (and_left, and_right) depth 10);
      dates = none-foreign (any belongs_date is) _ (search (and_left, and_right) depth 10);
      places = none-foreign (any is_place is) _ (search (and_left, and_right) depth 10);
      points = none-foreign (any is_point is) _ (search (and_left, and_right) depth 10);
      percents = none-foreign (any is_percent is) _ (search (and_left, and_right) depth 10);
      exponents = none-foreign (any is_exponent is) _ (search (and_left, and_right) depth 10);
      solidi = none-foreign (any makes_fraction is) _ (search (and_left, and_right) depth 10);
    }

-- neither a solidus nor a fixed number; neither of them and no E
pub no-solidi : (is : List Item) → any makes_fraction is ≡ false → (any is_solidus is ≡ false) × (any is_fixed is ≡ false)
no-solidi is e = or-false (any is_solidus is) (any is_fixed is) (sym (any-either is_solidus is_fixed is) ∙ e)

pub uncut : (is : List Item) → any is_exponent is ≡ false → any makes_fraction is ≡ false → any is_cut is ≡ false
uncut is x e = any-either is_exponent is_solidus is ∙ rw (x, (no-solidi is e).0)

pub no_fraction : (is : List Item) → any makes_fraction is ≡ false → fraction_fits is ≡ true
unfolding fraction_fits
no_fraction is e = let n = no-solidi is e in rw (n.0, n.1)

-- neither a date item, a half-day mark nor a part of a second
pub no-dates : (is : List Item) → any belongs_date is ≡ false → (any makes_date is ≡ false) × (any is_half is ≡ false)
no-dates is e =
    let apart = or-false (any makes_date is) _ (sym (any-either makes_date (λ (i : Item). is_half i || is_part i) is) ∙ e) in
    (apart.0, (or-false (any is_half is) _ (sym (any-either is_half is_part is) ∙ apart.1)).0)

-- ---- the kind
pub same_kind_lem : (j k : Kind) → T (same_kind j k) → j ≡ k
same_kind_lem j k t = sym (back j) ∙ ap numbered (eqb→eq (kind_row j).number (kind_row k).number t) ∙ back k
  where
    numbered : ℕ → Kind
    numbered n = cond (eqb n 0) text_kind (cond (eqb n 1) general_kind (cond (eqb n 2) date_kind (cond (eqb n 3) scientific_kind (cond (eqb n 4) fraction_kind (cond (eqb n 5) number_kind literal_kind)))))

    back : (k : Kind) → numbered (kind_row k).number ≡ k
    back = by_kind (λ (k : Kind). numbered (kind_row k).number ≡ k) refl refl refl refl refl refl refl

kind-held : (k : Kind) (is : List Item) → Apart k is → T (is_made k is)
    → kind_by (any makes_text is) (any is_general is) (any makes_date is) (any is_exponent is) (any makes_fraction is) (any is_place is) ≡ k
kind-held text_kind is a m = rw (T_true (any makes_text is) m)
kind-held general_kind is a m = rw (a.texts refl, T_true (any is_general is) m)
kind-held date_kind is a m = rw (a.texts refl, a.generals refl, T_true (any makes_date is) m)
kind-held scientific_kind is a m = rw (a.texts refl, a.generals refl, (no-dates is (a.dates refl)).0, T_true (any is_exponent is) m)
kind-held fraction_kind is a m =
    rw (a.texts refl, a.generals refl, (no-dates is (a.dates refl)).0, a.exponents refl, T_true (any makes_fraction is) m)
kind-held number_kind is a m =
    rw (a.texts refl, a.generals refl, (no-dates is (a.dates refl)).0, a.exponents refl, a.solidi refl, T_true (any is_place is) m)
kind-held literal_kind is a m =
    rw (a.texts refl, a.generals refl, (no-dates is (a.dates refl)).0, a.exponents refl, a.solidi refl, a.places refl)

-- ---- what only a date-time section must keep
pub record Dated (is : List Item) : Type 0 where
  pub parts : T (parts_follow is)
  pub settled : T (is_settled is)
  pub elapsed : count is_elapsed is ≤ 1
  pub plain : T (every (no_plain is) is)

undated-item : (i : Item) → belongs_date i ≡ false → (is_part i ≡ false) × (is_elapsed i ≡ false) × ((is_month i || is_minute i) ≡ false)
unfolding item_makes
undated-item =
    by-item (λ i. belongs_date i ≡ false → (is_part i ≡ false) × (is_elapsed i ≡ false) × ((is_month i || is_minute i) ≡ false))
    (λ u e. (refl, refl, refl)) (λ u e. (refl, refl, refl)) (λ u e. (refl, refl, refl)) (λ p e. (refl, refl, refl))
    (λ e. (refl, refl, refl)) (λ e. (refl, refl, refl)) (λ e. (refl, refl, refl)) (λ e. (refl, refl, refl))
    (λ n e. absurd (true≢false e)) (λ n e. absurd (true≢false e)) (λ n e. absurd (true≢false e)) (λ n e. absurd (true≢false e)) (λ n e. absurd (true≢false e))
    (λ n e. absurd (true≢false e)) (λ n e. absurd (true≢false e)) (λ d n e. absurd (true≢false e)) (λ h e. absurd (true≢false e)) (λ m e. (refl, refl, refl))
    (λ e. (refl, refl, refl)) (λ n e. (refl, refl, refl))

none-front : (p : Item → Bool) (i : Item) (is : List Item) → any p (i ∷ is) ≡ false → (p i ≡ false) × (any p is ≡ false)
unfolding any
none-front p i is e = by_cases (p i) (λ h. absurd (true≢false (rw h at e))) (λ h. (h, rw h at e))

-- a test of an earlier item, an earlier run, all items
undated-tests : (b : Bool) (r : Run) (all is : List Item) → any belongs_date is ≡ false
    → T (parts_from b is) × T (settled_test r is) × (count is_elapsed is ≡ 0) × T (every (no_plain all) is)
unfolding parts_from settled_test settled_item no_plain every count
undated-tests b r all [] e = (tt, tt, refl, tt)
undated-tests b r all (i ∷ is) e =
    let f = none-front belongs_date i is e in
    let u = undated-item i f.0 in
    let t = undated-tests (is_seconds i) _ all is f.1 in
    rw (u.0, u.1, u.2, eq-eqb (item_number i) (item_number i) refl) t

undated : (is : List Item) → any belongs_date is ≡ false → Dated is
unfolding parts_follow is_settled
undated is e =
    let t = undated-tests false no_run is is e in
    record { parts = t.0; settled = t.1; elapsed = omega (arith, t.2); plain = t.3 }

-- without a place no power is asked for
pub no-powers : (anew q : ℕ) (es : List Entry) → any is_place (items_at es) ≡ false → T (powers_from anew q es)
unfolding powers_from all_of along items_at
no-powers anew q [] e = tt
no-powers anew q (x ∷ es) e =
    let f = none-front is_place (item_at x) (items_at es) e in rw f.0 (no-powers anew (digit_after anew q (item_at x)) es f.1)

-- without a solidus the powers run down in one run
pub powers-one : (es : List Entry) → any is_solidus (items_at es) ≡ false → powers_run_down es ≡ run_powers es
unfolding powers_run_down
powers-one es none = rw (whole-none (items_at es) none) (unfold run_powers powers_from all_of along in refl)

-- without an E and a solidus the digit anew does not matter
pub powers-bare : (a b q : ℕ) (es : List Entry) → any is_cut (items_at es) ≡ false → powers_from a q es ≡ powers_from b q es
unfolding powers_from all_of along digit_after items_at
powers-bare a b q [] bare = refl
powers-bare a b q (e ∷ es) bare =
    let f = none-front is_cut (item_at e) (items_at es) bare in
    rw f.0 (ap (λ (r : Bool). power_fits q e && r) (powers-bare a b (cond (is_place (item_at e)) (q - 1) q) es f.1))

-- a kind without places has no point and no solidus
no-place-no-point : (k : Kind) → shows_places k ≡ false → takes_point k ≡ false
no-place-no-point =
    by_kind (λ (k : Kind). shows_places k ≡ false → takes_point k ≡ false) (λ e. refl) (λ e. refl) (λ e. refl) (λ e. absurd (true≢false e)) (λ e. refl)
    (λ e. absurd (true≢false e)) (λ e. absurd (true≢false e))

no-place-no-solidus : (k : Kind) → shows_places k ≡ false → same_kind fraction_kind k ≡ false
no-place-no-solidus =
    by_kind (λ (k : Kind). shows_places k ≡ false → same_kind fraction_kind k ≡ false) (λ e. refl) (λ e. refl) (λ e. refl) (λ e. absurd (true≢false e)) (λ e. refl)
    (λ e. absurd (true≢false e)) (λ e. absurd (true≢false e))

-- ---- the rules for the items of a section of the kind
pub record Holds (k : Kind) (es : List Entry) : Type 0 where
  pub items : T (every (item_allowed k) (items_at es))
  pub made : T (is_made k (items_at es))
  pub ranges : T (every entry_in_range es)
  pub fill : count is_fill (items_at es) ≤ 1
  pub general : same_kind general_kind k ≡ true → count is_general (items_at es) ≤ 1
  pub figures : shows_places k ≡ true → (count is_point (items_at es) ≤ 1) × T (powers_run_down es)
  pub exponent : same_kind scientific_kind k ≡ true → T (exponent_fits (items_at es))
  pub fraction : same_kind fraction_kind k ≡ true → T (fraction_fits (items_at es))
  pub dates : same_kind date_kind k ≡ true → Dated (items_at es)

module _ (k : Kind) (es : List Entry) where
  abbrev is : List Item
  is = items_at es

  pub holds : T (items_of (kind_word k) es) → Holds k es
  unfolding items_of sound_entries items_fit one_fill
  holds t =
      let word : T (eqb (kind_word k) (kind_word (items_kind is))) = search (and_left, and_right) depth 8 in
      let allowed : T (every (item_allowed (items_kind is)) is) = search (and_left, and_right) depth 12 in
      let kind : items_kind is ≡ k = sym (same_kind_lem k (items_kind is) (carry (same_word k (items_kind is)) word)) in
      let points : count is_point is ≤ 1 = search (and_left, and_right, leb→le) depth 12 in
      let powers : T (powers_run_down es) = search (and_left, and_right) depth 12 in
      let dates : Dated is = search (and_left, and_right, leb→le) depth 12 in
      record {
        items = rw kind at allowed;
        made = rw (sym (kind-is is) ∙ kind) at (made_by_lem (any makes_text is) (any is_general is) (any makes_date is) (any is_exponent is) (any makes_fraction is) (any is_place is));
        ranges = search (and_left, and_right) depth 12;
        fill = search (and_left, and_right, leb→le) depth 12;
        general = λ e. search (and_left, and_right, leb→le) depth 12;
        figures = λ e. (points, powers);
        exponent = λ e. search (and_left, and_right) depth 12;
        fraction = λ e. search (and_left, and_right) depth 12;
        dates = λ e. dates;
      }

  pub holds-back : Holds k es → T (items_of (kind_word k) es)
  unfolding items_of sound_entries items_fit one_fill run_powers
  holds-back h =
      let a = apart k is h.items in
      let kind : items_kind is ≡ k = kind-is is ∙ kind-held k is a h.made in
      let points : count is_point is ≤ 1 = by_cases (shows_places k) (λ e. (h.figures e).0) (λ e. omega (arith, none-count is_point is (a.points (no-place-no-point k e)))) in
      let powers : T (powers_run_down es) = by_cases (shows_places k) (λ e. (h.figures e).1)
      (λ e. carry (sym (powers-one es (no-solidi is (a.solidi (no-place-no-solidus k e))).0)) (no-powers _ _ es (a.places e))) in
      let date : Dated is = by_cases (same_kind date_kind k) h.dates (λ e. undated is (a.dates e)) in
      let word : T (eqb (kind_word k) (kind_word (items_kind is))) = rw kind (true-T (eq-eqb (kind_word k) _ refl)) in
      let allowed : T (every (item_allowed (items_kind is)) is) = rw kind h.items in
      let generals : count is_general is ≤ 1 = by_cases (same_kind general_kind k) h.general (λ e. omega (arith, none-count is_general is (a.generals e))) in
      let exponent : T (exponent_fits is) = by_cases (same_kind scientific_kind k) h.exponent (λ e. unfold exponent_fits in rw (a.exponents e) tt) in
      let fraction : T (fraction_fits is) = by_cases (same_kind fraction_kind k) h.fraction (λ e. true-T (no_fraction is (a.solidi e))) in
      let fill = h.fill in
      let ranges = h.ranges in
      let parts = date.parts in
      let settled = date.settled in
      let elapsed = date.elapsed in
      let plain = date.plain in
      search (and_in, le→leb) depth 12
