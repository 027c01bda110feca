-- What the tests on a tally say of a section with these items.
-- Assumes nothing.
use Prim.Native.Nat.{ℕ, ◌+◌, ◌≤◌}
use mathlib.Core.Path.{◌≡◌, refl, sym, ◌∙◌, ap}
use mathlib.Core.Bool.{Bool, true, false, cond, not, ◌&&◌, ◌||◌, and-false, and-true}
use mathlib.Core.List.{List}
use lib.Dec.{leb, ltb, eqb}
use native.Mathlib.Omega.{arith}
use Rattle.lists.specs.Lists.{every, any, count}
use Rattle.lists.proofs.Counts.{either-positive, every-same, every-and, every-not-beside, positive-count}
use Rattle.formats.specs.Tokens.{Elapsed, hours, minutes, seconds}
use Rattle.formats.specs.Items.{Item, elapsed, Section, Kind, shows_places, items_kind, kind_of, item_allowed, is_place, is_point, is_percent, is_general, is_hour, is_minute, is_second, is_elapsed, is_elapsed_of, is_exponent, is_solidus, is_space, from_cut, no_plain, exponent_fits, fraction_fits, items_fit, integer_places, decimal_places, places_behind, whole_items, main_items}
use Rattle.formats.specs.Limits.{elapsed_short, fixed_small, section_within}
use Rattle.tables.specs.Words.{Entry}
use Rattle.tables.specs.Encode.{kind_word, has_half, decimals_word}
use Rattle.tables.specs.Decode.{items_at}
use Rattle.formats.proofs.Cutting.{bare-from, whole-none, main-all}
use Rattle.formats.proofs.Each.{by-item, by-elapsed, by_kind}
use Rattle.tallies.specs.Tally.{makes_text, makes_date, makes_fraction, belongs_date, tally_of, has_places, Uncut, kind_told, allowed_told, exponent_told, items_fit_told, within_told, fraction_told, decimals_told}
use Rattle.tallies.proofs.Places.{places-counted}
use Rattle.tallies.proofs.Held.{kind_by, kind-is, uncut, no_fraction, allowed_by, allowed-every}

-- ---- the places
module _ (es : List Entry) where
  places-told : has_places (tally_of es) ≡ any is_place (items_at es)
  unfolding tally_of
  places-told =
      let is = items_at es in
      let later = decimal_places is + places_behind is in
      rw (either-positive (decimal_places is) (places_behind is), either-positive (integer_places is) later, places-counted is) (positive-count is_place is)

  generals-told : ltb 0 (tally_of es).generals ≡ any is_general (items_at es)
  unfolding tally_of
  generals-told = positive-count is_general (items_at es)

  exponents-told : ltb 0 (tally_of es).exponents ≡ any is_exponent (items_at es)
  unfolding tally_of
  exponents-told = positive-count is_exponent (items_at es)

  solidi-told : ltb 0 (tally_of es).solidi ≡ any makes_fraction (items_at es)
  unfolding tally_of
  solidi-told = positive-count makes_fraction (items_at es)

-- ---- the kind
kind-word : (t g d x s n : Bool) → cond t 3 (cond g 1 (cond d 4 (cond x 5 (cond s 6 (cond n 2 0))))) ≡ kind_word (kind_by t g d x s n)
unfolding kind_word
kind-word true g d x s n = refl
kind-word false true d x s n = refl
kind-word false false true x s n = refl
kind-word false false false true s n = refl
kind-word false false false false true n = refl
kind-word false false false false false true = refl
kind-word false false false false false false = refl

pub kind-told : (es : List Entry) → kind_told (tally_of es) ≡ kind_word (items_kind (items_at es))
kind-told es =
    let is = items_at es in
    rw (generals-told es, exponents-told es, solidi-told es, places-told es, kind-is is)
    (unfold tally_of in (kind-word (any makes_text is) (any is_general is) (any makes_date is) (any is_exponent is) (any makes_fraction is) (any is_place is)))

-- a kind by its word, and by its places
pub places-word : (k : Kind) → (eqb (kind_word k) 2 || (eqb (kind_word k) 5 || eqb (kind_word k) 6)) ≡ shows_places k
unfolding kind_word
places-word = by_kind (λ (k : Kind). (eqb (kind_word k) 2 || (eqb (kind_word k) 5 || eqb (kind_word k) 6)) ≡ shows_places k) refl refl refl refl refl refl refl

-- ---- no item belongs to another kind
-- the tests of `allowed_told` are those of the kind that the flags make
neither-nor : (a b : Bool) → not (a || b) ≡ (not a && not b)
neither-nor true b = refl
neither-nor false b = refl

no-number-item : (n Q P x s : Bool)
    → not ((n || Q) || (P || (x || s))) ≡ (not (n && true) && (not (Q && true) && (not (P && true) && (not (x && true) && not (s && true)))))
no-number-item true Q P x s = refl
no-number-item false true P x s = refl
no-number-item false false true x s = refl
no-number-item false false false true s = refl
no-number-item false false false false s = rw (and-true s)

allowed-by-kind : (t g d x s n D Q P : Bool)
    → cond t (not g && (not D && not ((n || Q) || (P || (x || s))))) (cond g (not D && not ((n || Q) || (P || (x || s))))
    (cond d (not ((n || Q) || (P || (x || s)))) (cond x (not D && (not P && not s)) (cond s (not D && (not Q && not P))
    (cond n (not D) (not D && not ((n || Q) || (P || (x || s)))))))))
    ≡ allowed_by (kind_by t g d x s n) t g D n Q P x s
allowed-by-kind true g d x s n D Q P = rw (and-true g, and-true D, no-number-item n Q P x s)
allowed-by-kind false true d x s n D Q P = rw (and-true D, no-number-item n Q P x s)
allowed-by-kind false false true x s n D Q P = rw (and-false D, no-number-item n Q P x s)
allowed-by-kind false false false true s n D Q P = rw (and-true D, and-false n, and-false Q, and-true P, and-true s)
allowed-by-kind false false false false true n D Q P = rw (and-true D, and-false n, and-true Q, and-true P, and-true (not P))
allowed-by-kind false false false false false true D Q P = rw (and-true D, and-false Q, and-false P, and-true (not D))
allowed-by-kind false false false false false false D Q P = rw (and-true D, no-number-item false Q P false false)

module _ (es : List Entry) where
  points-told : ltb 0 (tally_of es).points ≡ any is_point (items_at es)
  unfolding tally_of
  points-told = positive-count is_point (items_at es)

  percents-told : ltb 0 (tally_of es).percents ≡ any is_percent (items_at es)
  unfolding tally_of
  percents-told = positive-count is_percent (items_at es)

  pub allowed-told : allowed_told (tally_of es) ≡ every (item_allowed (items_kind (items_at es))) (items_at es)
  allowed-told =
      let is = items_at es in
      rw (places-told es, points-told, generals-told es, percents-told, exponents-told es, solidi-told es)
      (unfold tally_of in
      (allowed-by-kind (any makes_text is) (any is_general is) (any makes_date is) (any is_exponent is) (any makes_fraction is) (any is_place is) (any belongs_date is) (any is_point is) (any is_percent is)
      ∙ rw (← kind-is is) (sym (allowed-every (items_kind is) is))))

-- ---- no elapsed item beside its plain equivalent
module _ (is : List Item) where
  abbrev beside : Elapsed → Bool → Item → Bool
  beside e b i = not (is_elapsed_of e i && b)

  abbrev Same : Item → Type 0
  Same i = no_plain is i ≡ (beside hours (any is_hour is) i && (beside minutes (any is_minute is) i && beside seconds (any is_second is) i))

  no-plain-item : (i : Item) → Same i
  unfolding no_plain
  no-plain-item =
      by-item Same (λ u. refl) (λ u. refl) (λ u. refl) (λ p. refl) refl refl refl refl
      (λ n. refl) (λ n. refl) (λ n. refl) (λ n. refl) (λ n. refl) (λ n. refl) (λ n. refl)
      (λ e n. by-elapsed (λ d. Same (elapsed d n)) (sym (and-true (not (any is_hour is)))) (sym (and-true (not (any is_minute is)))) refl e)
      (λ h. refl) (λ m. refl)
      refl (λ n. refl)

  pub no-plain-every : every (no_plain is) is
      ≡ (not (any (is_elapsed_of hours) is && any is_hour is)
      && (not (any (is_elapsed_of minutes) is && any is_minute is) && not (any (is_elapsed_of seconds) is && any is_second is)))
  no-plain-every =
      let h = beside hours (any is_hour is) in
      let m = beside minutes (any is_minute is) in
      let s = beside seconds (any is_second is) in
      every-same (no_plain is) (λ (i : Item). h i && (m i && s i)) no-plain-item is
      ∙ every-and h (λ (i : Item). m i && s i) is
      ∙ rw (
        every-and m s is,
        every-not-beside (is_elapsed_of hours) (any is_hour is) is,
        every-not-beside (is_elapsed_of minutes) (any is_minute is) is,
        every-not-beside (is_elapsed_of seconds) (any is_second is) is,
      )

-- six tests, grouped from the right and from the left
and-six : (a b c d e f : Bool) → (a && (b && (c && (d && (e && f))))) ≡ (a && b && c && d && e && f)
and-six true true true true e f = refl
and-six true true true false e f = refl
and-six true true false d e f = refl
and-six true false c d e f = refl
and-six false b c d e f = refl

and-eight : (a b c d e f g h : Bool) → (a && (b && (c && (d && (e && (f && (g && h))))))) ≡ (a && b && c && d && e && f && g && h)
and-eight true true c d e f g h = and-six c d e f g h
and-eight true false c d e f g h = refl
and-eight false b c d e f g h = refl

and_last : (a b c : Bool) → (a && (b && c)) ≡ (a && b && c)
and_last true b c = refl
and_last false b c = refl

-- ---- the laws, over the entries of a section's words
module _ (es : List Entry) where
  pub percents-are : (tally_of es).percents ≡ count is_percent (items_at es)
  unfolding tally_of
  percents-are = refl

  pub half-told : (tally_of es).halves ≡ has_half (items_at es)
  unfolding tally_of has_half
  half-told = refl

  exponent-told : exponent_told (tally_of es) ≡ exponent_fits (items_at es)
  unfolding exponent_fits tally_of
  exponent-told =
      let is = items_at es in
      let front = leb (count is_exponent is) 1 && leb 1 (integer_places is) && leb 1 (places_behind is) in
      let p = any is_point (from_cut is) in
      let q = any is_space (from_cut is) in
      rw (positive-count is_exponent is, neither-nor p q, and_last front (not p) (not q))

  pub items-fit-told : (items_fit_told (tally_of es) && fraction_fits (items_at es)) ≡ items_fit (items_at es)
  unfolding items_fit
  items-fit-told =
      let is = items_at es in
      rw (allowed-told es, exponent-told)
      (unfold tally_of in
      (rw (← no-plain-every is)
      (ap (λ (b : Bool). b && fraction_fits is)
      (and-six (every (item_allowed (items_kind is)) is) (leb (count is_general is) 1) (leb (count is_point is) 1) (leb (count is_elapsed is) 1) (every (no_plain is) is) (exponent_fits is)))))

  no-solidi-told : (tally_of es).solidi ≤ 0 → any makes_fraction (items_at es) ≡ false
  no-solidi-told h = let none : (tally_of es).solidi ≡ 0 = omega (arith, h) in sym (solidi-told es) ∙ ap (λ (n : ℕ). ltb 0 n) none

  -- without a solidus and a fixed number there are no rules for them
  pub bare-items-told : (tally_of es).solidi ≤ 0 → items_fit_told (tally_of es) ≡ items_fit (items_at es)
  bare-items-told h =
      sym (and-true (items_fit_told (tally_of es))) ∙ ap (λ (b : Bool). items_fit_told (tally_of es) && b) (sym (no_fraction (items_at es) (no-solidi-told h)))
      ∙ items-fit-told

  -- without an E and a solidus there is no place behind one
  pub uncut-told : (tally_of es).exponents ≤ 0 → (tally_of es).solidi ≤ 0 → Uncut (tally_of es)
  unfolding tally_of places_behind count
  uncut-told x s =
      let is = items_at es in
      let none : count is_exponent is ≡ 0 = omega (arith, x) in
      let bare : any is_exponent is ≡ false = sym (positive-count is_exponent is) ∙ ap (λ (n : ℕ). ltb 0 n) none in
      record {
        exponents = none;
        solidi = omega (arith, s);
        places = ap (count is_place) (bare-from is (uncut is bare (no-solidi-told s)));
      }

  module _ (s : Section) (e : s.items ≡ items_at es) where
    pub fraction-within-told : fraction_told (tally_of es) s.thousands (integer_places (whole_items (items_at es))) (integer_places (main_items (items_at es))) ≡ section_within s
    unfolding tally_of section_within
    fraction-within-told =
        let is = items_at es in
        rw e (and-eight (leb (integer_places (whole_items is)) 20) (leb (integer_places (main_items is)) 20) (leb (decimal_places is) 15) (leb (places_behind is) 3) (leb (count is_percent is) 5) (leb s.thousands 5) (every elapsed_short is) (every fixed_small is))

    pub within-told : any is_solidus (items_at es) ≡ false → within_told (tally_of es) s.thousands ≡ section_within s
    within-told none =
        let is = items_at es in
        let same : fraction_told (tally_of es) s.thousands (integer_places (whole_items is)) (integer_places (main_items is)) ≡ within_told (tally_of es) s.thousands
        = unfold tally_of integer_places in rw (whole-none is none, main-all is none) in
        sym same ∙ fraction-within-told

    pub decimals-told : decimals_told (tally_of es) ≡ decimals_word s
    unfolding decimals_word kind_of
    decimals-told = rw (kind-told es, places-word (items_kind (items_at es)), e) (unfold tally_of in refl)

    pub section-kind-told : kind_told (tally_of es) ≡ kind_word (kind_of s)
    unfolding kind_of
    section-kind-told = rw e (kind-told es)
