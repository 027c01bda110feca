-- The items of a fraction that show no digit: their text, and how long it is.
-- Assumes nothing.
use Prim.Native.Nat.{ℕ, zero, suc, ◌*◌, ◌/◌, ◌≤◌, max}
use native.Mathlib.Nat.{mul-suc}
use native.Mathlib.Omega.{arith}
use mathlib.Core.Path.{◌≡◌, refl, sym, ap, ◌∙◌}
use mathlib.Core.Bool.{Bool, true, false, true≢false, ◌||◌}
use mathlib.Core.List.{List, [], ◌∷◌, ◌++◌, map, flatten, append_assoc}
use lib.Dec.{T, eqb}
use lib.ListN.{length, replicate, length-append, length-replicate}
use borrow.Author.Tests.{ne_eqb}
use Rattle.lists.specs.Lists.{any, every}
use Rattle.lists.proofs.Bools.{by_cases, cond_both, or-false, every-head, every-tail}
use Rattle.figures.specs.Digits.{width, digit_units, numeral}
use Rattle.figures.proofs.Digits.{width-most, width-least}
use Rattle.formats.specs.Tokens.{Place}
use Rattle.formats.specs.Items.{Item, item_row, literal, blank, fill, place, solidus, fixed, half, fraction_kind, item_allowed, is_literal, is_fill, is_place, is_solidus, is_fixed}
use Rattle.formats.specs.Text.{Context, item_units, items_units, digit_after, along}
use Rattle.formats.specs.Reading.{blanked}
use Rattle.formats.proofs.Each.{by-item}
use Rattle.formats.proofs.ByNumber.{by_number}
use Rattle.tables.specs.Words.{Entry, entries_in}
use Rattle.tables.specs.Encode.{entry}
use Rattle.tables.specs.Decode.{half_at, item_at, items_at, items_by_tag}
use Rattle.tables.proofs.Words.{entries_at-length}
use Rattle.tables.proofs.BackEntries.{items-length}
use Rattle.writing.specs.Put.{Put}
use Rattle.writing.proofs.Numerals.{numeral-short}
use Rattle.table_words.specs.Runs.{items_in}
use Rattle.section_text.specs.Walk.{PutsFirst, HasText}
use Rattle.fraction_sections.specs.Fraction.{loose_units, loose_text}

-- the items that a fraction holds
pub held-case : (P : Item → Type 0) → ((u : ℕ) → P (literal u)) → ((u : ℕ) → P (blank u)) → ((u : ℕ) → P (fill u)) → ((p : Place) → P (place p))
    → P solidus → ((n : ℕ) → P (fixed n)) → (i : Item) → T (item_allowed fraction_kind i) → P i
unfolding item_allowed
held-case P li bl fi pl so fx =
    by-item (λ (i : Item). T (item_allowed fraction_kind i) → P i) (λ u t. li u) (λ u t. bl u) (λ u t. fi u) (λ p t. pl p) absurd absurd absurd absurd
    (λ n. absurd) (λ n. absurd) (λ n. absurd) (λ n. absurd) (λ n. absurd) (λ n. absurd) (λ n. absurd) (λ e n. absurd) (λ h. absurd) (λ m. absurd)
    (λ t. so) (λ n t. fx n)

-- ---- the text of such items is theirs
module _ (c : Context) (q : ℕ) where
  blank-run : (k : ℕ) (is : List Item) → items_units c q (replicate k (blank 32) ++ is) ≡ replicate k 32 ++ items_units c q is
  unfolding items_units along flatten item_units digit_after
  blank-run zero is = refl
  blank-run (suc k) is = ap (λ (us : List ℕ). 32 ∷ us) (blank-run k is)

  blank-item : (i : Item) → T (item_allowed fraction_kind i) → (is : List Item) → items_units c q (blanked i ++ is) ≡ loose_units true i ++ items_units c q is
  unfolding blanked loose_units items_units along flatten item_units digit_after
  blank-item =
      held-case (λ (i : Item). (is : List Item) → items_units c q (blanked i ++ is) ≡ loose_units true i ++ items_units c q is)
      (λ u is. refl) (λ u is. refl) (λ u is. refl) (λ p is. refl) (λ is. refl) (λ n is. blank-run (width n) is)

  pub blank-text : (is : List Item) → T (every (item_allowed fraction_kind) is) → items_units c q (flatten (map blanked is)) ≡ loose_text true is
  unfolding loose_text flatten items_units along
  blank-text [] t = refl
  blank-text (i ∷ is) t =
      blank-item i (every-head (item_allowed fraction_kind) i is t) (flatten (map blanked is))
      ∙ ap (λ (us : List ℕ). loose_units true i ++ us) (blank-text is (every-tail (item_allowed fraction_kind) i is t))

  plain-item : (i : Item) → T (item_allowed fraction_kind i) → is_place i ≡ false → is_solidus i ≡ false
      → (is : List Item) → items_units c q (i ∷ is) ≡ loose_units false i ++ items_units c q is
  unfolding loose_units items_units along flatten item_units digit_after
  plain-item =
      held-case (λ (i : Item). is_place i ≡ false → is_solidus i ≡ false → (is : List Item) → items_units c q (i ∷ is) ≡ loose_units false i ++ items_units c q is)
      (λ u e f is. refl) (λ u e f is. refl) (λ u e f is. refl) (λ p e. absurd (true≢false e)) (λ e f. absurd (true≢false f)) (λ n e f is. refl)

  pub plain-text : (is : List Item) → T (every (item_allowed fraction_kind) is) → any is_place is ≡ false → any is_solidus is ≡ false
      → items_units c q is ≡ loose_text false is
  unfolding loose_text flatten items_units along any
  plain-text [] t e f = refl
  plain-text (i ∷ is) t e f =
      by_cases (is_place i) (λ p. absurd (true≢false (rw p at e)))
      (λ p. by_cases (is_solidus i) (λ s. absurd (true≢false (rw s at f)))
      (λ s.
      plain-item i (every-head (item_allowed fraction_kind) i is t) p s is
      ∙ ap (λ (us : List ℕ). loose_units false i ++ us) (plain-text is (every-tail (item_allowed fraction_kind) i is t) (rw p at e) (rw s at f))))

-- joined
pub loose-append : (b : Bool) (is js : List Item) → loose_text b (is ++ js) ≡ loose_text b is ++ loose_text b js
unfolding loose_text flatten
loose-append b [] js = refl
loose-append b (i ∷ is) js = rw (loose-append b is js) (sym (append_assoc (loose_units b i) (loose_text b is) (loose_text b js)))

-- ---- how long it is
loose-item-short : (b : Bool) (i : Item) → length (loose_units b i) ≤ 25
unfolding loose_units
loose-item-short b i =
    let n : ℕ = (item_row i).argument in
    cond_both (λ (us : List ℕ). length us ≤ 25) (is_literal i) (omega arith)
    (cond_both (λ (us : List ℕ). length us ≤ 25) (is_fill i) (omega arith)
    (cond_both (λ (us : List ℕ). length us ≤ 25) (is_fixed i)
    (cond_both (λ (us : List ℕ). length us ≤ 25) b (rw (length-replicate {A = ℕ} (width n) 32) (width-most n)) (numeral-short 1 n (omega arith))) (omega arith)))

pub loose-short : (b : Bool) (is : List Item) → length (loose_text b is) ≤ 25 * length is
unfolding loose_text flatten
loose-short b [] = omega arith
loose-short b (i ∷ is) =
    rw (mul-suc 25 (length is), length-append (loose_units b i) (loose_text b is)) (omega (arith, loose-item-short b i, loose-short b is))

pub items-counted : (words : List ℕ) → length (items_in words) ≡ length words / 2
unfolding entries_in
items-counted words = items-length (entries_in words) ∙ entries_at-length (length words / 2) words

-- ---- an item that is none of those with an arm of their own
other_tag : (t a : ℕ) → (is_literal (item_at (entry t a)) || (is_fill (item_at (entry t a)) || is_fixed (item_at (entry t a)))) ≡ (eqb t 1 || (eqb t 3 || eqb t 25))
unfolding item_at
other_tag t a =
    by_number (λ (i : Item). is_literal i || (is_fill i || is_fixed i)) (λ (n : ℕ). eqb n 1 || (eqb n 3 || eqb n 25)) (items_by_tag a) 26 (half (half_at a)) refl
    (λ n h. sym (rw (ne_eqb n 1 (λ e. omega arith), ne_eqb n 3 (λ e. omega arith), ne_eqb n 25 (λ e. omega arith)))) t

pub loose-other : (b : Bool) (t a : ℕ) → ¬ (t ≡ 1) → ¬ (t ≡ 3) → ¬ (t ≡ 25) → loose_units b (item_at (entry t a)) ≡ 32 ∷ []
unfolding loose_units
loose-other b t a x y z =
    let i = item_at (entry t a) in
    let none = or-false (is_literal i) (is_fill i || is_fixed i) (other_tag t a ∙ rw (ne_eqb t 1 x, ne_eqb t 3 y, ne_eqb t 25 z)) in
    let rest = or-false (is_fill i) (is_fixed i) none.1 in
    rw (none.0, rest.0, rest.1)

-- ---- an item that is put is the first of such items, and their text is there and short
pub loose-first : (b : Bool) (e : Entry) {old out : List ℕ} {at r : ℕ} → Put old at (loose_units b (item_at e)) r out
    → PutsFirst (λ es us. us ≡ loose_text b (items_at es)) e old at r out
unfolding loose_text items_at flatten
loose-first b e p es us t = record {
  piece = loose_units b (item_at e);
  rest = loose_text b (items_at es);
  joined = t;
  put = p;
  left = refl;
}

pub loose-has : (b : Bool) (words : List ℕ) → length words ≤ 508 → HasText (λ es us. us ≡ loose_text b (items_at es)) (entries_in words)
loose-has b words h = record {
  units = loose_text b (items_in words);
  has = refl;
  short = omega (arith, loose-short b (items_in words), items-counted words);
}

-- a fixed number's digits
pub fixed-digits : (n : ℕ) → digit_units (width n) n ≡ numeral 1 n
unfolding numeral
fixed-digits n = let w : max 1 (width n) ≡ width n = omega (arith, width-least n) in ap (λ (m : ℕ). digit_units m n) (sym w)
