-- Parts of a section with an E or a solidus, each of which holds the items of a number section.
-- Assumes nothing.
use Prim.Native.Nat.{ℕ, zero, suc, ◌+◌, ◌-◌, ◌≤◌, ◌<◌}
use native.Mathlib.Omega.{arith}
use mathlib.Core.Path.{◌≡◌, refl, sym, ◌∙◌, ap}
use mathlib.Core.Bool.{Bool, true, false, true≢false, cond, not, ◌&&◌, and-false}
use mathlib.Core.List.{List, [], ◌∷◌, ◌++◌}
use lib.Dec.{T, leb, ltb, leb→le, le→leb}
use borrow.Author.Tests.{lt-ltb, le-leb, lt-leb}
use Rattle.lists.specs.Lists.{every, any, count}
use Rattle.lists.proofs.Bools.{no, and_left, and_right, and_in, by_cases, T_true, true-T, carry, cond-and}
use Rattle.lists.proofs.Counts.{count-append, every-both, none-count, any-count, positive-count}
use Rattle.formats.specs.Items.{Item, Kind, text_kind, general_kind, date_kind, number_kind, same_kind, shows_places, item_allowed, is_fill, is_place, is_point, is_percent, is_exponent, is_cut, before_cut, from_cut, integer_places, decimal_places}
use Rattle.formats.specs.Text.{digit_after, along}
use Rattle.formats.proofs.Cutting.{cut-case}
use Rattle.tables.specs.Words.{Entry}
use Rattle.tables.specs.Encode.{kind_word}
use Rattle.tables.specs.Decode.{item_at, items_at}
use Rattle.tables.specs.Rules.{entry_in_range, power_fits, all_of, powers_from, run_powers}
use Rattle.tallies.specs.Tally.{makes_fraction, items_of}
use Rattle.number_rows.specs.NumberRows.{number_items}
use Rattle.scans.specs.Scans.{has_tag}
use Rattle.scans.proofs.Scanned.{tag_is, any-tagged}
use Rattle.tallies.proofs.Held.{takes_point, apart, allowed-every, no-solidi, uncut, powers-one, Holds, holds, holds-back}

-- ---- lists that are joined by a cut
pub none-among : (p : Item → Bool) (is : List Item) → count p is ≡ 0 → any p is ≡ false
none-among p is e = sym (positive-count p is) ∙ ap (λ (n : ℕ). ltb 0 n) e

pub every-joined : {A : Type 0} (p : A → Bool) (xs zs : List A) (y : A) → every p (xs ++ (y ∷ zs)) ≡ (every p xs && (p y && every p zs))
unfolding every
every-joined p xs zs y = every-both p xs (y ∷ zs) ∙ ap (λ (b : Bool). every p xs && b) (cond-and (p y) (every p zs))

-- what is counted on either side, of which the cut is none
pub count-beside : (p : Item → Bool) (i : Item) (js ks : List Item) → p i ≡ false → count p (js ++ (i ∷ ks)) ≡ count p js + count p ks
unfolding count
count-beside p i js ks n = count-append p js (i ∷ ks) ∙ rw n

pub cut-here : (i : Item) (js ks : List Item) → is_cut i ≡ true → any is_cut js ≡ false → (before_cut (js ++ (i ∷ ks)) ≡ js) × (from_cut (js ++ (i ∷ ks)) ≡ i ∷ ks)
unfolding before_cut from_cut any
cut-here i [] ks x bare = rw x (refl, refl)
cut-here i (j ∷ js) ks x bare =
    by_cases (is_cut j) (λ e. absurd (true≢false (rw e at bare)))
    (λ e. let c = cut-here i js ks x (rw e at bare) in rw e (ap (λ (is : List Item). j ∷ is) c.0, c.1))

and_last : (a b c : Bool) → (a && (b && c)) ≡ ((a && b) && c)
and_last true b c = refl
and_last false b c = refl

cut-no-place : (i : Item) → is_cut i ≡ true → is_place i ≡ false
cut-no-place = cut-case (λ (i : Item). is_cut i ≡ true → is_place i ≡ false) (λ m e. refl) (λ e. refl) (λ i n e. absurd (true≢false (sym e ∙ n)))

pub powers-joined : (e : Entry) (fs gs : List Entry) (anew q : ℕ) → is_cut (item_at e) ≡ true → any is_cut (items_at fs) ≡ false
    → powers_from anew q (fs ++ (e ∷ gs)) ≡ (powers_from anew q fs && powers_from anew anew gs)
unfolding powers_from all_of along digit_after items_at any
powers-joined e [] gs anew q x bare = rw (cut-no-place (item_at e) x, x)
powers-joined e (f ∷ fs) gs anew q x bare =
    by_cases (is_cut (item_at f)) (λ y. absurd (true≢false (rw y at bare)))
    (λ y. rw (y, powers-joined e fs gs anew (cond (is_place (item_at f)) (q - 1) q) x (rw y at bare)) (and_last (power_fits q f) _ _))

-- ---- a part of a section that has places, but is neither a number section nor of one of these kinds
pub record Figures (k : Kind) : Type 0 where
  pub text : same_kind text_kind k ≡ false
  pub general : same_kind general_kind k ≡ false
  pub date : same_kind date_kind k ≡ false
  pub number : same_kind number_kind k ≡ false
  pub places : shows_places k ≡ true

module _ (k : Kind) (kind : Figures k) (fs : List Entry) where
  abbrev part : List Item
  part = items_at fs

  pub record Part : Type 0 where
    pub items : T (every (item_allowed k) part)
    pub exponents : any is_exponent part ≡ false
    pub solidi : any makes_fraction part ≡ false
    pub some : 0 < count is_place part
    pub ranges : T (every entry_in_range fs)
    pub fill : count is_fill part ≤ 1
    pub points : count is_point part ≤ 1
    pub powers : T (run_powers fs)
    pub integers : integer_places part ≤ 20
    pub decimals : decimal_places part ≤ 15

  pub part-bare : Part → any is_cut part ≡ false
  part-bare p = uncut part p.exponents p.solidi

  pub part-number : Part → T (number_items fs) × (count is_percent part ≡ 0)
  unfolding number_items kind_word
  part-number p =
      let a = apart k part p.items in
      let held : T (every (item_allowed number_kind) part) = carry (sym (allowed-every number_kind part))
      (rw (a.texts kind.text, a.generals kind.general, a.dates kind.date, p.exponents, p.solidi, and-false (any is_place part), and-false (any is_point part), and-false (any is_percent part)) tt) in
      let items : T (items_of 2 fs) = holds-back number_kind fs (record {
        items = held;
        made = true-T (sym (positive-count is_place part) ∙ lt-ltb 0 (count is_place part) p.some);
        ranges = p.ranges;
        fill = p.fill;
        general = λ e. no e;
        figures = λ e. (p.points, carry (sym (powers-one fs (no-solidi part p.solidi).0)) p.powers);
        exponent = λ e. no e;
        fraction = λ e. no e;
        dates = λ e. no e;
      }) in
      let none = none-count is_percent part (a.percents kind.number) in
      let integers = p.integers in
      let decimals = p.decimals in
      let percents : count is_percent part ≤ 5 = omega (arith, none) in
      (search (and_in, le→leb) depth 6, none)

  pub number-part : T (number_items fs) → count is_percent part ≡ 0 → not (any is_point part && not (takes_point k)) ≡ true → Part
  unfolding number_items kind_word
  number-part t none point =
      let h : Holds number_kind fs = holds number_kind fs (and_left (items_of 2 fs) _ t) in
      let a = apart number_kind part h.items in
      let held : T (every (item_allowed k) part) = carry (sym (allowed-every k part))
      (rw (a.texts refl, a.generals refl, a.dates refl, a.exponents refl, a.solidi refl, none-among is_percent part none, kind.places, and-false (any is_place part), point) tt) in
      record {
        items = held;
        exponents = a.exponents refl;
        solidi = a.solidi refl;
        some = any-count is_place part (T_true (any is_place part) h.made);
        ranges = h.ranges;
        fill = h.fill;
        points = (h.figures refl).0;
        powers = carry (powers-one fs (no-solidi part (a.solidi refl)).0) (h.figures refl).1;
        integers = search (and_left, and_right, leb→le) depth 6;
        decimals = search (and_left, and_right, leb→le) depth 6;
      }

-- ---- a fill stands in one of two parts
pub filled : (es : List Entry) → has_tag es 3 ≡ ltb 0 (count is_fill (items_at es))
filled es = sym (positive-count is_fill (items_at es) ∙ any-tagged is_fill 3 (λ e. tag_is is_fill 3 e refl (omega arith) refl) es)

pub filled_apart : (fs gs : List Entry) → count is_fill (items_at fs) ≤ 1 → count is_fill (items_at gs) ≤ 1
    → not (has_tag fs 3 && has_tag gs 3) ≡ leb (count is_fill (items_at fs) + count is_fill (items_at gs)) 1
filled_apart fs gs h k = rw (filled fs, filled gs) (counted (count is_fill (items_at fs)) (count is_fill (items_at gs)) h k)
  where
    counted : (m n : ℕ) → m ≤ 1 → n ≤ 1 → not (ltb 0 m && ltb 0 n) ≡ leb (m + n) 1
    counted zero n h k = sym (le-leb (0 + n) 1 (omega arith))
    counted (suc m) zero h k = rw (and-false (ltb 0 (suc m))) (sym (le-leb (suc m + 0) 1 (omega arith)))
    counted (suc m) (suc n) h k = rw (lt-ltb 0 (suc m) (omega arith), lt-ltb 0 (suc n) (omega arith)) (sym (lt-leb (suc m + suc n) 1 (omega arith)))
