-- The words of a fraction's items before its solidus, cut into integer part and numerator, and numbered anew.
-- Assumes nothing.
use Prim.Native.Nat.{ℕ, ◌+◌, ◌-◌, ◌*◌, ◌/◌}
use native.Mathlib.Omega.{arith}
use mathlib.Core.Path.{◌≡◌, refl, sym, ◌∙◌, ap}
use mathlib.Core.Bool.{true, false, cond, true≢false}
use mathlib.Core.List.{List, [], ◌∷◌, ◌++◌, append_assoc}
use lib.ListN.{length, take, drop, length-append}
use lib.Seq.{take-append_seam, drop-append_seam, length-take-le}
use lib.Dec.{eqb}
use borrow.Author.Tests.{eqb-true}
use Rattle.values.specs.Ranges.{between}
use Rattle.lists.specs.Lists.{every, any}
use Rattle.lists.proofs.Counts.{any_append}
use Rattle.lists.proofs.Bools.{by_cases, or-false}
use Rattle.formats.specs.Tokens.{hours, minutes, seconds, e_plus, e_minus}
use Rattle.formats.specs.Items.{Item, item_number, elapsed, exponent, is_place, is_point, is_solidus, is_cut, before_cut, from_cut, integer_places, places_behind, end_places, before_end, numerator_items, whole_items, main_items}
use Rattle.formats.specs.Text.{digit_after, along, first_of}
use Rattle.formats.proofs.Each.{by-item, by_place, by-elapsed, by-exponent}
use Rattle.formats.proofs.Cutting.{cut-case, before-bare, whole-bare, main-exponents, cut-joins, end-joins}
use Rattle.tables.specs.Words.{Entry, entries_words, entries_in}
use Rattle.tables.specs.Encode.{tag_of, entry_of, entries_from, run_entries, entries_of}
use Rattle.tables.specs.Decode.{items_at}
use Rattle.tables.proofs.Words.{length-entries, entries-in-words, entries_at-length}
use Rattle.tables.proofs.MadeItems.{items_back, entries-length}
use Rattle.tables.proofs.BackEntries.{items-length}
use Rattle.table_words.specs.Runs.{items_in, CutAt}
use Rattle.numbering.specs.Number.{integers_in, numbered_from, FrontNumbered}
use Rattle.numbering.specs.declared.Numbered.{Numbered}

-- what an item's tag tells of it
record Tells (i : Item) : Type 0 where
  cut : between 22 24 (tag_of i) ≡ is_cut i
  place : between 4 6 (tag_of i) ≡ is_place i
  point : eqb (tag_of i) 7 ≡ is_point i

yes : {i : Item} → between 22 24 (tag_of i) ≡ is_cut i → between 4 6 (tag_of i) ≡ is_place i → eqb (tag_of i) 7 ≡ is_point i → Tells i
yes a b c = record { cut = a; place = b; point = c }

tells : (i : Item) → Tells i
tells =
    by-item Tells (λ u. yes refl refl refl) (λ u. yes refl refl refl) (λ u. yes refl refl refl)
    (by_place (λ p. Tells (Item.place p)) (yes refl refl refl) (yes refl refl refl) (yes refl refl refl))
    (yes refl refl refl) (yes refl refl refl) (yes refl refl refl) (yes refl refl refl)
    (λ n. yes refl refl refl) (λ n. yes refl refl refl) (λ n. yes refl refl refl) (λ n. yes refl refl refl) (λ n. yes refl refl refl)
    (λ n. yes refl refl refl) (λ n. yes refl refl refl)
    (λ e n. by-elapsed (λ d. Tells (elapsed d n)) (yes {i = elapsed hours n} refl refl refl) (yes {i = elapsed minutes n} refl refl refl) (yes {i = elapsed seconds n} refl refl refl) e) (λ h. yes refl refl refl)
    (by-exponent (λ m. Tells (exponent m)) (yes {i = exponent e_plus} refl refl refl) (yes {i = exponent e_minus} refl refl refl)) (yes refl refl refl) (λ n. yes refl refl refl)

abbrev words_from : ℕ → ℕ → List Item → List ℕ
words_from anew q is = entries_words (entries_from anew q is) []

words-length : (anew q : ℕ) (is : List Item) → length (words_from anew q is) ≡ 2 * length is
words-length anew q is = omega (arith, length-entries (entries_from anew q is) [], entries-length anew q is)

-- ---- what the code finds among the words of items
read-back : (anew q : ℕ) (is : List Item) → items_in (words_from anew q is) ≡ is
read-back anew q is = ap items_at (entries-in-words (entries_from anew q is)) ∙ items_back anew q is

-- how many words a cut has before it
cut-size : {ws : List ℕ} {start : ℕ} {front back : List Item} → CutAt ws start front back → start ≡ 2 * length front
unfolding entries_in
cut-size {ws} {start} {front} c =
    let n : length front ≡ length (take start ws) / 2 =
    ap length (sym c.before) ∙ items-length (entries_in (take start ws)) ∙ entries_at-length (length (take start ws) / 2) (take start ws) in
    omega (arith, n, length-take-le start ws c.inside, c.even)

integers-found : (anew q : ℕ) (is : List Item) → any is_cut is ≡ false → integers_in (words_from anew q is) ≡ integer_places is
unfolding integers_in integer_places entries_words entry_of any along
integers-found anew q [] bare = refl
integers-found anew q (i ∷ is) bare =
    by_cases (is_cut i) (λ c. absurd (true≢false (rw c at bare)))
    (λ c.
    rw ((tells i).place, (tells i).point, integers-found anew (digit_after anew q i) is (rw c at bare), c)
    (by_cases (is_point i) (λ e. rw e) (λ e. rw e)))

numbered : (anew q first : ℕ) (is : List Item) → any is_cut is ≡ false → numbered_from first (words_from anew q is) ≡ words_from anew first is
unfolding numbered_from entries_words entry_of digit_after any along
numbered anew q first [] bare = refl
numbered anew q first (i ∷ is) bare =
    by_cases (is_cut i) (λ c. absurd (true≢false (rw c at bare)))
    (λ c.
    rw ((tells i).place, c)
    (by_cases (is_place i)
    (λ p. rw (p, numbered anew (q - 1) (first - 1) is (rw c at bare)))
    (λ p. rw (p, numbered anew q first is (rw c at bare)))))

-- ---- the words in three parts
-- the digit behind items
unfoldable behind : ℕ → ℕ → List Item → ℕ
behind anew q [] = q
behind anew q (i ∷ is) = behind anew (digit_after anew q i) is

words-join : (anew q : ℕ) (xs ys : List Item) → words_from anew q (xs ++ ys) ≡ words_from anew q xs ++ words_from anew (behind anew q xs) ys
unfolding behind entries_words along
words-join anew q [] ys = refl
words-join anew q (x ∷ xs) ys = rw (words-join anew (digit_after anew q x) xs ys)

entries-join : (xs ys : List Entry) → entries_words (xs ++ ys) [] ≡ entries_words xs [] ++ entries_words ys []
unfolding entries_words
entries-join [] ys = refl
entries-join (x ∷ xs) ys = rw (entries-join xs ys)

-- from a cut on the digit before it does not matter
from_cut_lem : (anew p q : ℕ) (is : List Item) → words_from anew p (from_cut is) ≡ words_from anew q (from_cut is)
unfolding from_cut entries_words entry_of digit_after along
from_cut_lem anew p q [] = refl
from_cut_lem anew p q (i ∷ is) =
    cut-case (λ (j : Item). words_from anew p (from_cut (j ∷ is)) ≡ words_from anew q (from_cut (j ∷ is))) (λ m. refl) refl
    (λ j e. rw e (from_cut_lem anew p q is)) i

-- and without one the digit behind it does not
bare-words : (a b q : ℕ) (is : List Item) → any is_cut is ≡ false → words_from a q is ≡ words_from b q is
unfolding entries_words digit_after any along
bare-words a b q [] bare = refl
bare-words a b q (i ∷ is) bare =
    by_cases (is_cut i) (λ c. absurd (true≢false (rw c at bare)))
    (λ c. rw (c, bare-words a b (cond (is_place i) (q - 1) q) is (rw c at bare)))

-- the numerator's places are all before the cut
places-all : (is js : List Item) → every is_place is ≡ true → integer_places (is ++ js) ≡ length is + integer_places js
unfolding every integer_places
places-all [] js e = omega arith
places-all (i ∷ is) js e =
    by_cases (is_place i)
    (λ p. rw (eqb-true (item_number i) 3 p) (omega (arith, places-all is js (rw p at e)))) (λ p. absurd (true≢false (sym (rw p at e))))

end-places : (is : List Item) → every is_place (end_places is) ≡ true
unfolding end_places every
end-places [] = refl
end-places (i ∷ is) = by_cases (every is_place (i ∷ is)) (λ e. rw e e) (λ e. rw e (end-places is))

none_from : (is : List Item) → integer_places (from_cut is) ≡ 0
unfolding from_cut integer_places
none_from [] = refl
none_from (i ∷ is) =
    cut-case (λ (j : Item). integer_places (from_cut (j ∷ is)) ≡ 0) (λ m. refl) refl (λ j e. rw e (none_from is)) i

module _ (is : List Item) (some : any is_solidus is ≡ true) where
  abbrev a : ℕ
  a = first_of (places_behind is)

  abbrev q : ℕ
  q = first_of (integer_places is)

  abbrev ws : List ℕ
  ws = entries_words (run_entries is) []

  abbrev front : List Item
  front = before_cut is

  abbrev whole : List Item
  whole = before_end front

  abbrev run : List Item
  run = end_places front

  whole_is : whole_items is ≡ whole
  unfolding whole_items
  whole_is = rw some

  main-is : main_items is ≡ run ++ from_cut is
  unfolding main_items numerator_items
  main-is = rw some

  words_are : ws ≡ words_from a q is
  unfolding run_entries
  words_are = refl

  -- the words before the cut, and those from it on
  abbrev later : List ℕ
  later = words_from a q (from_cut is)

  words-cut : ws ≡ words_from a q front ++ later
  words-cut =
      words_are ∙ ap (words_from a q) (sym (cut-joins is)) ∙ words-join a q front (from_cut is)
      ∙ ap (λ (us : List ℕ). words_from a q front ++ us) (from_cut_lem a (behind a q front) q is)

  words-front : words_from a q front ≡ words_from a q whole ++ words_from a (behind a q whole) run
  words-front = ap (words_from a q) (sym (end-joins front)) ∙ words-join a q whole run

  before-cut : (cut : ℕ) → cut ≡ 2 * length front → take cut ws ≡ words_from a q front
  before-cut cut e =
      rw (e ∙ sym (words-length a q front)) (ap (take (length (words_from a q front))) words-cut ∙ take-append_seam (words_from a q front) later)

  behind-cut : (cut : ℕ) → cut ≡ 2 * length front → drop cut ws ≡ later
  behind-cut cut e =
      rw (e ∙ sym (words-length a q front)) (ap (drop (length (words_from a q front))) words-cut ∙ drop-append_seam (words_from a q front) later)

  whole_words : (start : ℕ) → start ≡ 2 * length whole → take start (words_from a q front) ≡ words_from a q whole
  whole_words start e =
      rw (e ∙ sym (words-length a q whole))
      (ap (take (length (words_from a q whole))) words-front ∙ take-append_seam (words_from a q whole) (words_from a (behind a q whole) run))

  run-words : (start : ℕ) → start ≡ 2 * length whole → drop start (words_from a q front) ≡ words_from a (behind a q whole) run
  run-words start e =
      rw (e ∙ sym (words-length a q whole))
      (ap (drop (length (words_from a q whole))) words-front ∙ drop-append_seam (words_from a q whole) (words_from a (behind a q whole) run))

  wholes-are : integers_in (words_from a q whole) ≡ integer_places (whole_items is)
  wholes-are = integers-found a q whole (rw whole_is at (whole-bare is)) ∙ ap integer_places (sym whole_is)

  numerators-are : integer_places (main_items is) ≡ length run
  numerators-are = ap integer_places main-is ∙ omega (arith, places-all run (from_cut is) (end-places front), none_from is)

  front-size : length front ≡ length whole + length run
  front-size = sym (ap length (end-joins front)) ∙ length-append whole run

  -- so many words are the numerator's
  run-size : (start : ℕ) → start ≡ 2 * length whole → (length (words_from a q front) - start) / 2 ≡ length run
  run-size start e = omega (arith, words-length a q front, front-size)

  run-bare : any is_cut run ≡ false
  run-bare = (or-false (any is_cut whole) (any is_cut run) (sym (any_append is_cut whole run) ∙ ap (any is_cut) (end-joins front) ∙ before-bare is)).1

  whole-made : entries_words (run_entries (whole_items is)) [] ≡ words_from a (first_of (integer_places whole)) whole
  unfolding run_entries
  whole-made = rw whole_is (bare-words (first_of (places_behind whole)) a (first_of (integer_places whole)) whole (rw whole_is at (whole-bare is)))

  main-made : entries_words (run_entries (main_items is)) [] ≡ words_from a (first_of (length run)) run ++ later
  unfolding run_entries
  main-made =
      rw (main-exponents is, numerators-are, main-is)
      (words-join a (first_of (length run)) run (from_cut is)
      ∙ ap (λ (us : List ℕ). words_from a (first_of (length run)) run ++ us) (from_cut_lem a (behind a (first_of (length run)) run) q is))

  words-made : entries_words (entries_of is) []
      ≡ words_from a (first_of (integer_places whole)) whole ++ (words_from a (first_of (length run)) run ++ later)
  unfolding entries_of
  words-made = entries-join (run_entries (whole_items is)) (run_entries (main_items is)) ∙ rw (whole-made, main-made)

  -- the three parts numbered are the words of the table
  numbered-parts :
      numbered_from (14 + integer_places (whole_items is)) (words_from a q whole) ++ numbered_from (14 + length run) (words_from a (behind a q whole) run) ++ later
      ≡ entries_words (entries_of is) []
  numbered-parts =
      rw (whole_is, numbered a q (14 + integer_places whole) whole (rw whole_is at (whole-bare is)), numbered a (behind a q whole) (14 + length run) run run-bare)
      (append_assoc (words_from a (14 + integer_places whole) whole) (words_from a (14 + length run) run) later ∙ sym words-made)

  pub fraction-numbered : (old : List ℕ) (cut : ℕ) (r : Numbered) (out : List ℕ) → old ≡ ws
      → CutAt old cut (before_cut (items_in old)) (from_cut (items_in old)) → FrontNumbered (take cut old) r out
      → (out ++ drop cut old ≡ entries_words (entries_of is) []) × (r.wholes ≡ integer_places (whole_items is)) × (r.numerators ≡ integer_places (main_items is))
  fraction-numbered old cut r out h x f =
      let e : cut ≡ 2 * length front =
      cut-size x ∙ ap (λ (us : List ℕ). 2 * length (before_cut (items_in us))) (h ∙ words_are)
      ∙ ap (λ (js : List Item). 2 * length (before_cut js)) (read-back a q is) in
      rw h (from e (rw (h, before-cut cut e) at f))
    where
      from : cut ≡ 2 * length front → FrontNumbered (words_from a q front) r out
          → (out ++ drop cut ws ≡ entries_words (entries_of is) []) × (r.wholes ≡ integer_places (whole_items is)) × (r.numerators ≡ integer_places (main_items is))
      from e g =
          let s : g.start ≡ 2 * length whole = cut-size g.cut ∙ ap (λ (js : List Item). 2 * length (before_end js)) (read-back a q front) in
          let w : r.wholes ≡ integer_places (whole_items is) = g.wholes ∙ ap integers_in (whole_words g.start s) ∙ wholes-are in
          let n : r.numerators ≡ length run = g.numerators ∙ run-size g.start s in
          (rw (behind-cut cut e, g.words, w, n, whole_words g.start s, run-words g.start s) numbered-parts, w, n ∙ sym numerators-are)
