-- One walk over a body's tokens gives its items, and each turn of it the words of one token.
-- Assumes nothing.
use Prim.Native.Nat.{ℕ, zero, suc, ◌+◌, ◌≤◌}
use native.Mathlib.Omega.{arith}
use mathlib.Core.Path.{◌≡◌, refl, sym, ◌∙◌, ap}
use mathlib.Core.Bool.{Bool, true, false, cond, ◌&&◌}
use mathlib.Core.List.{List, [], ◌∷◌, ◌++◌}
use lib.Dec.{ltb, eqb}
use borrow.Author.Tests.{eqb-true, lt-ltb, le-ltb}
use Rattle.lists.specs.Lists.{any, count}
use Rattle.lists.proofs.Bools.{by_cases}
use Rattle.lists.proofs.Counts.{count-append, any-count, none-count}
use Rattle.formats.specs.Tokens.{Token, Letter}
use Rattle.formats.specs.Items.{Item, fill, part, date_kind, same_kind, is_fill}
use Rattle.formats.specs.Kinds.{form_of, is_fill_token, is_zero, is_seconds_token, leading_zeros, part_zeros, pieces_from, piece_items, plain_items, date_items, body_kind, body_items, run_item, token_items, last_fill}
use Rattle.formats.specs.Text.{digit_after, along}
use Rattle.formats.proofs.Each.{by_token, by-letter}
use Rattle.formats.proofs.FormedPieces.{zero-case, zeros-follow, zeros-point}
use Rattle.marks.specs.Marks.{mark_rows, mark_token}
use Rattle.tables.specs.Words.{entries_words}
use Rattle.tables.specs.Encode.{entry_of}
use Rattle.emitting.specs.Emit.{emitted_from, items_words, token_words, piece_of, form_seconds, form_digit, form_fills}
use Rattle.emitting.proofs.Joined.{digits_after, items-append, words-first, fill-goes, fill-stays}
use Rattle.emitting.proofs.Forms.{literals-fill, tells, behind, words-form}

none_any : {A : Type 0} (g : A → Bool) (xs : List A) → count g xs ≡ 0 → any g xs ≡ false
none_any g xs h = by_cases (any g xs) (λ e. absurd (omega (arith, any-count g xs e))) (λ e. e)

-- the first token's items, or the part of a second that it starts
emitted-first : (date b : Bool) (t : Token) (ts : List Token) (n : ℕ) → n ≡ part_zeros (date && b) t ts
    → emitted_from date b 0 (t ∷ ts) ≡ cond (eqb n 0) (token_items date t ++ emitted_from date (is_seconds_token t) n ts) (part n ∷ emitted_from date (is_seconds_token t) n ts)
unfolding emitted_from
emitted-first date b t ts n e = rw e

date-emitted : (b : Bool) (k : ℕ) (ts : List Token) → date_items (pieces_from b k ts) ≡ emitted_from true b k ts
unfolding pieces_from emitted_from date_items piece_items
date-emitted b k [] = refl
date-emitted b (suc k) (t ∷ ts) = date-emitted false k ts
date-emitted b zero (t ∷ ts) =
    let r = date-emitted (is_seconds_token t) (part_zeros b t ts) ts in
    by_cases (eqb (part_zeros b t ts) 0) (λ e. rw (e, r)) (λ e. rw (e, r))

plain-emitted : (b : Bool) (ts : List Token) → plain_items ts ≡ emitted_from false b 0 ts
unfolding emitted_from plain_items part_zeros
plain-emitted b [] = refl
plain-emitted b (t ∷ ts) = rw (plain-emitted (is_seconds_token t) ts)

pub body-emitted : (date : Bool) (ts : List Token) → date ≡ same_kind (body_kind ts) date_kind → body_items ts ≡ emitted_from date false 0 ts
unfolding body_items
body-emitted true ts e = rw (← e) (date-emitted false 0 ts)
body-emitted false ts e = rw (← e) (plain-emitted false ts)

-- the fills among a token's items
pub token-fills : (date : Bool) (t : Token) → count is_fill (token_items date t) ≡ cond (is_fill_token t) 1 0
unfolding token_items count run_item
token-fills date =
    by_token (λ (t : Token). count is_fill (token_items date t) ≡ cond (is_fill_token t) 1 0)
    literals-fill (λ u. refl) (λ u. refl) (λ u. refl) (λ p. refl)
    (by_cases date (λ e. rw e) (λ e. rw e)) (by_cases date (λ e. rw e) (λ e. rw e)) refl refl refl refl (λ h. refl)
    (λ l n. by-letter (λ (k : Letter). count is_fill (run_item k n ∷ []) ≡ 0) refl refl refl refl refl l) (λ e n. refl) (λ n. refl) (λ w. refl) (λ m. refl) (λ p. refl) (λ p n. refl)

-- the fills among the items are those among the tokens: what a part of a second takes with it are zeros
pub fills-emitted : (date b : Bool) (k : ℕ) (ts : List Token) → k ≤ leading_zeros ts → count is_fill (emitted_from date b k ts) ≡ count is_fill_token ts
unfolding emitted_from count leading_zeros
fills-emitted date b k [] h = refl
fills-emitted date b (suc k) (t ∷ ts) h =
    by_cases (is_zero t)
    (λ z. let m : suc k ≤ suc (leading_zeros ts) = rw z at h in
    rw (zero-case (λ (u : Token). form_of u ≡ 4) (λ p. refl) t z) (fills-emitted date false k ts (omega arith)))
    (λ z. let m : suc k ≤ 0 = rw z at h in absurd (omega arith))
fills-emitted date b zero (t ∷ ts) h =
    let n = part_zeros (date && b) t ts in
    let r : count is_fill (emitted_from date (is_seconds_token t) n ts) ≡ count is_fill_token ts
    = fills-emitted date (is_seconds_token t) n ts (zeros-follow (date && b) t ts) in
    by_cases (eqb n 0)
    (λ e. rw e (count-append is_fill (token_items date t) (emitted_from date (is_seconds_token t) n ts) ∙ rw (token-fills date t, r)
    (by_cases (is_fill_token t) (λ l. rw l (omega arith)) (λ l. rw l (omega arith)))))
    (λ e. rw (e, eqb-true (form_of t) 7 (zeros-point (date && b) t ts e).1) r)

-- the words that are left
abbrev pub Words : Bool → Bool → ℕ → ℕ → ℕ → List Token → List ℕ
Words date b k anew q ts = items_words anew q (last_fill (emitted_from date b k ts))

module _ (f : ℕ) (date b : Bool) (anew q a : ℕ) (us : List ℕ) (ts : List Token) where
  abbrev t : Token
  t = mark_token f a us

  abbrev later : ℕ → List Item
  later n = emitted_from date (form_seconds f) n ts

  first : (n : ℕ) → n ≡ part_zeros (date && b) t ts → emitted_from date b 0 (t ∷ ts) ≡ cond (eqb n 0) (token_items date t ++ later n) (part n ∷ later n)
  first n e = rw (← (tells f a us).seconds) (emitted-first date b t ts n e)

  part-form : (n : ℕ) → n ≡ part_zeros (date && b) t ts → eqb n 0 ≡ false → f ≡ 7
  part-form n e z = eqb-true f 7 (sym (tells f a us).point ∙ (zeros-point (date && b) t ts (ap (λ m. eqb m 0) (sym e) ∙ z)).1)

  part-kept : (n : ℕ) → n ≡ part_zeros (date && b) t ts → eqb n 0 ≡ false → form_digit anew f q ≡ q
  unfolding form_digit
  part-kept n e z = ap (λ g. form_digit anew g q) (part-form n e z)

  fill-kept : f ≡ 3 → form_digit anew f q ≡ q
  unfolding form_digit
  fill-kept l = ap (λ g. form_digit anew g q) l

  fill-items : f ≡ 3 → token_items date t ≡ fill a ∷ []
  unfolding mark_token mark_rows token_items
  fill-items l = ap (λ g. token_items date (mark_token g a us)) l

  no-fill : eqb f 3 ≡ false → any is_fill (token_items date t) ≡ false
  no-fill l = none_any is_fill (token_items date t) (token-fills date t ∙ rw ((tells f a us).fill, l))

  -- a token's words do not depend on the digit behind an E or solidus
  token-alone : token_words date q t ≡ items_words anew q (token_items date t)
  unfolding token_words
  token-alone = words-form date q q a us f ∙ sym (words-form date anew q a us f)

  -- the fills that follow a token
  pub fills-step : (fills n : ℕ) → n ≡ part_zeros (date && b) t ts → fills ≡ count is_fill (emitted_from date b 0 (t ∷ ts)) → form_fills f fills ≡ count is_fill (later n)
  unfolding form_fills count
  fills-step fills n e h =
      let c = rw (first n e) at h in
      by_cases (eqb n 0)
      (λ z. let s : fills ≡ cond (eqb f 3) 1 0 + count is_fill (later n)
      = (rw z at c) ∙ count-append is_fill (token_items date t) (later n) ∙ rw (token-fills date t, (tells f a us).fill) in
      by_cases (eqb f 3) (λ l. let s' : fills ≡ 1 + count is_fill (later n) = rw l at s in rw l (omega arith))
      (λ l. let s' : fills ≡ 0 + count is_fill (later n) = rw l at s in rw l (omega arith)))
      (λ z. let s : fills ≡ count is_fill (later n) = rw z at c in
      let l : eqb f 3 ≡ false = ap (λ g. eqb g 3) (part-form n e z) in
      rw l s)

  -- a token with its items, a fill that goes, and a part of a second
  words-plain : 0 ≡ part_zeros (date && b) t ts → eqb f 3 ≡ false
      → Words date b 0 anew q (t ∷ ts) ≡ token_words date q t ++ Words date (form_seconds f) 0 anew (form_digit anew f q) ts
  words-plain e l =
      let none : any is_fill (token_items date t) ≡ false = no-fill l in
      rw (token-alone, first 0 e, words-first anew q (token_items date t) (later 0) none, behind date anew q a us f)

  words-goes : 0 ≡ part_zeros (date && b) t ts → f ≡ 3 → any is_fill (later 0) ≡ true
      → Words date b 0 anew q (t ∷ ts) ≡ Words date (form_seconds f) 0 anew (form_digit anew f q) ts
  words-goes e l h = rw (first 0 e, fill-items l, fill-goes a (later 0) h, fill-kept l)

  words-stays : 0 ≡ part_zeros (date && b) t ts → f ≡ 3 → any is_fill (later 0) ≡ false
      → Words date b 0 anew q (t ∷ ts) ≡ token_words date q t ++ Words date (form_seconds f) 0 anew (form_digit anew f q) ts
  words-stays e l h =
      rw (token-alone, first 0 e, ← (behind date anew q a us f), fill-items l, fill-stays a (later 0) h)
      (items-append anew q (fill a ∷ []) (last_fill (later 0)))

  words-part : (n : ℕ) → n ≡ part_zeros (date && b) t ts → eqb n 0 ≡ false
      → Words date b 0 anew q (t ∷ ts) ≡ (17 ∷ n ∷ []) ++ Words date (form_seconds f) n anew (form_digit anew f q) ts
  unfolding items_words entries_words entry_of digit_after digits_after any along
  words-part n e z =
      let s : Words date b 0 anew q (t ∷ ts) ≡ items_words anew q (last_fill (part n ∷ later n)) = rw (first n e, z) in
      s ∙ words-first anew q (part n ∷ []) (later n) refl ∙ rw (part-kept n e z)

  -- whether a later fill stands among the items, by the fills that follow with this one
  fill-later : (fills : ℕ) → 0 ≡ part_zeros (date && b) t ts → f ≡ 3 → fills ≡ count is_fill (emitted_from date b 0 (t ∷ ts))
      → any is_fill (later 0) ≡ ltb 1 fills
  unfolding count
  fill-later fills e l h =
      let s : fills ≡ suc (count is_fill (later 0)) = h ∙ rw (first 0 e, fill-items l) in
      by_cases (any is_fill (later 0))
      (λ y. y ∙ sym (lt-ltb 1 fills (omega (arith, any-count is_fill (later 0) y))))
      (λ y. y ∙ sym (le-ltb 1 fills (omega (arith, none-count is_fill (later 0) y))))

  -- a token's words, and those that are left behind it
  pub words_step : (fills n : ℕ) → n ≡ part_zeros (date && b) t ts → fills ≡ count is_fill (emitted_from date b 0 (t ∷ ts))
      → Words date b 0 anew q (t ∷ ts) ≡ piece_of date q fills n t ++ Words date (form_seconds f) n anew (form_digit anew f q) ts
  words_step fills n e h =
      by_cases (eqb n 0)
      (λ z. let m : n ≡ 0 = eqb-true n 0 z in
      let p : 0 ≡ part_zeros (date && b) t ts = sym m ∙ e in
      rw (m, (tells f a us).fill)
      (by_cases (eqb f 3)
      (λ l. let g = eqb-true f 3 l in
      rw (l, ← (fill-later fills p g h))
      (by_cases (any is_fill (later 0)) (λ y. rw y (words-goes p g y)) (λ y. rw y (words-stays p g y))))
      (λ l. rw l (words-plain p l))))
      (λ z. rw z (words-part n e z))
