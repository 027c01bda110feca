-- What a token leaves behind, told by its form.
-- Assumes nothing.
use Prim.Native.Nat.{ℕ, suc, ◌+◌}
use native.Mathlib.Omega.{arith}
use native.Mathlib.Numerals.{add-one}
use mathlib.Core.Path.{◌≡◌, refl, ap}
use mathlib.Core.Bool.{Bool, true, false, cond}
use mathlib.Core.List.{List, [], ◌∷◌, map}
use lib.ListN.{take}
use lib.Dec.{leb, eqb}
use borrow.Author.Tests.{le-leb, lt-leb, ne_eqb}
use Rattle.lists.specs.Lists.{count}
use Rattle.formats.specs.Tokens.{Token}
use Rattle.formats.specs.Items.{literal, is_fill}
use Rattle.formats.specs.Kinds.{is_fill_token, is_point, is_seconds_token, is_zero, run_item, token_items}
use Rattle.formats.specs.Text.{digit_after, along}
use Rattle.formats.proofs.ByNumber.{numbered}
use Rattle.marks.specs.Marks.{mark_rows, mark_token, condition_of}
use Rattle.marks.proofs.ByForm.{by_form, fill-form, zero-form, point-form, seconds-form}
use Rattle.tables.specs.Words.{entries_words}
use Rattle.tables.specs.Encode.{entry_of}
use Rattle.emitting.specs.Emit.{form_seconds, form_digit, form_words, over_words, items_words, literal_words}
use Rattle.emitting.proofs.Joined.{digits_after}

-- the units of a literal are no place and no fill
literals-digit : (anew q : ℕ) (us : List ℕ) → digits_after anew q (map literal us) ≡ q
unfolding digits_after digit_after
literals-digit anew q [] = refl
literals-digit anew q (u ∷ us) = literals-digit anew q us

pub literals-fill : (us : List ℕ) → count is_fill (map literal us) ≡ 0
unfolding count
literals-fill [] = refl
literals-fill (u ∷ us) = literals-fill us

literals-words : (anew q : ℕ) (us : List ℕ) → items_words anew q (map literal us) ≡ literal_words us
unfolding items_words entries_words entry_of digit_after literal_words along
literals-words anew q [] = refl
literals-words anew q (u ∷ us) = ap (λ ws. 1 ∷ u ∷ ws) (literals-words anew q us)

-- whether a token is a point, a zero, a fill or seconds
pub record Told (f : ℕ) (t : Token) : Type 0 where
  pub point : is_point t ≡ eqb f 7
  pub zero : is_zero t ≡ eqb f 4
  pub fill : is_fill_token t ≡ eqb f 3
  pub seconds : is_seconds_token t ≡ form_seconds f

pub tells : (f a : ℕ) (us : List ℕ) → Told f (mark_token f a us)
unfolding form_seconds
tells f a us = record { point = point-form f a us; zero = zero-form f a us; fill = fill-form f a us; seconds = seconds-form f a us }

-- the digit that a token leaves behind, by its items and by its form
rows-leave : (date : Bool) (anew q a : ℕ) (us : List ℕ)
    → map (λ (t : Token). digits_after anew q (token_items date t)) (mark_rows a us) ≡ numbered (λ f. form_digit anew f q) 0 33
unfolding mark_rows condition_of form_digit token_items run_item digits_after digit_after
rows-leave true anew q a us = rw (literals-digit anew q (take a us))
rows-leave false anew q a us = rw (literals-digit anew q (take a us))

pub behind : (date : Bool) (anew q a : ℕ) (us : List ℕ) (f : ℕ) → digits_after anew q (token_items date (mark_token f a us)) ≡ form_digit anew f q
unfolding form_digit token_items digits_after
behind date anew q a us = by_form (λ (t : Token). digits_after anew q (token_items date t)) (λ f. form_digit anew f q) a us (rows-leave date anew q a us)
    (λ n h. rw (lt-leb n 6 (omega arith), le-leb 4 n (omega arith), lt-leb n 32 (omega arith), le-leb 25 n (omega arith)))

-- the words of a token by its form: those of a quoted literal are its units'
abbrev pub words_form : Bool → ℕ → ℕ → List ℕ → ℕ → List ℕ
words_form date q a us f = cond (eqb f 0) (literal_words (take a us)) (cond (leb 27 f) (over_words q a f) (form_words date q a f))

rows_words : (date : Bool) (anew q a : ℕ) (us : List ℕ)
    → map (λ (t : Token). items_words anew q (token_items date t)) (mark_rows a us) ≡ numbered (words_form date q a us) 0 33
unfolding mark_rows condition_of items_words token_items run_item entries_words entry_of digit_after along
rows_words true anew q a us = rw (literals-words anew q (take a us))
rows_words false anew q a us = rw (literals-words anew q (take a us))

pub words-form : (date : Bool) (anew q a : ℕ) (us : List ℕ) (f : ℕ) → items_words anew q (token_items date (mark_token f a us)) ≡ words_form date q a us f
unfolding items_words token_items entries_words along
words-form date anew q a us = by_form (λ (t : Token). items_words anew q (token_items date t)) (words_form date q a us) a us (rows_words date anew q a us)
    (λ f h. simp (ne_eqb f 0 (omega arith), le-leb 27 f (omega arith), lt-leb f 29 (omega arith), lt-leb f 32 (omega arith)))

-- a place's words, by its power
pub power-words : (tag r q : ℕ) → r ≡ q + 1 → tag ∷ r ∷ [] ≡ tag ∷ suc q ∷ []
power-words tag r q e = rw (e, add-one)
