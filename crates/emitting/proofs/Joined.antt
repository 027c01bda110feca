-- The words of joined lists of items: what the first list leaves behind for the second.
-- Assumes nothing.
use Prim.Native.Nat.{ℕ}
use mathlib.Core.Path.{◌≡◌, refl, ap}
use mathlib.Core.Bool.{true, false, true≢false}
use mathlib.Core.List.{List, [], ◌∷◌, ◌++◌}
use Rattle.lists.specs.Lists.{any}
use Rattle.lists.proofs.Bools.{by_cases}
use Rattle.formats.specs.Items.{Item, fill, is_fill}
use Rattle.formats.specs.Kinds.{last_fill}
use Rattle.formats.specs.Text.{digit_after, along}
use Rattle.tables.specs.Words.{Entry, entries_words}
use Rattle.tables.specs.Encode.{entry_of, entries_from}
use Rattle.emitting.specs.Emit.{items_words}

-- the digit behind items
unfoldable pub digits_after : ℕ → ℕ → List Item → ℕ
digits_after anew q [] = q
digits_after anew q (i ∷ is) = digits_after anew (digit_after anew q i) is

entries-append : (anew q : ℕ) (xs ys : List Item) → entries_from anew q (xs ++ ys) ≡ entries_from anew q xs ++ entries_from anew (digits_after anew q xs) ys
unfolding digits_after along
entries-append anew q [] ys = refl
entries-append anew q (x ∷ xs) ys = ap (λ es. entry_of q x ∷ es) (entries-append anew (digit_after anew q x) xs ys)

words_append : (xs ys : List Entry) → entries_words (xs ++ ys) [] ≡ entries_words xs [] ++ entries_words ys []
unfolding entries_words
words_append [] ys = refl
words_append (x ∷ xs) ys = rw (words_append xs ys)

pub items-append : (anew q : ℕ) (xs ys : List Item) → items_words anew q (xs ++ ys) ≡ items_words anew q xs ++ items_words anew (digits_after anew q xs) ys
unfolding items_words
items-append anew q xs ys = rw (entries-append anew q xs ys) (words_append (entries_from anew q xs) (entries_from anew (digits_after anew q xs) ys))

-- items without a fill stay as they are
pub fill-append : (xs ys : List Item) → any is_fill xs ≡ false → last_fill (xs ++ ys) ≡ xs ++ last_fill ys
unfolding any last_fill
fill-append [] ys h = refl
fill-append (x ∷ xs) ys h =
    by_cases (is_fill x) (λ e. absurd (true≢false (rw e at h))) (λ e. rw e (ap (λ is. x ∷ is) (fill-append xs ys (rw e at h))))

-- the words of items before others, where the first are no fill
pub words-first : (anew q : ℕ) (xs ys : List Item) → any is_fill xs ≡ false
    → items_words anew q (last_fill (xs ++ ys)) ≡ items_words anew q xs ++ items_words anew (digits_after anew q xs) (last_fill ys)
words-first anew q xs ys h = rw (fill-append xs ys h) (items-append anew q xs (last_fill ys))

-- a fill goes where a later one stands, else it is written
pub fill-goes : (u : ℕ) (ys : List Item) → any is_fill ys ≡ true → last_fill (fill u ∷ ys) ≡ last_fill ys
unfolding last_fill
fill-goes u ys h = rw h

pub fill-stays : (u : ℕ) (ys : List Item) → any is_fill ys ≡ false → last_fill (fill u ∷ ys) ≡ fill u ∷ last_fill ys
unfolding last_fill
fill-stays u ys h = rw h
