-- Item words, two by two: a loop over their pairs passes one entry with each.
-- Assumes nothing.
use Prim.Native.Nat.{ℕ, zero, suc, ◌+◌, ◌/◌, ◌≤◌, ◌<◌}
use native.Mathlib.Omega.{arith}
use mathlib.Core.Path.{◌≡◌, refl, ◌∙◌, ap}
use mathlib.Core.List.{List, map, [], ◌∷◌, ◌++◌}
use lib.ListN.{length, get_or, drop, drop_of_length-le}
use lib.Seq.{drop-cons, get_or-take}
use Rattle.std.proofs.Common.{add-one}
use Rattle.std.specs.Simd.{first_chunks}
use Rattle.tables.specs.Words.{Entry, entries_at, entries_in}
use Rattle.tables.specs.Encode.{entry}

abbrev pub pair_entry : List ℕ → Entry
pair_entry pair = entry (get_or pair 0 0) (get_or pair 1 0)

-- ---- a loop over `chunks_exact(2)`, with these words left: a pair in front, and fewer than two
pub entries-pair : (words pair rest : List ℕ) → words ≡ pair ++ rest → length pair ≡ 2 → entries_in words ≡ pair_entry pair ∷ entries_in rest
unfolding entries_in entries_at
entries-pair words [] rest e h = absurd (omega arith)
entries-pair words (t ∷ []) rest e h = absurd (omega arith)
entries-pair words (t ∷ a ∷ []) rest e h = let more : suc (suc (length rest)) / 2 ≡ suc (length rest / 2) = omega arith in rw (e, more)
entries-pair words (t ∷ a ∷ b ∷ pair) rest e h = absurd (omega arith)

pub entries-none : (words : List ℕ) → length words < 2 → entries_in words ≡ []
unfolding entries_in entries_at
entries-none words h = let none : length words / 2 ≡ 0 = omega arith in rw none

-- ---- a loop over `as_chunks::<2>()`
entries-at : (n : ℕ) (words : List ℕ) → map pair_entry (first_chunks 2 n words) ≡ entries_at n words
unfolding entries_at
entries-at zero words = refl
entries-at (suc n) words = rw (get_or-take 2 words 0 0 (omega arith), get_or-take 2 words 1 0 (omega arith), entries-at n (drop 2 words))

-- the entries from the k-th pair on
abbrev pub pairs_left : List (List ℕ) → ℕ → List Entry
pairs_left pairs k = map pair_entry (drop k pairs)

pub pairs-start : (words : List ℕ) (pairs : List (List ℕ)) → pairs ≡ first_chunks 2 (length words / 2) words → pairs_left pairs 0 ≡ entries_in words
unfolding entries_in
pairs-start words pairs e = ap (map pair_entry) e ∙ entries-at (length words / 2) words

pub pairs-front : (pairs : List (List ℕ)) (k : ℕ) → k < length pairs → pairs_left pairs k ≡ pair_entry (get_or pairs k []) ∷ pairs_left pairs (k + 1)
pairs-front pairs k h = rw (drop-cons pairs k [] h, add-one k)

pub pairs-end : (pairs : List (List ℕ)) (k : ℕ) → length pairs ≤ k → pairs_left pairs k ≡ []
pairs-end pairs k h = ap (map pair_entry) (drop_of_length-le pairs {i = k} h)
