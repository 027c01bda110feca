-- Item words taken two by two: the chunks of two words are the entries.
-- Assumes nothing.
use Prim.Native.Nat.{ℕ, suc, ◌/◌, ◌<◌}
use native.Mathlib.Omega.{arith}
use mathlib.Core.Path.{◌≡◌, refl, sym, ap, ◌∙◌}
use mathlib.Core.List.{List, [], ◌∷◌, ◌++◌}
use lib.ListN.{length, get_or}
use Rattle.std.specs.Borrow.{Bor}
use Rattle.std.specs.declared.slice.ChunksExact.{ChunksExact}
use Rattle.std.specs.Slice.Iter.{chunks_exact_rest, chunks_exact_size, chunks_exact_steps}
use Rattle.std.proofs.lemmas.Iterator.{YieldsList}
use Rattle.std.proofs.lemmas.Iterator.Splits.{YieldsList-from_shown_while}
use Rattle.tables.specs.Words.{Entry, entries_at, entries_in}
use Rattle.tables.specs.Encode.{entry}

-- the entry that a chunk holds
abbrev pub entry_of : Bor (List ℕ) → Entry
entry_of x = entry (get_or x.now 0 0) (get_or x.now 1 0)

-- words with a pair in front, and fewer than two
pub entries-pair : (words pair rest : List ℕ) → words ≡ pair ++ rest → length pair ≡ 2 → entries_in words ≡ entry (get_or pair 0 0) (get_or pair 1 0) ∷ entries_in rest
unfolding entries_in entries_at
entries-pair words [] rest e h = absurd (omega arith)
entries-pair words (t ∷ []) rest e h = absurd (omega arith)
entries-pair words (t ∷ a ∷ []) rest e h =
    let half : length (t ∷ a ∷ rest) / 2 ≡ suc (length rest / 2) = omega arith in
    rw (e, half) refl
entries-pair words (t ∷ a ∷ b ∷ pair) rest e h = absurd (omega arith)

pub entries-none : (words : List ℕ) → length words < 2 → entries_in words ≡ []
unfolding entries_in entries_at
entries-none words h = let none : length words / 2 ≡ 0 = omega arith in rw none

-- chunks of two words give the entries in order
pub YieldsList-from_entries : {s : ChunksExact ℕ} (ws : List ℕ) → chunks_exact_rest s ≡ ws → chunks_exact_size s ≡ 2 → YieldsList (chunks_exact_steps {A = ℕ}) entry_of s (entries_in ws)
unfolding entries_in
YieldsList-from_entries {s} ws e h =
    rw (sym e) (YieldsList-from_shown_while (chunks_exact_steps {A = ℕ}) entry_of (λ t. entries_in (chunks_exact_rest t)) (λ t. chunks_exact_size t ≡ 2)
    (λ u t k p. ap length (entries-none (chunks_exact_rest u) (omega (arith, k, p.1.0))))
    (λ u x t k p. (p.0 ∙ k, entries-pair (chunks_exact_rest u) x.now (chunks_exact_rest t) p.1.0 (p.1.1 ∙ k)))
    s h)
