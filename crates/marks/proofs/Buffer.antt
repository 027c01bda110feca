-- Tokens in a buffer of marks: a mark stands for a token.
-- Assumes nothing.
use Prim.Native.Nat.{ℕ, suc, ◌<◌}
use mathlib.Core.Path.{◌≡◌, refl, sym, ap, ◌∙◌}
use mathlib.Core.List.{List, [], ◌∷◌}
use native.Mathlib.Omega.{arith}
use lib.ListN.{length, take, drop, get_or}
use lib.Seq.{drop-cons, take_all}
use Rattle.std.proofs.lemmas.List.{take-map, drop-map, length-map}
use Rattle.std.specs.List.{fold}
use Rattle.formats.specs.Tokens.{Token}
use Rattle.formats.specs.Accept.{tokens_of}
use Rattle.marks.specs.declared.Mark.{Mark}
use Rattle.marks.specs.Marks.{mark_token, token_at, marked, placed, placed_in, tokens_in}

module _ (code : List ℕ) where
  pub tokens-placed : (ms : List Mark) → tokens_of (placed_in code ms) ≡ tokens_in code ms
  unfolding placed_in tokens_in tokens_of placed marked
  tokens-placed [] = refl
  tokens-placed (m ∷ ms) = ap (λ (ts : List Token). marked code m ∷ ts) (tokens-placed ms)

  pub tokens-take : (ms : List Mark) (k : ℕ) → tokens_in code (take k ms) ≡ take k (tokens_in code ms)
  unfolding tokens_in
  tokens-take ms k = sym (take-map (marked code) k ms)

  pub tokens-drop : (ms : List Mark) (k : ℕ) → tokens_in code (drop k ms) ≡ drop k (tokens_in code ms)
  unfolding tokens_in
  tokens-drop ms k = sym (drop-map (marked code) k ms)

  pub tokens-length : (ms : List Mark) → length (tokens_in code ms) ≡ length ms
  unfolding tokens_in
  tokens-length ms = length-map ms (marked code)

  -- the first token of the marks from i on, and the others
  pub tokens-first : (ms : List Mark) (i : ℕ) (m : Mark) → i < length ms
      → tokens_in code (drop i ms) ≡ marked code (get_or ms i m) ∷ tokens_in code (drop (suc i) ms)
  unfolding tokens_in
  tokens-first ms i m h = rw (drop-cons ms i m h)

  -- a pass over tokens that goes by their forms
  module _ {S : Type 0} (step : S → Token → S) (form_step : S → ℕ → S) where
    pub fold-forms : ((s : S) (f a : ℕ) (us : List ℕ) → step s (mark_token f a us) ≡ form_step s f)
        → (s : S) (ms : List Mark) → fold step s (tokens_in code ms) ≡ fold (λ x m. form_step x m.form) s ms
    unfolding tokens_in marked token_at
    fold-forms same s [] = refl
    fold-forms same s (m ∷ ms) =
        ap (λ (x : S). fold step x (tokens_in code ms)) (same s m.form m.argument (drop (suc m.start) code))
        ∙ fold-forms same (form_step s m.form) ms

    -- the same of a loop that has gone over all marks
    pub fold-end : ((s : S) (f a : ℕ) (us : List ℕ) → step s (mark_token f a us) ≡ form_step s f)
        → (s : S) (ms : List Mark) → fold (λ x m. form_step x m.form) s (take (length ms) ms) ≡ fold step s (tokens_in code ms)
    fold-end same s ms = ap (λ (l : List Mark). fold (λ x m. form_step x m.form) s l) (take_all (length ms) ms (omega arith)) ∙ sym (fold-forms same s ms)
