-- Laws of the semicolons of a buffer: they are those of its tokens, what one more token adds, and what the loop that looks for one keeps.
-- Assumes nothing.
use Prim.Native.Nat.{ℕ, zero, suc, ◌+◌, ◌-◌, ◌≤◌, ◌<◌}
use mathlib.Core.Path.{◌≡◌, refl, sym, ap, ◌∙◌}
use mathlib.Core.List.{List, [], ◌∷◌, ◌++◌}
use native.Mathlib.Omega.{arith}
use native.Mathlib.Numerals.{add-one}
use borrow.Author.Tests.{eq-eqb, ne_eqb}
use lib.Dec.{eqb}
use lib.ListN.{length, drop, get_or, length-append, drop_of_length-le}
use lib.Seq.{drop-cons}
use Rattle.lists.proofs.Bools.{by_cases}
use Rattle.formats.specs.Accept.{semicolons}
use Rattle.marks.specs.declared.Mark.{Mark}
use Rattle.marks.specs.Marks.{token_at, marked, placed, placed_in}
use Rattle.marks.proofs.ByForm.{semicolon-form}
use Rattle.lexing.specs.Buffer.{semicolons_in}

module _ (m : Mark) (ms : List Mark) where
  pub semi-hit : m.form ≡ 11 → semicolons_in (m ∷ ms) ≡ m.start ∷ semicolons_in ms
  unfolding semicolons_in
  semi-hit e = rw (eq-eqb m.form 11 e)

  pub semi-miss : (m.form ≡ 11 → ⊥) → semicolons_in (m ∷ ms) ≡ semicolons_in ms
  unfolding semicolons_in
  semi-miss e = rw (ne_eqb m.form 11 e)

pub semicolons-in : (code : List ℕ) (ms : List Mark) → semicolons (placed_in code ms) ≡ semicolons_in ms
unfolding semicolons placed_in semicolons_in placed marked token_at
semicolons-in code [] = refl
semicolons-in code (m ∷ ms) =
    by_cases (eqb m.form 11)
    (λ e. rw (semicolon-form m.form m.argument (drop (suc m.start) code), e) (ap (λ (ks : List ℕ). m.start ∷ ks) (semicolons-in code ms)))
    (λ e. rw (semicolon-form m.form m.argument (drop (suc m.start) code), e) (semicolons-in code ms))

-- ---- one more token
semicolons-append : (ms ns : List Mark) → semicolons_in (ms ++ ns) ≡ semicolons_in ms ++ semicolons_in ns
unfolding semicolons_in
semicolons-append [] ns = refl
semicolons-append (m ∷ ms) ns =
    let rest = semicolons-append ms ns in
    by_cases (eqb m.form 11) (λ e. rw e (ap (λ (ks : List ℕ). m.start ∷ ks) rest)) (λ e. rw e rest)

module _ (ms : List Mark) (m : Mark) where
  one_more : length (semicolons_in (ms ++ (m ∷ []))) ≡ length (semicolons_in ms) + length (semicolons_in (m ∷ []))
  one_more = ap length (semicolons-append ms (m ∷ [])) ∙ length-append (semicolons_in ms) (semicolons_in (m ∷ []))

  pub count-hit : m.form ≡ 11 → length (semicolons_in (ms ++ (m ∷ []))) ≡ length (semicolons_in ms) + 1
  unfolding semicolons_in
  count-hit e = one_more ∙ rw (eq-eqb m.form 11 e)

  pub count-miss : (m.form ≡ 11 → ⊥) → length (semicolons_in (ms ++ (m ∷ []))) ≡ length (semicolons_in ms)
  unfolding semicolons_in
  count-miss e = one_more ∙ rw (ne_eqb m.form 11 e) (omega arith)

-- ---- the loop
-- what looking for semicolon k keeps: it is `left` semicolons ahead of token i
abbrev pub Ahead : List Mark → ℕ → ℕ → ℕ → Type 0
Ahead ms k left i = get_or (semicolons_in ms) k 0 ≡ get_or (semicolons_in (drop i ms)) left 0

behind-first : (x : ℕ) (xs : List ℕ) (left : ℕ) → (left ≡ 0 → ⊥) → get_or (x ∷ xs) left 0 ≡ get_or xs (left - 1) 0
behind-first x xs zero z = absurd (z refl)
behind-first x xs (suc left) z = ap (λ (j : ℕ). get_or xs j 0) (omega arith)

module _ (ms : List Mark) (k left i : ℕ) (inv : Ahead ms k left i) where
  module _ (d : Mark) (h : i < length ms) where
    front : drop i ms ≡ get_or ms i d ∷ drop (suc i) ms
    front = drop-cons ms i d h

    pub ahead-found : (get_or ms i d).form ≡ 11 → left ≡ 0 → (get_or ms i d).start ≡ get_or (semicolons_in ms) k 0
    ahead-found e z = sym (inv ∙ rw (front, semi-hit (get_or ms i d) (drop (suc i) ms) e, z))

    pub ahead-hit : (get_or ms i d).form ≡ 11 → (left ≡ 0 → ⊥) → (l : ℕ) → l ≡ left - 1 → Ahead ms k l (i + 1)
    ahead-hit e z l f =
        inv ∙ rw (front, semi-hit (get_or ms i d) (drop (suc i) ms) e, add-one i, f) (behind-first (get_or ms i d).start (semicolons_in (drop (suc i) ms)) left z)

    pub ahead-miss : ((get_or ms i d).form ≡ 11 → ⊥) → (l : ℕ) → l ≡ left → Ahead ms k l (i + 1)
    ahead-miss e l f = inv ∙ rw (front, semi-miss (get_or ms i d) (drop (suc i) ms) e, add-one i, f)

  pub ahead-end : length ms ≤ i → 0 ≡ get_or (semicolons_in ms) k 0
  unfolding semicolons_in
  ahead-end h = sym (inv ∙ rw (drop_of_length-le ms h))
