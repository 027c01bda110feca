-- What a token is, by the number of its form.
-- Assumes nothing.
use Prim.Native.Nat.{ℕ, ◌≤◌}
use mathlib.Core.Path.{◌≡◌, refl, sym}
use mathlib.Core.Bool.{◌&&◌, ◌||◌}
use mathlib.Core.List.{List, [], map}
use native.Mathlib.Omega.{arith}
use borrow.Author.Tests.{ne_eqb, le-leb, lt-leb}
use lib.Dec.{leb, eqb}
use Rattle.formats.proofs.ByNumber.{numbered, by_number}
use Rattle.formats.specs.Tokens.{Token, literal}
use Rattle.formats.specs.Kinds.{is_place, is_point, is_semicolon, is_colour, is_condition, is_over, is_fill_token, colour_in, is_seconds_token, is_zero}
use Rattle.marks.specs.Marks.{mark_rows, mark_token, condition_of}

-- what g says of a token is what h says of its form and argument: a computed test of the forms, and one of the literal without units
module _ {B : Type 0} (g : Token → B) (h : ℕ → B) (a : ℕ) (us : List ℕ) where
  pub by_form : map g (mark_rows a us) ≡ numbered h 0 33 → ((f : ℕ) → 33 ≤ f → g (literal []) ≡ h f)
      → (f : ℕ) → g (mark_token f a us) ≡ h f
  unfolding mark_token
  by_form = by_number g h (mark_rows a us) 33 (literal [])

module _ (f a : ℕ) (us : List ℕ) where
  pub fill-form : is_fill_token (mark_token f a us) ≡ eqb f 3
  unfolding mark_rows condition_of
  fill-form = by_form is_fill_token (λ (n : ℕ). eqb n 3) a us refl (λ n h. sym (ne_eqb n 3 (omega arith))) f

  pub zero-form : is_zero (mark_token f a us) ≡ eqb f 4
  unfolding mark_rows condition_of is_zero
  zero-form = by_form is_zero (λ (n : ℕ). eqb n 4) a us refl (λ n h. sym (ne_eqb n 4 (omega arith))) f

  pub place-form : is_place (mark_token f a us) ≡ (leb 4 f && leb f 6)
  unfolding mark_rows condition_of
  place-form = by_form is_place (λ (n : ℕ). leb 4 n && leb n 6) a us refl (λ n h. sym (simp (le-leb 4 n (omega arith), lt-leb n 6 (omega arith)))) f

  pub point-form : is_point (mark_token f a us) ≡ eqb f 7
  unfolding mark_rows condition_of
  point-form = by_form is_point (λ (n : ℕ). eqb n 7) a us refl (λ n h. sym (ne_eqb n 7 (omega arith))) f

  pub semicolon-form : is_semicolon (mark_token f a us) ≡ eqb f 11
  unfolding mark_rows condition_of
  semicolon-form = by_form is_semicolon (λ (n : ℕ). eqb n 11) a us refl (λ n h. sym (ne_eqb n 11 (omega arith))) f

  pub seconds-form : is_seconds_token (mark_token f a us) ≡ (eqb f 19 || eqb f 22)
  unfolding mark_rows condition_of is_seconds_token
  seconds-form = by_form is_seconds_token (λ (n : ℕ). eqb n 19 || eqb n 22) a us refl (λ n h. sym (simp (ne_eqb n 19 (omega arith), ne_eqb n 22 (omega arith)))) f

  pub colour-form : is_colour (mark_token f a us) ≡ eqb f 23
  unfolding mark_rows condition_of
  colour-form = by_form is_colour (λ (n : ℕ). eqb n 23) a us refl (λ n h. sym (ne_eqb n 23 (omega arith))) f

  pub condition-form : is_condition (mark_token f a us) ≡ eqb f 24
  unfolding mark_rows condition_of
  condition-form = by_form is_condition (λ (n : ℕ). eqb n 24) a us refl (λ n h. sym (ne_eqb n 24 (omega arith))) f

  pub over-form : is_over (mark_token f a us) ≡ (leb 27 f && leb f 32)
  unfolding mark_rows condition_of
  over-form = by_form is_over (λ (n : ℕ). leb 27 n && leb n 32) a us refl (λ n h. sym (simp (le-leb 27 n (omega arith), lt-leb n 32 (omega arith)))) f

  pub colour-argument : f ≡ 23 → colour_in (mark_token f a us) ≡ a
  unfolding mark_token mark_rows colour_in
  colour-argument e = rw e
