-- Laws of the places: what a place is, by what stands directly behind it.
-- Assumes nothing.
use Prim.Native.Nat.{ℕ, zero, suc, ◌+◌, ◌-◌, ◌≤◌}
use mathlib.Core.Path.{◌≡◌, refl, sym, ◌∙◌}
use mathlib.Core.Bool.{Bool, true, false}
use mathlib.Core.List.{List, [], ◌∷◌}
use native.Mathlib.Omega.{arith}
use borrow.Author.Tests.{eqb-true, eqb-false, ne_eqb}
use lib.Dec.{eqb}
use lib.ListN.{length, take, drop}
use Rattle.std.proofs.Common.{Option as Found, Some}
use Rattle.std.specs.List.{list_any}
use Rattle.lists.specs.Lists.{any}
use Rattle.lists.proofs.Bools.{no, by_cases}
use Rattle.calendar.specs.Names.{units}
use Rattle.formats.specs.Tokens.{Place, place, over, over_fixed, read, leading, starts_with, is_digit, is_place_unit, fixed_number, over_step, place_step}
use Rattle.marks.specs.Marks.{mark_token, mark_rows}
use Rattle.lexing.specs.declared.Step.{Step}
use Rattle.lexing.specs.Marks.{step_behind, place_at}

place-rows : (k n : ℕ) (us : List ℕ) → k ≤ 2
    → (mark_token (4 + k) 0 us ≡ place (place_at (4 + k))) × (mark_token (4 + k + 23) 0 us ≡ over (place_at (4 + k))) × (mark_token (4 + k + 26) n us ≡ over_fixed (place_at (4 + k)) n)
unfolding mark_token mark_rows place_at
place-rows zero n us h = (refl, refl, refl)
place-rows (suc zero) n us h = (refl, refl, refl)
place-rows (suc (suc zero)) n us h = (refl, refl, refl)
place-rows (suc (suc (suc k))) n us h = absurd (omega arith)

-- a place stands in front
abbrev pub starts_place : List ℕ → Bool
starts_place us = list_any (λ (word : List ℕ). starts_with word us) (units "0" ∷ units "#" ∷ units "?" ∷ [])

turned : (n u : ℕ) → eqb u n ≡ false → eqb n u ≡ false
turned n u e = ne_eqb n u (λ p. eqb-false u n e (sym p))

unit-starts : (u : ℕ) (us : List ℕ) → starts_place (u ∷ us) ≡ is_place_unit u
unfolding starts_with is_place_unit any units
unit-starts u us = by_cases (eqb u 48) (λ a. rw (eqb-true u 48 a))
    (λ a. by_cases (eqb u 35) (λ b. rw (eqb-true u 35 b))
    (λ b. by_cases (eqb u 63) (λ c. rw (eqb-true u 63 c))
    (λ c. rw (a, b, c, turned 48 u a, turned 35 u b, turned 63 u c))))

-- what stands behind a place and a solidus: a place, nothing of these, or a digit
over_by : (p : Place) (us : List ℕ) → starts_place us ≡ true → over_step p us ≡ read (over p) 1
unfolding over_step starts_with units
over_by p [] t = no t
over_by p (u ∷ us) t = rw (sym (unit-starts u us) ∙ t)

none-by : (p : Place) (us : List ℕ) → starts_place us ≡ false → leading is_digit us ≡ 0 → over_step p us ≡ read (place p) 0
unfolding over_step leading
none-by p [] t z = refl
none-by p (u ∷ us) t z = by_cases (is_digit u) (λ d. absurd (omega (arith, rw d at z))) (λ d. rw (sym (unit-starts u us) ∙ t, d))

fixed-by : (p : Place) (us : List ℕ) → starts_place us ≡ false → (leading is_digit us ≡ 0 → ⊥)
    → over_step p us ≡ read (over_fixed p (fixed_number (take (leading is_digit us) us))) (leading is_digit us + 1)
unfolding over_step leading
fixed-by p [] t z = absurd (z refl)
fixed-by p (u ∷ us) t z =
    let more : 2 + leading is_digit us ≡ suc (leading is_digit us) + 1 = omega arith in
    by_cases (is_digit u) (λ d. rw (sym (unit-starts u us) ∙ t, d, more)) (λ d. absurd (z (rw d)))

module _ (f : ℕ) (least : 4 ≤ f) (most : f ≤ 6) where
  rows : (n : ℕ) (us : List ℕ) → (mark_token f 0 us ≡ place (place_at f)) × (mark_token (f + 23) 0 us ≡ over (place_at f)) × (mark_token (f + 26) n us ≡ over_fixed (place_at f) n)
  rows n us =
      let e : 4 + (f - 4) ≡ f = omega arith in
      rw e at (place-rows (f - 4) n us (omega arith))

  module _ (us : List ℕ) (b : Bool) (e : b ≡ starts_place us) where
    pub over-place : b ≡ true → (vs : List ℕ) → step_behind vs (Some (record { form = f + 23; argument = 0; more = 1 })) ≡ over_step (place_at f) us
    unfolding step_behind
    over-place t vs = rw (rows 0 vs).1 (sym (over_by (place_at f) us (sym e ∙ t)))

    module _ (n : ℕ) (k : n ≡ leading is_digit us) (none : b ≡ false) where
      pub over_none : n ≡ 0 → (s : Found Step) → ((vs : List ℕ) → step_behind vs s ≡ read (mark_token f 0 vs) 0) → (vs : List ℕ)
          → step_behind vs s ≡ over_step (place_at f) us
      over_none z s g vs = g vs ∙ rw (rows 0 vs).0 (sym (none-by (place_at f) us (sym e ∙ none) (sym k ∙ z)))

      pub over-fixed : (n ≡ 0 → ⊥) → (v : ℕ) → v ≡ fixed_number (take n us) → (vs : List ℕ)
          → step_behind vs (Some (record { form = f + 26; argument = v; more = n + 1 })) ≡ over_step (place_at f) us
      unfolding step_behind
      over-fixed z v w vs = rw ((rows v vs).2, w, k) (sym (fixed-by (place_at f) us (sym e ∙ none) (λ p. z (k ∙ p))))

  -- a place before a solidus, and before nothing or another unit
  pub place-over : (us : List ℕ) → starts_with (units "/") us ≡ true → (s : Found Step)
      → ((vs : List ℕ) → step_behind vs s ≡ over_step (place_at f) (drop 1 us)) → step_behind us s ≡ place_step (place_at f) us
  unfolding place_step starts_with units
  place-over [] t s e = no t
  place-over (u ∷ us) t s e =
      by_cases (eqb 47 u) (λ a. let z : u ≡ 47 = sym (eqb-true 47 u a) in rw z (e (47 ∷ us))) (λ a. no (rw a at t))

  pub place-alone : (us : List ℕ) → starts_with (units "/") us ≡ false → (s : Found Step)
      → ((vs : List ℕ) → step_behind vs s ≡ read (mark_token f 0 vs) 0) → step_behind us s ≡ place_step (place_at f) us
  unfolding place_step starts_with units
  place-alone [] t s e = e [] ∙ rw (rows 0 []).0
  place-alone (u ∷ us) t s e =
      by_cases (eqb 47 u) (λ a. no (sym (rw a at t)))
      (λ a. rw (turned u 47 a) (e (u ∷ us) ∙ rw (rows 0 (u ∷ us)).0))

  -- the same of the unit in front
  pub first-over : (us vs : List ℕ) (u : ℕ) → us ≡ u ∷ vs → u ≡ 47 → (s : Found Step)
      → ((ws : List ℕ) → step_behind ws s ≡ over_step (place_at f) vs) → step_behind us s ≡ place_step (place_at f) us
  unfolding starts_with units
  first-over us vs u e z s g = place-over us (rw (e, z) refl) s (rw e g)

  pub first-alone : (us vs : List ℕ) (u : ℕ) → us ≡ u ∷ vs → (u ≡ 47 → ⊥) → (s : Found Step)
      → ((ws : List ℕ) → step_behind ws s ≡ read (mark_token f 0 ws) 0) → step_behind us s ≡ place_step (place_at f) us
  unfolding starts_with units
  first-alone us vs u e z s g = place-alone us (rw (e, ne_eqb 47 u (λ p. z (sym p))) refl) s g

  pub last-alone : (us : List ℕ) → length us ≡ 0 → (s : Found Step)
      → ((ws : List ℕ) → step_behind ws s ≡ read (mark_token f 0 ws) 0) → step_behind us s ≡ place_step (place_at f) us
  unfolding starts_with units
  last-alone [] z s g = place-alone [] refl s g
  last-alone (u ∷ us) z s g = absurd (omega arith)
