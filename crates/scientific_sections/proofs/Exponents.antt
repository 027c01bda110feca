-- What a place shows of an exponent below 100: it is shown like an integer part, a count of 10^-15.
-- Assumes nothing.
use Prim.Native.Nat.{ℕ, zero, suc, ◌+◌, ◌-◌, ◌*◌, ◌/◌, ◌%◌, ◌^◌, ◌≤◌, ◌<◌}
use native.Mathlib.Nat.{add-zero, mul-div_cancel, mul-mod_left}
use native.Mathlib.Omega.{arith}
use mathlib.Core.Path.{◌≡◌, refl, sym, ap, ◌∙◌}
use mathlib.Core.Bool.{Bool, true, false, cond, not, ◌&&◌, ◌||◌}
use mathlib.Core.List.{List, [], ◌∷◌, ◌++◌, append-nil}
use lib.Dec.{leb, ltb, eqb}
use borrow.Author.Tests.{le-leb, lt-ltb, le-ltb, leb-true, leb-false, ltb-true, ltb-false, eqb-true, eqb-false, eq-eqb, ne_eqb}
use Rattle.lists.proofs.Bools.{by_cases, or-false, not-false}
use Rattle.figures.specs.Digits.{digit, digit_unit}
use Rattle.figures.proofs.Tens.{ten-pos, shift_one}
use Rattle.figures.proofs.Past.{Apart}
use Rattle.figures.proofs.Places.{div-higher, mod-lower}
use Rattle.formats.specs.Tokens.{Place, hash_place, space_place, ExponentMark, e_plus, e_minus}
use Rattle.formats.specs.Text.{Context, insignificant, idle_units, figure_units, extra_units, place_units, point_units, exponent_units}
use Rattle.calendar.specs.Names.{units}
use Rattle.figure_text.specs.Shown.{place_of_tag}
use Rattle.writing.specs.Put.{Put}
use Rattle.writing.proofs.Laws.{put-put}
use Rattle.scientific_sections.specs.Power.{ExponentIs, left_at, mark_of_tag}

module _ (size : ℕ) (h : size < 100) where
  -- from 10^2 up nothing is left
  left-none : (q : ℕ) → 17 ≤ q → size * 10 ^ 15 / 10 ^ q ≡ 0
  left-none q l =
      let n : ℕ = size * 10 ^ 15 in
      let two : n / 10 ^ 15 / 10 / 10 ≡ n / 10 ^ 17 = ap (λ (x : ℕ). x / 10) (shift_one n 15) ∙ shift_one n 16 in
      let whole : n / 10 ^ 15 ≡ size = mul-div_cancel size (ten-pos 15) in
      div-higher n 17 q l (sym two ∙ rw whole (omega arith))

  left-late : (q : ℕ) → 17 ≤ q → left_at size (suc q) ≡ 0
  unfolding left_at
  left-late q l = rw (ne_eqb (suc q) 16 (λ e. omega arith), ne_eqb (suc q) 17 (λ e. omega arith))

  left-early : (q : ℕ) → q < 15 → left_at size (suc q) ≡ 0
  unfolding left_at
  left-early q l = rw (ne_eqb (suc q) 16 (λ e. omega arith), ne_eqb (suc q) 17 (λ e. omega arith))

  left-quotient : (q : ℕ) → 15 ≤ q → size * 10 ^ 15 / 10 ^ q ≡ left_at size (suc q)
  unfolding left_at
  left-quotient q l =
      by_cases (eqb q 15) (λ e. rw (eqb-true q 15 e) (mul-div_cancel size (ten-pos 15)))
      (λ e. by_cases (eqb q 16)
      (λ f. rw (eqb-true q 16 f) (sym (shift_one (size * 10 ^ 15) 15) ∙ ap (λ (x : ℕ). x / 10) (mul-div_cancel size (ten-pos 15))))
      (λ f. let past = later (eqb-false q 15 e) (eqb-false q 16 f) in left-none q past ∙ sym (left-late q past)))
    where
      later : (q ≡ 15 → ⊥) → (q ≡ 16 → ⊥) → 17 ≤ q
      later e f = omega arith

  -- an insignificant zero is where nothing is left; else the lowest digit of what is left is shown
  pub figure-left : (p : Place) (q : ℕ) → figure_units (size * 10 ^ 15) false p q
      ≡ cond (eqb (left_at size (suc q)) 0) (idle_units p) (digit_unit (left_at size (suc q) % 10) ∷ [])
  unfolding figure_units insignificant digit
  figure-left p q =
      by_cases (leb 15 q)
      (λ t. rw (t, left-quotient q (leb-true 15 q t)))
      (λ t.
      let l = leb-false 15 q t in
      rw (t, left-early q l, mod-lower (size * 10 ^ 15) (suc q) 15 (omega arith) (mul-mod_left size (10 ^ 15))))

-- digits beyond the places: none, and one
unshown : (n q : ℕ) → 15 ≤ q → n / 10 ^ q ≡ 0 → figure_units n false hash_place q ≡ []
unfolding figure_units insignificant idle_units
unshown n q l e = rw (le-leb 15 q l, e)

extra-none : (n q count : ℕ) → 15 ≤ q → n / 10 ^ q ≡ 0 → extra_units n false q count ≡ []
unfolding extra_units
extra-none n q zero l e = refl
extra-none n q (suc count) l e =
    rw (unshown n (q + count) (omega arith) (div-higher n q (q + count) (omega arith) e)) (extra-none n q count l e)

extra-one : (n q count : ℕ) → 15 ≤ q → n / 10 ^ suc q ≡ 0 → extra_units n false q (suc count) ≡ figure_units n false hash_place q
unfolding extra_units
extra-one n q zero l e = append-nil (figure_units n false hash_place (q + 0)) ∙ ap (figure_units n false hash_place) (add-zero q)
extra-one n q (suc count) l e =
    rw (unshown n (q + suc count) (omega arith) (div-higher n (suc q) (q + suc count) (omega arith) e)) (extra-one n q count l e)

-- beyond the first place: a digit is left only over the last place, and one at most
module _ (size : ℕ) (h : size < 100) where
  ten-left : cond (eqb (size / 10) 0) [] (digit_unit (size / 10 % 10) ∷ []) ≡ cond (ltb 9 size) (digit_unit (size / 10) ∷ []) []
  ten-left =
      by_cases (ltb 9 size)
      (λ t. let l = ltb-true 9 size t in let d : size / 10 % 10 ≡ size / 10 = omega arith in rw (t, ne_eqb (size / 10) 0 (λ e. omega arith), d))
      (λ t. let l = ltb-false 9 size t in rw (t, eq-eqb (size / 10) 0 (omega arith)))

  small-left : (q : ℕ) → 16 ≤ q → left_at size (suc q) ≤ 9
  unfolding left_at
  small-left q l =
      by_cases (eqb q 16) (λ e. rw (eqb-true q 16 e) (omega arith))
      (λ e. let past : 17 ≤ q = later (eqb-false q 16 e) in rw (left-late size h q past) (omega arith))
    where
      later : (q ≡ 16 → ⊥) → 17 ≤ q
      later e = omega arith

  pub beyond-left : (q : ℕ) → 15 ≤ q → extra_units (size * 10 ^ 15) false (suc q) (39 - q)
      ≡ cond (ltb 9 (left_at size (suc q))) (digit_unit (left_at size (suc q) / 10) ∷ []) []
  unfolding left_at idle_units
  beyond-left q l =
      by_cases (eqb q 15)
      (λ e. rw (eqb-true q 15 e) (extra-one (size * 10 ^ 15) 16 23 (omega arith) (left-none size h 17 (omega arith)) ∙ figure-left size h hash_place 16 ∙ ten-left))
      (λ e.
      let past : 16 ≤ q = later (eqb-false q 15 e) in
      extra-none (size * 10 ^ 15) (suc q) (39 - q) (omega arith) (left-none size h (suc q) (omega arith))
      ∙ rw (le-ltb 9 (left_at size (suc q)) (small-left q past)))
    where
      later : (q ≡ 15 → ⊥) → 16 ≤ q
      later e = omega arith

-- what a place shows
module _ {size : ℕ} {below : Bool} {c : Context} (x : ExponentIs size below c) (h : size < 100) where
  pub place-left : (p : Place) (q a n : ℕ) → c.integer_places ≡ n → 1 ≤ n → a ≡ suc q
      → place_units c p q
      ≡ cond (eqb a (15 + n) && ltb 9 (left_at size a)) (digit_unit (left_at size a / 10) ∷ []) []
      ++ cond (eqb (left_at size a) 0) (idle_units p) (digit_unit (left_at size a % 10) ∷ [])
  unfolding place_units
  place-left p q a n e l g =
      rw (g, e, x.figures, x.ungrouped, lt-ltb 0 n (omega arith), figure-left size h p q)
      (by_cases (eqb (suc q) (15 + n))
      (λ t. let f = eqb-true (suc q) (15 + n) t in rw (t, beyond-left size h q (omega arith)))
      (λ t. rw t))

-- the point, where there is a place
pub point-bare : (c : Context) (n : ℕ) → c.integer_places ≡ n → 1 ≤ n → point_units c ≡ 46 ∷ []
unfolding point_units
point-bare c n e l = rw (e, ne_eqb n 0 (λ z. omega arith))

-- ---- the code's steps
-- what is left, by the argument
module _ (size a : ℕ) (h : size < 100) where
  pub left-units : a ≡ 16 → (size ≡ left_at size a) × (size < 100)
  unfolding left_at
  left-units e = rw e (refl, h)

  pub left-tens : a ≡ 17 → (size / 10 ≡ left_at size a) × (size / 10 < 100)
  unfolding left_at
  left-tens e = rw e (refl, omega arith)

  pub left-rest : Apart a 16 2 → (0 ≡ left_at size a) × (0 < 100)
  unfolding left_at
  left-rest o = rw (ne_eqb a 16 o.0.1, ne_eqb a 17 o.1) (refl, omega arith)

-- a place's own unit
abbrev lowest : ℕ → ℕ → List ℕ
lowest place left = cond (eqb left 0) (idle_units (place_of_tag place)) (digit_unit (left % 10) ∷ [])

module _ (place left : ℕ) where
  pub lowest-digit : (not (eqb left 0) || eqb place 4) ≡ true → lowest place left ≡ digit_unit (left % 10) ∷ []
  unfolding idle_units place_of_tag
  lowest-digit t = by_cases (eqb left 0) (λ z. rw (z, rw z at t, eqb-true left 0 z)) (λ z. rw z)

  module _ (t : (not (eqb left 0) || eqb place 4) ≡ false) where
    idle : lowest place left ≡ idle_units (cond (eqb place 5) hash_place space_place)
    unfolding place_of_tag
    idle = let o = or-false (not (eqb left 0)) (eqb place 4) t in rw (not-false (eqb left 0) o.0, o.1)

    pub lowest-none : place ≡ 5 → lowest place left ≡ []
    unfolding idle_units
    lowest-none e = idle ∙ rw e

    pub lowest-space : ¬ (place ≡ 5) → lowest place left ≡ 32 ∷ []
    unfolding idle_units
    lowest-space e = idle ∙ rw (ne_eqb place 5 e)

-- a place's text is put in two steps
pub put-left : {size : ℕ} {below : Bool} {c : Context} {l m o : List ℕ} {at b r : ℕ} (left : ℕ) (p : Place) (q a n : ℕ)
    → ExponentIs size below c → size < 100 → c.integer_places ≡ n → 1 ≤ n → a ≡ suc q → left ≡ left_at size a
    → Put l at (cond (eqb a (15 + n) && ltb 9 left) (digit_unit (left / 10) ∷ []) []) b m
    → Put m b (cond (eqb left 0) (idle_units p) (digit_unit (left % 10) ∷ [])) r o → Put l at (place_units c p q) r o
put-left left p q a n i h e some g d x y = rw (place-left i h p q a n e some g) (put-put (rw d at x) (rw d at y))

-- an E and its sign
pub mark-minus : (m : ExponentMark) (below : Bool) → below ≡ true → exponent_units m below ≡ 69 ∷ 45 ∷ []
unfolding exponent_units units
mark-minus e_plus below e = rw e
mark-minus e_minus below e = rw e

pub mark-plus : (t : ℕ) (below : Bool) → below ≡ false → t ≡ 22 → exponent_units (mark_of_tag t) below ≡ 69 ∷ 43 ∷ []
unfolding exponent_units units mark_of_tag
mark-plus t below e f = rw (e, f)

pub mark-bare : (t : ℕ) (below : Bool) → below ≡ false → (t ≡ 22 → ⊥) → exponent_units (mark_of_tag t) below ≡ 69 ∷ []
unfolding exponent_units units mark_of_tag
mark-bare t below e f = rw (e, ne_eqb t 22 f)
