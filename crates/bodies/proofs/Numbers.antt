-- Digits at the start of units, and the number of digits in a count of places.
-- Assumes nothing.
use Prim.Native.Nat.{ℕ, zero, suc, ◌+◌, ◌-◌, ◌*◌, ◌^◌, ◌≤◌, ◌<◌}
use mathlib.Core.Path.{◌≡◌, refl, sym, ap, ◌∙◌}
use mathlib.Core.Bool.{true, true≢false}
use mathlib.Core.List.{List, [], ◌∷◌, map}
use native.Mathlib.Omega.{arith}
use native.Mathlib.Numerals.{add-one}
use native.Mathlib.Nat.{le_of_suc-le-suc, pow-suc, pow-le-pow_right, sub-zero}
use lib.Dec.{leb, ltb}
use borrow.Author.Tests.{leb-true, ltb-true, ltb-false}
use lib.ListN.{length, take, drop, get_or, get_or-eq_default, drop_of_length-le}
use lib.Seq.{drop-cons}
use Rattle.lists.specs.Lists.{every}
use Rattle.lists.proofs.Bools.{by_cases}
use Rattle.formats.specs.Tokens.{leading, is_digit, digit_of, number_from}
use Rattle.bodies.specs.Conditions.{padded, padded_number}

-- ---- how many digits lead
pub leading-digits : (us : List ℕ) → every is_digit (take (leading is_digit us) us) ≡ true
unfolding leading every
leading-digits [] = refl
leading-digits (u ∷ us) = by_cases (is_digit u) (λ e. rw (e, e) (leading-digits us)) (λ e. rw e)

-- ---- digits in places
digit-at : (us : List ℕ) (i : ℕ) → every is_digit us ≡ true → is_digit (get_or us i 48) ≡ true
unfolding every is_digit
digit-at [] i e = refl
digit-at (u ∷ us) zero e = by_cases (is_digit u) (λ a. a) (λ a. absurd (true≢false (sym (rw a at e))))
digit-at (u ∷ us) (suc i) e = by_cases (is_digit u) (λ a. digit-at us i (rw a at e)) (λ a. absurd (true≢false (sym (rw a at e))))

pub digit-range : (us : List ℕ) (i : ℕ) → every is_digit us ≡ true → (48 ≤ get_or us i 48) × (get_or us i 48 ≤ 57)
unfolding is_digit
digit-range us i e =
    let t = digit-at us i e in
    by_cases (leb 48 (get_or us i 48))
    (λ a. by_cases (leb (get_or us i 48) 57) (λ b. (leb-true 48 _ a, leb-true _ 57 b)) (λ b. absurd (true≢false (sym (rw (a, b) at t)))))
    (λ a. absurd (true≢false (sym (rw a at t))))

padded-step : (us : List ℕ) (i k : ℕ) → padded (suc k) (drop i us) ≡ digit_of (get_or us i 48) ∷ padded k (drop (i + 1) us)
unfolding padded digit_of
padded-step us i k = by_cases (ltb i (length us))
    (λ e. rw (add-one i, drop-cons us i 48 (ltb-true i (length us) e)))
    (λ e. let h = ltb-false i (length us) e in rw (drop_of_length-le us {i = i} h, drop_of_length-le us {i = i + 1} (omega arith), get_or-eq_default us 48 {n = i} h))

-- what the loop of `number` keeps
pub record Numbering (us : List ℕ) (places v i : ℕ) : Type 0 where
  pub digits : every is_digit us ≡ true
  pub most : places ≤ 9
  pub inside : i ≤ places
  pub small : v < 10 ^ i
  pub same : padded_number places us ≡ number_from v (padded (places - i) (drop i us))

pub numbering_start : (us : List ℕ) (places : ℕ) → places ≤ 9 → every is_digit us ≡ true → Numbering us places 0 0
unfolding padded_number
numbering_start us places h e = record { digits = e; most = h; inside = omega arith; small = omega arith; same = rw (sub-zero places) }

module _ (us : List ℕ) (places v i : ℕ) (inv : Numbering us places v i) where
  pub numbering-room : i < places → 10 * v + 9 < 4294967296
  numbering-room h = let k = inv.small in let m = inv.most in let p : 10 ^ i ≤ 10 ^ 8 = pow-le-pow_right {n = 10} (omega arith) {i = i} {j = 8} (omega arith) in omega arith

  pub numbering-end : places ≤ i → (v ≡ padded_number places us) × (v < 10 ^ places)
  unfolding padded number_from
  numbering-end h =
      let e : i ≡ places = let k = inv.inside in omega arith in
      let z : places - i ≡ 0 = omega arith in
      (sym (rw z at inv.same), rw (← e) inv.small)

  pub numbering-step : i < places → (u d : ℕ) → u ≡ get_or us i 48 → d ≡ u - 48 → Numbering us places (10 * v + d) (i + 1)
  unfolding number_from digit_of
  numbering-step h u d g e =
      let l = digit-range us i inv.digits in
      let z : places - i ≡ suc (places - (i + 1)) = omega arith in
      record {
        digits = inv.digits;
        most = inv.most;
        inside = omega arith;
        small = rw (add-one i, pow-suc 10 i) (let k = inv.small in omega arith);
        same = inv.same ∙ rw (z, padded-step us i (places - (i + 1)), ← g, ← e);
      }

-- ---- a padded number
ten-times : (v p : ℕ) → (10 * v + 0) * p ≡ v * (p * 10)
ten-times v p = omega arith

zeros-number : (v k : ℕ) → number_from v (padded k []) ≡ v * 10 ^ k
unfolding number_from padded
zeros-number v zero = omega arith
zeros-number v (suc k) = zeros-number (10 * v + 0) k ∙ ten-times v (10 ^ k) ∙ ap (λ (n : ℕ). v * n) (sym (pow-suc 10 k))

padded-from : (v k : ℕ) (us : List ℕ) → length us ≤ k → number_from v (padded k us) ≡ number_from v (map digit_of us) * 10 ^ (k - length us)
unfolding number_from padded
padded-from v k [] h = rw (sub-zero k) (zeros-number v k)
padded-from v zero (u ∷ us) h = absurd (omega arith)
padded-from v (suc k) (u ∷ us) h =
    let z : suc k - suc (length us) ≡ k - length us = omega arith in
    rw z (padded-from (10 * v + digit_of u) k us (le_of_suc-le-suc h))

-- the digits and zeros behind these
pub padded-number : (k : ℕ) (us : List ℕ) → length us ≤ k → padded_number k us ≡ number_from 0 (map digit_of us) * 10 ^ (k - length us)
unfolding padded_number
padded-number k us h = padded-from 0 k us h
