-- The exponent that the definition's search finds is the least, and what follows for the mantissa.
-- Assumes nothing.
use mathlib.Core.Path.{◌≡◌, refl, sym, ap, ◌∙◌}
use mathlib.Core.Bool.{false}
use Prim.Native.Nat.{ℕ, zero, suc, ◌+◌, ◌-◌, ◌*◌, ◌%◌, ◌^◌, ◌≤◌, ◌<◌}
use native.Mathlib.Nat.{mul-zero, mul-one, mul-mod_right, mul-le-mul, mul-le-mul_left, lt_of_le_of_lt}
use native.Mathlib.Omega.{arith}
use borrow.Author.Tests.{ltb-true, ltb-false, ne_eqb}
use lib.Dec.{T, ltb}
use Rattle.lists.proofs.Bools.{cond-case, true-T}
use Rattle.figures.specs.Rounding.{Magnitude, rounded}
use Rattle.figures.specs.Powers.{powered}
use Rattle.figures.proofs.Tens.{ten-le}
use Rattle.figures.proofs.Rounding.{powered-net}
use Rattle.exponents.specs.Exponent.{Exponent, under, over, decimal, mantissa_at, leaves, multiple, exponent_from, exponent_of, mantissa_of}
use Rattle.exponents.specs.Least.{LeastExponent}
use Rattle.exponents.proofs.Powered.{powered-least, powered-most, powered-step}
use Rattle.exponents.proofs.Least.{mantissa-powered, leaves-least, leaves-most, leaves_in, leaves-not, least_by}

-- the k-th multiple of n from -15 n on
module _ (n k : ℕ) where
  under_at : under (multiple n k) ≡ n * (15 - k)
  unfolding multiple under
  under_at =
      cond-case (λ (e : Exponent). under e ≡ n * (15 - k)) (ltb k 15) (λ t. refl)
      (λ t. let none : 15 - k ≡ 0 = omega (arith, ltb-false k 15 t) in sym (ap (λ (x : ℕ). n * x) none ∙ mul-zero n))

  over-at : over (multiple n k) ≡ n * (k - 15)
  unfolding multiple over
  over-at =
      cond-case (λ (e : Exponent). over e ≡ n * (k - 15)) (ltb k 15)
      (λ t. let none : k - 15 ≡ 0 = omega (arith, ltb-true k 15 t) in sym (ap (λ (x : ℕ). n * x) none ∙ mul-zero n))
      (λ t. refl)

  multiple-signed : 1 ≤ n → (multiple n k).size ≡ 0 → (multiple n k).below ≡ false
  unfolding multiple
  multiple-signed one =
      cond-case (λ (e : Exponent). e.size ≡ 0 → e.below ≡ false) (ltb k 15)
      (λ t e. absurd (omega (arith, mul-le-mul {n₁ = 1} {m₁ = 1} {n₂ = n} {m₂ = 15 - k} one (omega (arith, ltb-true k 15 t)))))
      (λ t e. refl)

  multiple-whole : (multiple n k).size % n ≡ 0
  unfolding multiple
  multiple-whole =
      cond-case (λ (e : Exponent). e.size % n ≡ 0) (ltb k 15) (λ t. mul-mod_right n (15 - k)) (λ t. mul-mod_right n (k - 15))

  pub multiple-most : k ≤ 30 → (multiple n k).size ≤ n * 15
  unfolding multiple
  multiple-most h =
      cond-case (λ (e : Exponent). e.size ≤ n * 15) (ltb k 15)
      (λ t. mul-le-mul_left n (omega arith)) (λ t. mul-le-mul_left n (omega arith))

spread-step : (n a b c e : ℕ) → a + b ≡ c + e + 1 → n * a + n * b ≡ n * c + n * e + n
spread-step n a b c e h = omega (arith, ap (λ (x : ℕ). n * x) h)

-- the next multiple is n further
multiple-next : (n k : ℕ) → under (multiple n k) + over (multiple n (suc k)) ≡ under (multiple n (suc k)) + over (multiple n k) + n
multiple-next n k =
    omega (arith, under_at n k, over-at n k, under_at n (suc k), over-at n (suc k), spread-step n (15 - k) (suc k - 15) (15 - suc k) (k - 15) (omega arith))

ten-reached : (m u v : ℕ) → 0 < m → v ≤ u → 10 ^ v ≤ m * 10 ^ u
ten-reached m u v pos h = omega (arith, mul-le-mul pos (ten-le v u h))

module _ (m s n d : ℕ) (pos : 0 < m) (small : m < 10 ^ 15) (scale : s ≤ 15) (one : 1 ≤ n) (most : d ≤ 15) where
  abbrev x : Magnitude
  x = decimal m s

  -- the search at the k-th multiple: there the mantissa is at least 1, and at the multiple before it has more than n digits
  record Reached (k : ℕ) : Type 0 where
    pub least : 10 ^ 15 ≤ mantissa_at x d (multiple n k)
    pub before : 10 ^ (15 + n) ≤ rounded (powered m (under (multiple n k) + n) (s + over (multiple n k))) d

  reached-start : Reached 0
  reached-start =
      let e : Exponent = multiple n 0 in
      let far : s + over e ≤ under e = omega (arith, under_at n 0, over-at n 0) in
      record {
        least = rw (mantissa-powered m s d e) (powered-least m (under e) (s + over e) 0 d most (ten-reached m (under e) (s + over e + 0) pos (omega arith)));
        before = powered-least m (under e + n) (s + over e) n d most (ten-reached m (under e + n) (s + over e + n) pos (omega arith));
      }

  reached-next : (k : ℕ) → 10 ^ (15 + n) ≤ mantissa_at x d (multiple n k) → Reached (suc k)
  reached-next k h =
      let e : Exponent = multiple n k in
      let f : Exponent = multiple n (suc k) in
      let here : 10 ^ (15 + n) ≤ rounded (powered m (under e) (s + over e)) d = rw (mantissa-powered m s d e) at h in
      record {
        least = rw (mantissa-powered m s d f, powered-net m (under f) (s + over f) (under e) (s + over e + n) d (omega (arith, multiple-next n k)))
            (powered-step m (under e) (s + over e) n d most here);
        before = rw (powered-net m (under f + n) (s + over f) (under e) (s + over e) d (omega (arith, multiple-next n k))) here;
      }

  -- at 15 n no more than one digit is left
  reached-end : mantissa_at x d (multiple n 30) < 10 ^ (15 + n)
  reached-end =
      let e : Exponent = multiple n 30 in
      let none : under e ≡ 0 = omega (arith, under_at n 30) in
      let far : 15 ≤ s + over e + 0 = omega (arith, over-at n 30) in
      let less : m * 10 ^ under e ≤ 10 ^ (s + over e + 0) = rw (none, mul-one m) (omega (arith, ten-le 15 (s + over e + 0) far)) in
      let digits : 10 ^ 15 < 10 ^ (15 + n) = omega (arith, ten-le 16 (15 + n) (omega arith)) in
      rw (mantissa-powered m s d e) (lt_of_le_of_lt (powered-most m (under e) (s + over e) 0 d most less) digits)

  found_at : (k : ℕ) → Reached k → T (leaves x n d (multiple n k)) → LeastExponent x n d (multiple n k)
  found_at k r t = least_by m s n d (multiple n k) (multiple-signed n k one) (multiple-whole n k) t r.before

  found_from : (more k : ℕ) → k + more ≡ 30 → Reached k → LeastExponent x n d (exponent_from x n d k more)
  unfolding exponent_from
  found_from zero k e r =
      let last : k ≡ 30 = omega arith in
      found_at k r (leaves_in x n d (multiple n k) r.least (rw last reached-end))
  found_from (suc more) k e r =
      cond-case (LeastExponent x n d) (leaves x n d (multiple n k))
      (λ t. found_at k r (true-T t))
      (λ f. found_from more (suc k) (omega arith) (reached-next k (leaves-not x n d (multiple n k) f r.least)))

  -- the exponent is the least multiple of n that leaves 1 to n integer digits after rounding
  pub exponent-least : LeastExponent x n d (exponent_of x n d)
  unfolding exponent_of
  exponent-least = rw (ne_eqb m 0 (λ e. omega arith)) (found_from 30 0 refl reached-start)

  -- the mantissa has 1 to n integer digits
  pub mantissa-digits : (10 ^ 15 ≤ mantissa_of x n d) × (mantissa_of x n d < 10 ^ (15 + n))
  unfolding mantissa_of
  mantissa-digits =
      let e : Exponent = exponent_of x n d in
      (leaves-least x n d e exponent-least.digits, leaves-most x n d e exponent-least.digits)
