-- The least exponent: how it is told, and that there is one at most.
-- Assumes nothing.
use mathlib.Core.Path.{◌≡◌, sym, ap, ap₂, ◌∙◌}
use mathlib.Core.Bool.{Bool, true, false, true≢false}
use Prim.Native.Nat.{ℕ, ◌+◌, ◌*◌, ◌/◌, ◌%◌, ◌^◌, ◌≤◌, ◌<◌}
use native.Mathlib.Nat.{add-mod, zero-mod, div-add-mod', lt_of_mul-lt-mul_right, mul-le-mul_right, suc-mul, lt_of_lt_of_le, le_trans, lt_irrefl}
use native.Mathlib.Omega.{arith}
use borrow.Author.Tests.{leb-false, le-leb, lt-ltb, ltb-false}
use lib.Pow.{pow-add}
use lib.Dec.{T, leb, ltb, leb→le, ltb→lt}
use Rattle.lists.proofs.Bools.{by_cases, cond_both, true-T, and_left, and_right, and_in}
use Rattle.figures.specs.Rounding.{Magnitude, rounded}
use Rattle.figures.specs.Powers.{powered}
use Rattle.exponents.specs.Exponent.{Exponent, under, over, decimal, divided_by, mantissa_at, leaves}
use Rattle.exponents.specs.Least.{at_most, LeastExponent}
use Rattle.exponents.proofs.Powered.{powered-monotone}

-- x / 10^e and the mantissa by their net power of ten
pub divided-powered : (m s : ℕ) (e : Exponent) → divided_by (decimal m s) e ≡ powered m (under e) (s + over e)
unfolding divided_by powered
divided-powered m s e = ap (λ (b : ℕ). record { above = m * 10 ^ under e; below = b }) (sym (pow-add 10 s (over e)))

pub mantissa-powered : (m s d : ℕ) (e : Exponent) → mantissa_at (decimal m s) d e ≡ rounded (powered m (under e) (s + over e)) d
unfolding mantissa_at
mantissa-powered m s d e = ap (λ (x : Magnitude). rounded x d) (divided-powered m s e)

-- what "1 to n integer digits" says
module _ (x : Magnitude) (n d : ℕ) (e : Exponent) where
  pub leaves-least : T (leaves x n d e) → 10 ^ 15 ≤ mantissa_at x d e
  unfolding leaves
  leaves-least t = search (and_left, leb→le)

  pub leaves-most : T (leaves x n d e) → mantissa_at x d e < 10 ^ (15 + n)
  unfolding leaves
  leaves-most t = search (and_right, ltb→lt)

  pub leaves_in : 10 ^ 15 ≤ mantissa_at x d e → mantissa_at x d e < 10 ^ (15 + n) → T (leaves x n d e)
  unfolding leaves
  leaves_in h g =
      and_in (leb (10 ^ 15) (mantissa_at x d e)) (ltb (mantissa_at x d e) (10 ^ (15 + n))) (true-T (le-leb _ _ h)) (true-T (lt-ltb _ _ g))

  pub leaves-not : leaves x n d e ≡ false → 10 ^ 15 ≤ mantissa_at x d e → 10 ^ (15 + n) ≤ mantissa_at x d e
  unfolding leaves
  leaves-not f h = ltb-false (mantissa_at x d e) (10 ^ (15 + n)) (rw (le-leb (10 ^ 15) (mantissa_at x d e) h) at f)

-- multiples of n
module _ (n : ℕ) where
  pub sum-multiple : (a b : ℕ) → a % n ≡ 0 → b % n ≡ 0 → (a + b) % n ≡ 0
  sum-multiple a b h g = add-mod a b n ∙ ap₂ (λ (x y : ℕ). (x + y) % n) h g ∙ zero-mod n

  -- two that are apart are apart by n
  pub multiples-apart : (a b : ℕ) → a % n ≡ 0 → b % n ≡ 0 → a < b → a + n ≤ b
  multiples-apart a b h g less =
      let p : ℕ = a / n in
      let q : ℕ = b / n in
      let ea : p * n ≡ a = omega (arith, div-add-mod' a n) in
      let eb : q * n ≡ b = omega (arith, div-add-mod' b n) in
      let quotients : p < q = lt_of_mul-lt-mul_right n {m = p} {n = q} (omega arith) in
      omega (arith, mul-le-mul_right n quotients, suc-mul p n)

  under-multiple : (e : Exponent) → e.size % n ≡ 0 → under e % n ≡ 0
  unfolding under
  under-multiple e h = cond_both (λ (x : ℕ). x % n ≡ 0) e.below h (zero-mod n)

  over-multiple : (e : Exponent) → e.size % n ≡ 0 → over e % n ≡ 0
  unfolding over
  over-multiple e h = cond_both (λ (x : ℕ). x % n ≡ 0) e.below (zero-mod n) h

  -- a multiple below e is n below it at least
  pub lower-multiple : (e f : Exponent) → e.size % n ≡ 0 → f.size % n ≡ 0 → over f + under e < over e + under f
      → over f + under e + n ≤ over e + under f
  lower-multiple e f h g =
      multiples-apart (over f + under e) (over e + under f)
      (sum-multiple (over f) (under e) (over-multiple f g) (under-multiple e h))
      (sum-multiple (over e) (under f) (over-multiple e h) (under-multiple f g))

module _ (m s n d : ℕ) where
  -- an exponent that leaves 1 to n digits, where the multiple before it leaves more, is the least
  pub least_by : (e : Exponent) → (e.size ≡ 0 → e.below ≡ false) → e.size % n ≡ 0 → T (leaves (decimal m s) n d e)
      → 10 ^ (15 + n) ≤ rounded (powered m (under e + n) (s + over e)) d → LeastExponent (decimal m s) n d e
  unfolding at_most
  least_by e sign whole left before = record {
    signed = sign;
    multiple = whole;
    digits = left;
    least = λ f g t.
        by_cases (leb (over e + under f) (over f + under e)) true-T
        (λ no.
        let lower = lower-multiple n e f whole g (leb-false (over e + under f) (over f + under e) no) in
        let more : 10 ^ (15 + n) ≤ mantissa_at (decimal m s) d f =
        rw (mantissa-powered m s d f) (le_trans before (powered-monotone m (under e + n) (s + over e) (under f) (s + over f) d (omega arith))) in
        absurd (lt_irrefl _ (lt_of_lt_of_le (leaves-most (decimal m s) n d f t) more)));
  }

-- two exponents that are each at most the other are one
same-exponent : (a b : ℕ) (p q : Bool) → (a ≡ 0 → p ≡ false) → (b ≡ 0 → q ≡ false)
    → T (at_most (record { size = a; below = p }) (record { size = b; below = q }))
    → T (at_most (record { size = b; below = q }) (record { size = a; below = p }))
    → ◌≡◌ {A = Exponent} (record { size = a; below = p }) (record { size = b; below = q })
unfolding at_most under over
same-exponent a b true true h g t u =
    ap (λ (x : ℕ). record { size = x; below = true }) (omega (arith, leb→le (0 + b) (0 + a) t, leb→le (0 + a) (0 + b) u))
same-exponent a b false false h g t u =
    ap (λ (x : ℕ). record { size = x; below = false }) (omega (arith, leb→le (a + 0) (b + 0) t, leb→le (b + 0) (a + 0) u))
same-exponent a b true false h g t u = absurd (true≢false (h (omega (arith, leb→le (b + a) 0 u))))
same-exponent a b false true h g t u = absurd (true≢false (g (omega (arith, leb→le (a + b) 0 t))))

-- there is one least exponent at most
pub exponent-unique : {x : Magnitude} {n d : ℕ} {e f : Exponent} → LeastExponent x n d e → LeastExponent x n d f → e ≡ f
exponent-unique {x} {n} {d} {e} {f} p q =
    same-exponent e.size f.size e.below f.below p.signed q.signed
    (p.least f q.multiple q.digits) (q.least e p.multiple p.digits)
