-- The least number that passes a test, and that the decimals of a number are one.
-- Assumes nothing.
use mathlib.Core.Path.{◌≡◌, refl, sym, ap, ◌∙◌}
use mathlib.Core.Logic.{⊎_elim}
use mathlib.Core.Bool.{Bool, true, false, true≢false}
use Prim.Native.Nat.{ℕ, zero, suc, ◌+◌, ◌-◌, ◌*◌, ◌/◌, ◌%◌, ◌^◌, ◌≤◌, ◌<◌}
use native.Mathlib.Nat.{div-add-mod', eq_of_mul-eq-mul_right, mul_assoc, mul_comm, mul_right_comm, mul-mod_left, pow-suc}
use native.Mathlib.Omega.{arith}
use borrow.Author.Tests.{eqb-true, eq-eqb, ne_eqb}
use lib.Pow.{pow-add}
use lib.Dec.{eqb}
use Rattle.lists.proofs.Bools.{cond-case, true-T}
use Rattle.figures.specs.Rounding.{Magnitude, nearest, rounded, rounds_exactly}
use Rattle.figures.proofs.Tens.{ten-pos, ten-split}
use Rattle.figures.proofs.Filling.{lt-or-le}
use Rattle.figures.proofs.Rounding.{nearest-exact}
use Rattle.figures.proofs.Exactly.{eqb_same, eqb-scale}
use Rattle.cuts.specs.Cut.{whole_at, decimals_from, decimals_of, decimals_cut}
use Rattle.cuts.specs.Beyond.{CutOf}

-- n is the least number that passes
pub record Least (f : ℕ → Bool) (n : ℕ) : Type 0 where
  pub passes : f n ≡ true
  pub fewer : (k : ℕ) → k < n → f k ≡ false

-- there is one
pub least-unique : {f : ℕ → Bool} {n m : ℕ} → Least f n → Least f m → n ≡ m
least-unique {f} {n} {m} a b =
    ⊎_elim
    (λ (h : n < m). absurd (true≢false (sym a.passes ∙ b.fewer n h)))
    (λ (h : m ≤ n).
    ⊎_elim
    (λ (g : m < n). absurd (true≢false (sym b.passes ∙ a.fewer m g)))
    (λ (g : n ≤ m). omega arith)
    (lt-or-le m n))
    (lt-or-le n m)

pub least-same : {f g : ℕ → Bool} {n : ℕ} → ((k : ℕ) → f k ≡ g k) → Least f n → Least g n
least-same {f} {g} {n} e a = record { passes = sym (e n) ∙ a.passes; fewer = λ k h. sym (e k) ∙ a.fewer k h }

module _ (x : Magnitude) where
  -- enough decimals leave a whole number of the last of them
  pub whole_by : (j q : ℕ) → x.above * 10 ^ j ≡ q * x.below → whole_at x j ≡ true
  unfolding whole_at
  whole_by j q e = eq-eqb _ 0 (ap (λ (a : ℕ). a % x.below) e ∙ mul-mod_left q x.below)

  pub whole-quotient : (j : ℕ) → whole_at x j ≡ true → x.above * 10 ^ j ≡ x.above * 10 ^ j / x.below * x.below
  unfolding whole_at
  whole-quotient j h =
      let none : x.above * 10 ^ j % x.below ≡ 0 = eqb-true _ 0 h in
      omega (arith, div-add-mod' (x.above * 10 ^ j) x.below)

  -- more are enough too
  pub whole-more : (j k : ℕ) → whole_at x j ≡ true → whole_at x (j + k) ≡ true
  whole-more j k h =
      let q : ℕ = x.above * 10 ^ j / x.below in
      whole_by (j + k) (q * 10 ^ k)
      (ap (λ (p : ℕ). x.above * p) (pow-add 10 j k)
      ∙ sym (mul_assoc x.above (10 ^ j) (10 ^ k))
      ∙ ap (λ (a : ℕ). a * 10 ^ k) (whole-quotient j h)
      ∙ mul_right_comm q x.below (10 ^ k))

  from-whole : (j more k : ℕ) → k ≡ j + more → whole_at x k ≡ true → whole_at x (decimals_from x j more) ≡ true
  unfolding decimals_from
  from-whole j zero k e h = let same : k ≡ j = omega arith in rw (sym same) h
  from-whole j (suc more) k e h =
      cond-case (λ (n : ℕ). whole_at x n ≡ true) (whole_at x j) (λ t. t) (λ t. from-whole (suc j) more k (omega arith) h)

  from-fewer : (j more k : ℕ) → j ≤ k → k < decimals_from x j more → whole_at x k ≡ false
  unfolding decimals_from
  from-fewer j zero k h = λ less. absurd (omega arith)
  from-fewer j (suc more) k h =
      cond-case (λ (n : ℕ). k < n → whole_at x k ≡ false) (whole_at x j) (λ t less. absurd (omega arith))
      (λ t less.
      ⊎_elim
      (λ (g : j < k). from-fewer (suc j) more k (omega arith) less)
      (λ (g : k ≤ j). let same : k ≡ j = omega arith in rw same t)
      (lt-or-le j k))

  pub decimals-least : whole_at x 30 ≡ true → Least (whole_at x) (decimals_of x)
  unfolding decimals_of
  decimals-least h = record { passes = from-whole 0 30 30 refl h; fewer = λ k less. from-fewer 0 30 k (omega arith) less }

  -- those beyond the kept ones are the least number of further ones that is enough
  pub cut-least : (kept n : ℕ) → Least (whole_at x) n → Least (λ (k : ℕ). whole_at x (kept + k)) (n - kept)
  cut-least kept n l =
      let e : n + (kept - n) ≡ kept + (n - kept) = omega arith in
      record {
        passes = rw (sym e) (whole-more n (kept - n) l.passes);
        fewer = λ k h. l.fewer (kept + k) (omega arith);
      }

  -- the last decimal is no zero: else one less would be enough
  no-end-zero : (j : ℕ) → whole_at x (suc j) ≡ true → whole_at x j ≡ false → 0 < x.above * 10 ^ suc j / x.below % 10
  no-end-zero j h less =
      let q : ℕ = x.above * 10 ^ suc j / x.below in
      let b : ℕ = x.below in
      ⊎_elim
      (λ (some : 0 < q % 10). some)
      (λ (none : q % 10 ≤ 0).
      let tens : q ≡ q / 10 * 10 = omega (arith, div-add-mod' q 10) in
      let times : x.above * 10 ^ j * 10 ≡ q / 10 * b * 10 =
      mul_assoc x.above (10 ^ j) 10
      ∙ ap (λ (p : ℕ). x.above * p) (sym (pow-suc 10 j))
      ∙ whole-quotient (suc j) h
      ∙ ap (λ (y : ℕ). y * b) tens
      ∙ mul_right_comm (q / 10) 10 b in
      absurd (true≢false (sym (whole_by j (q / 10) (eq_of_mul-eq-mul_right 10 (omega arith) (x.above * 10 ^ j) (q / 10 * b) times)) ∙ less)))
      (lt-or-le 0 (q % 10))

  last-decimal : (n : ℕ) → Least (whole_at x) n → 0 < n → 0 < x.above * 10 ^ n / x.below % 10
  last-decimal zero l some = absurd (omega arith)
  last-decimal (suc j) l some = no-end-zero j l.passes (l.fewer j (omega arith))

  -- what is promised of them
  pub cut_of : (kept : ℕ) → whole_at x 30 ≡ true → 0 < x.below → CutOf x kept (decimals_cut x kept)
  unfolding decimals_cut
  cut_of kept h pos =
      let n : ℕ = decimals_of x in
      let l : Least (whole_at x) n = decimals-least h in
      let c : Least (λ (k : ℕ). whole_at x (kept + k)) (n - kept) = cut-least kept n l in
      record {
        decimals = n;
        figures = x.above * 10 ^ n / x.below;
        written = sym (whole-quotient n l.passes);
        no_end_zero = last-decimal n l;
        beyond = refl;
        enough = true-T c.passes;
        fewer = c.fewer;
      }

  -- nothing is cut where the kept ones are enough
  pub none-cut : (kept : ℕ) → whole_at x 30 ≡ true → whole_at x kept ≡ eqb (decimals_cut x kept) 0
  unfolding decimals_cut
  none-cut kept h =
      let n : ℕ = decimals_of x in
      let l : Least (whole_at x) n = decimals-least h in
      ⊎_elim
      (λ (less : kept < n). l.fewer kept less ∙ sym (ne_eqb (n - kept) 0 (λ e. absurd (omega arith))))
      (λ (enough : n ≤ kept).
      let e : n + (kept - n) ≡ kept = omega arith in
      rw (← e) (whole-more n (kept - n) l.passes) ∙ sym (eq-eqb (n - kept) 0 (omega arith)))
      (lt-or-le kept n)

  -- the rounded number is the exact one where the kept decimals are enough
  pub rounds-whole : (d : ℕ) → d ≤ 15 → 0 < x.below → rounds_exactly x d ≡ whole_at x d
  unfolding rounds_exactly rounded whole_at
  rounds-whole d most pos =
      let b : ℕ = x.below in
      let a : ℕ = x.above * 10 ^ d in
      let p : ℕ = 10 ^ (15 - d) in
      let q : ℕ = nearest a b in
      let unit : x.above * 10 ^ 15 ≡ a * p =
      ap (λ (y : ℕ). x.above * y) (ten-split d 15 most ∙ mul_comm p (10 ^ d)) ∙ sym (mul_assoc x.above (10 ^ d) p) in
      let whole = div-add-mod' a b in
      ap (λ (y : ℕ). eqb (q * p * b) y) unit
      ∙ ap (λ (y : ℕ). eqb y (a * p)) (mul_right_comm q p b)
      ∙ eqb-scale (q * b) a p (ten-pos (15 - d))
      ∙ eqb_same {a = q * b} {b = a} {c = a % b} {d = 0}
      (λ e. ap (λ (y : ℕ). y % b) (sym e) ∙ mul-mod_left q b)
      (λ e.
      let quotient : a ≡ a / b * b = omega (arith, whole) in
      ap (λ (y : ℕ). y * b) (ap (λ (y : ℕ). nearest y b) quotient ∙ nearest-exact (a / b) b pos) ∙ sym quotient)

  -- for the rounder "exact" and "nothing is cut" are the same
  pub exact-uncut : (d : ℕ) → d ≤ 15 → 0 < x.below → whole_at x 30 ≡ true → rounds_exactly x d ≡ eqb (decimals_cut x d) 0
  exact-uncut d most pos h = rounds-whole d most pos ∙ none-cut d h
