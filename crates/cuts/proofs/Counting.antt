-- The decimals cut of m times 10^up / 10^down, counted at the end of m.
-- Assumes nothing.
use mathlib.Core.Path.{◌≡◌, sym, ap, ◌∙◌}
use mathlib.Core.Logic.{⊎_elim}
use mathlib.Core.Bool.{Bool, true, false, cond}
use Prim.Native.Nat.{ℕ, zero, suc, ◌+◌, ◌-◌, ◌*◌, ◌/◌, ◌%◌, ◌^◌, ◌≤◌, ◌<◌}
use native.Mathlib.Nat.{div-add-mod', eq_of_mul-eq-mul_right, mul_assoc, mul-mod_left, pow-suc}
use native.Mathlib.Omega.{arith}
use borrow.Author.Tests.{eqb-true, eqb-false, eq-eqb, ne_eqb}
use lib.Pow.{pow-add}
use lib.Dec.{eqb}
use Rattle.lists.proofs.Bools.{cond-case, cond_both, by_cases}
use Rattle.figures.specs.Rounding.{Magnitude}
use Rattle.figures.specs.Powers.{powered}
use Rattle.figures.proofs.Tens.{ten-pos, ten-split}
use Rattle.figures.proofs.Filling.{lt-or-le}
use Rattle.figures.proofs.Exactly.{eqb_same}
use Rattle.cuts.specs.Cut.{whole_at, decimals_of, decimals_cut}
use Rattle.cuts.specs.Turns.{digits_cut}
use Rattle.cuts.proofs.Least.{Least, least-unique, least-same, whole_by, decimals-least, cut-least}

-- the last k digits of m are zeros
abbrev pub ends_in : ℕ → ℕ → Bool
ends_in k m = eqb (m % 10 ^ k) 0

-- a common factor goes
scale-whole : (m b p : ℕ) → 0 < p → eqb (m * p % (b * p)) 0 ≡ eqb (m % b) 0
scale-whole m b p pos =
    let q : ℕ = m * p / (b * p) in
    let r : ℕ = m / b in
    eqb_same {a = m * p % (b * p)} {b = 0} {c = m % b} {d = 0}
    (λ e.
    let whole : m * p ≡ q * (b * p) = omega (arith, div-add-mod' (m * p) (b * p)) in
    ap (λ (a : ℕ). a % b) (eq_of_mul-eq-mul_right p pos m (q * b) (whole ∙ sym (mul_assoc q b p))) ∙ mul-mod_left q b)
    (λ e.
    let whole : m ≡ r * b = omega (arith, div-add-mod' m b) in
    ap (λ (a : ℕ). a % (b * p)) (ap (λ (a : ℕ). a * p) whole ∙ mul_assoc r b p) ∙ mul-mod_left r (b * p))

-- m times 10^up / 10^down times 10^j is whole where the digits that are left behind its point are zeros
module _ (m up down : ℕ) where
  pub powered-whole : (j : ℕ) → whole_at (powered m up down) j ≡ ends_in (down - (up + j)) m
  unfolding whole_at powered
  powered-whole j =
      let times : m * 10 ^ up * 10 ^ j ≡ m * 10 ^ (up + j) = mul_assoc m (10 ^ up) (10 ^ j) ∙ ap (λ (p : ℕ). m * p) (sym (pow-add 10 up j)) in
      ⊎_elim
      (λ (h : up + j < down).
      let r : ℕ = down - (up + j) in
      let p : ℕ = 10 ^ (up + j) in
      ap (λ (a : ℕ). eqb (a % 10 ^ down) 0) times
      ∙ ap (λ (b : ℕ). eqb (m * p % b) 0) (ten-split (up + j) down (omega arith))
      ∙ scale-whole m (10 ^ r) p (ten-pos (up + j)))
      (λ (h : down ≤ up + j).
      let none : down - (up + j) ≡ 0 = omega arith in
      whole_by (powered m up down) j (m * 10 ^ (up + j - down))
      (times ∙ ap (λ (p : ℕ). m * p) (ten-split down (up + j) h) ∙ sym (mul_assoc m (10 ^ (up + j - down)) (10 ^ down)))
      ∙ sym (ap (λ (k : ℕ). ends_in k m) none ∙ eq-eqb (m % 1) 0 (omega arith)))
      (lt-or-le (up + j) down)

  -- thirty are enough
  pub thirty-enough : down ≤ 30 → whole_at (powered m up down) 30 ≡ true
  thirty-enough h =
      let none : down - (up + 30) ≡ 0 = omega arith in
      powered-whole 30 ∙ ap (λ (k : ℕ). ends_in k m) none ∙ eq-eqb (m % 1) 0 (omega arith)

-- a zero at the end is passed over; another digit ends it
one_less : (m i : ℕ) → m % 10 ≡ 0 → ends_in (suc i) m ≡ ends_in i (m / 10)
one_less m i h =
    let tens : m ≡ m / 10 * 10 = omega (arith, div-add-mod' m 10) in
    ap (λ (a : ℕ). eqb (a % 10 ^ suc i) 0) tens
    ∙ ap (λ (b : ℕ). eqb (m / 10 * 10 % b) 0) (pow-suc 10 i)
    ∙ scale-whole (m / 10) (10 ^ i) 10 (omega arith)

no_zero : (m i : ℕ) → eqb (m % 10) 0 ≡ false → ends_in (suc i) m ≡ false
no_zero m i h =
    by_cases (ends_in (suc i) m)
    (λ t.
    let none : m % 10 ^ suc i ≡ 0 = eqb-true _ 0 t in
    let q : ℕ = m / 10 ^ suc i in
    let whole : m ≡ q * 10 ^ i * 10 =
    omega (arith, div-add-mod' m (10 ^ suc i)) ∙ ap (λ (p : ℕ). q * p) (pow-suc 10 i) ∙ sym (mul_assoc q (10 ^ i) 10) in
    absurd (eqb-false (m % 10) 0 h (ap (λ (a : ℕ). a % 10) whole ∙ mul-mod_left (q * 10 ^ i) 10)))
    (λ t. t)

digits-most : (m k : ℕ) → digits_cut m k ≤ k
unfolding digits_cut
digits-most m zero = omega arith
digits-most m (suc k) = cond_both (λ (n : ℕ). n ≤ suc k) (eqb (m % 10) 0) (omega (arith, digits-most (m / 10) k)) (omega arith)

digits-least : (m k : ℕ) → Least (λ (c : ℕ). ends_in (k - c) m) (digits_cut m k)
unfolding digits_cut
digits-least m zero = record { passes = eq-eqb (m % 1) 0 (omega arith); fewer = λ c h. absurd (omega arith) }
digits-least m (suc k) =
    let after : (c : ℕ) → c ≤ k → suc k - c ≡ suc (k - c) = λ c h. omega arith in
    cond-case (Least (λ (c : ℕ). ends_in (suc k - c) m)) (eqb (m % 10) 0)
    (λ t.
    let zero-end = eqb-true (m % 10) 0 t in
    let n : ℕ = digits_cut (m / 10) k in
    let l = digits-least (m / 10) k in
    let same : (c : ℕ) → c ≤ k → ends_in (suc k - c) m ≡ ends_in (k - c) (m / 10) =
    λ c h. ap (λ (i : ℕ). ends_in i m) (after c h) ∙ one_less m (k - c) zero-end in
    record {
      passes = same n (digits-most (m / 10) k) ∙ l.passes;
      fewer = λ c h. same c (omega (arith, digits-most (m / 10) k)) ∙ l.fewer c h;
    })
    (λ t.
    let none : suc k - suc k ≡ 0 = omega arith in
    record {
      passes = ap (λ (i : ℕ). ends_in i m) none ∙ eq-eqb (m % 1) 0 (omega arith);
      fewer = λ c h. ap (λ (i : ℕ). ends_in i m) (after c (omega arith)) ∙ no_zero m (k - c) t;
    })

-- so the code counts them
pub counted-cut : (m up down kept : ℕ) → down ≤ 30 → digits_cut m (down - (up + kept)) ≡ decimals_cut (powered m up down) kept
unfolding decimals_cut
counted-cut m up down kept h =
    let x : Magnitude = powered m up down in
    let k : ℕ = down - (up + kept) in
    let beyond : (c : ℕ) → ends_in (k - c) m ≡ whole_at x (kept + c) =
    λ c.
    let e : k - c ≡ down - (up + (kept + c)) = omega arith in
    ap (λ (i : ℕ). ends_in i m) e ∙ sym (powered-whole m up down (kept + c)) in
    least-unique (least-same beyond (digits-least m k)) (cut-least x kept (decimals_of x) (decimals-least x (thirty-enough m up down h)))

-- the loop: so many of the digits that are left are still to be looked at
pub record Counts (x : Magnitude) (kept rest k : ℕ) : Type 0 where
  pub few : k ≤ 30
  pub left : digits_cut rest k ≡ decimals_cut x kept

pub counts_start : (m up down kept : ℕ) {k : ℕ} → down ≤ 30 → k ≡ down - (up + kept) → Counts (powered m up down) kept m k
counts_start m up down kept h e = record { few = omega arith; left = ap (digits_cut m) e ∙ counted-cut m up down kept h }

module _ {x : Magnitude} {kept rest : ℕ} where
  pub counts-here : (k : ℕ) → Counts x kept rest k → 0 < k → (rest % 10 ≡ 0 → ⊥) → k ≡ decimals_cut x kept
  unfolding digits_cut
  counts-here zero l pos h = absurd (omega arith)
  counts-here (suc k) l pos h = sym (ap (λ (b : Bool). cond b (digits_cut (rest / 10) k) (suc k)) (ne_eqb (rest % 10) 0 h)) ∙ l.left

  pub counts-next : (k : ℕ) → Counts x kept rest k → 0 < k → rest % 10 ≡ 0 → Counts x kept (rest / 10) (k - 1)
  unfolding digits_cut
  counts-next zero l pos h = absurd (omega arith)
  counts-next (suc k) l pos h =
      let one : suc k - 1 ≡ k = omega arith in
      rw one
      (record {
        few = omega (arith, l.few);
        left = sym (ap (λ (b : Bool). cond b (digits_cut (rest / 10) k) (suc k)) (eq-eqb (rest % 10) 0 h)) ∙ l.left;
      })

  pub counts_end : (k : ℕ) → Counts x kept rest k → k ≤ 0 → 0 ≡ decimals_cut x kept
  unfolding digits_cut
  counts_end zero l h = l.left
  counts_end (suc k) l h = absurd (omega arith)

-- only the net power of ten counts
pub cut-net : (m u v w z d : ℕ) → v ≤ 30 → z ≤ 30 → u + z ≡ w + v → decimals_cut (powered m u v) d ≡ decimals_cut (powered m w z) d
cut-net m u v w z d hv hz e =
    let same : v - (u + d) ≡ z - (w + d) = omega arith in
    sym (counted-cut m u v d hv) ∙ ap (digits_cut m) same ∙ counted-cut m w z d hz
