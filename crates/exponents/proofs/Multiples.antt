-- The multiples of n that the code makes, in its own words.
-- Assumes nothing.
use mathlib.Core.Path.{◌≡◌, refl, sym, ap, ◌∙◌}
use mathlib.Core.Logic.{⊎_elim}
use Prim.Native.Nat.{ℕ, ◌+◌, ◌-◌, ◌*◌, ◌/◌, ◌%◌, ◌^◌, ◌≤◌, ◌<◌}
use native.Mathlib.Nat.{zero-mod, mod-lt, mod-eq-sub-mod, add-mod_right, div-add-mod', mul-mod_left, mul-le-mul_right, mul-lt-mul_of_pos_right, mul_assoc, le_trans, lt_of_lt_of_le, lt_of_mul-lt-mul_right, add_comm, mul-one}
use native.Mathlib.Omega.{arith}
use lib.Pow.{pow-add}
use Rattle.figures.specs.Rounder.{Roundable}
use Rattle.figures.specs.Digits.{width}
use Rattle.figures.proofs.Tens.{ten-pos, ten-le, ten-split}
use Rattle.figures.proofs.Digits.{width-least, width-within, width_above, width-below}
use Rattle.figures.proofs.Filling.{lt-or-le}
use Rattle.exponents.specs.Leading.{MultipleBy, Leading, Next}
use Rattle.exponents.proofs.Least.{multiples-apart}

pub rest-most : (p n : ℕ) → p % n ≤ p
rest-most p n = omega (arith, div-add-mod' p n)

-- a number without its rest is a multiple
without-rest : (p n x : ℕ) → x + p % n ≡ p → x % n ≡ 0
without-rest p n x e =
    let whole : x ≡ p / n * n = omega (arith, div-add-mod' p n) in
    ap (λ (y : ℕ). y % n) whole ∙ mul-mod_left (p / n) n

module _ {n u o : ℕ} (by : MultipleBy n u o) where
  pub next-room : 0 < u → n ≤ u
  next-room h = omega (arith, multiples-apart n 0 u (zero-mod n) by.below h)

  pub next_under : 0 < u → Next n u o (u - n) o
  next_under h =
      let room = next-room h in
      record {
        multiple = record { one_side = λ _. by.one_side h; below = sym (mod-eq-sub-mod room) ∙ by.below; above = by.above };
        net = omega arith;
        small = omega arith;
      }

  pub next-over : u ≤ 0 → Next n u o u (o + n)
  next-over h = record {
    multiple = record { one_side = λ g. absurd (omega arith); below = by.below; above = add-mod_right o n ∙ by.above };
    net = omega arith;
    small = omega arith;
  }

-- a number of w digits between powers of ten
module _ (m w : ℕ) where
  powers-least : 10 ^ (w - 1) ≤ m → (u v : ℕ) → v ≤ w - 1 + u → 10 ^ v ≤ m * 10 ^ u
  powers-least h u v g = le_trans (ten-le v (w - 1 + u) g) (rw (pow-add 10 (w - 1) u) (mul-le-mul_right (10 ^ u) h))

  powers-most : m < 10 ^ w → (u v : ℕ) → w + u ≤ v → m * 10 ^ u < 10 ^ v
  powers-most h u v g = lt_of_lt_of_le (rw (pow-add 10 w u) (mul-lt-mul_of_pos_right h (ten-pos u))) (ten-le (w + u) v g)

module _ {m w : ℕ} (wide : w ≡ width m) (pos : 0 < m) (small : m < 10 ^ 15) where
  wide-above : m < 10 ^ w
  wide-above = rw wide (width_above m (omega arith))

  pub wide-least : 1 ≤ w
  wide-least = omega (arith, width-least m)

  wide_below : 10 ^ (w - 1) ≤ m
  wide_below =
      ⊎_elim (λ (h : 1 < w). rw wide (width-below m (omega arith)))
      (λ (h : w ≤ 1). let e : w - 1 ≡ 0 = omega arith in rw e pos)
      (lt-or-le 1 w)

  pub wide-most : w ≤ 15
  wide-most = omega (arith, width-within m 15 (omega arith) small)

  -- the leading digit is behind the point: zeros stand between
  pub leads-under : (s n : ℕ) → 1 ≤ n → w ≤ s → (u : ℕ) → u + (s - w) % n ≡ s - w + n → Leading m s n u 0
  leads-under s n one h u e =
      let rest = mod-lt (s - w) one in
      let before : u - n + (s - w) % n ≡ s - w = omega (arith, rest-most (s - w) n) in
      record {
        multiple = record {
          one_side = λ _. refl;
          below = mod-eq-sub-mod {n = u} {m = n} (omega (arith, rest-most (s - w) n)) ∙ without-rest (s - w) n (u - n) before;
          above = zero-mod n;
        };
        least = powers-least m w wide_below u (s + 0) (omega (arith, wide-least));
        most = powers-most m w wide-above u (s + 0 + n) (omega arith);
        under_small = omega arith;
        over_small = omega arith;
      }

  -- it is before the point
  pub leads-over : (s n : ℕ) → 1 ≤ n → s < w → (o : ℕ) → o + (w - 1 - s) % n ≡ w - 1 - s → Leading m s n 0 o
  leads-over s n one h o e =
      let rest = mod-lt (w - 1 - s) one in
      record {
        multiple = record { one_side = λ g. absurd (omega arith); below = zero-mod n; above = without-rest (w - 1 - s) n o e };
        least = powers-least m w wide_below 0 (s + o) (omega arith);
        most = powers-most m w wide-above 0 (s + o + n) (omega arith);
        under_small = omega arith;
        over_small = omega (arith, wide-most);
      }

-- a number below 10^n is in the rounder's reach
pub leading-roundable : {m s n u o d : ℕ} → Leading m s n u o → m < 10 ^ 15 → n ≤ 20 → d ≤ 15 → Roundable m (u - (s + o)) d
leading-roundable {m} {s} {n} {u} {o} l small most hd =
    let v : ℕ = s + o in
    let near : v ≤ u → m * 10 ^ (u - v) < 10 ^ n =
    λ h. lt_of_mul-lt-mul_right (10 ^ v) {m = m * 10 ^ (u - v)} {n = 10 ^ n}
    (rw (mul_assoc m (10 ^ (u - v)) (10 ^ v), ← ten-split v u h, ← pow-add 10 n v, add_comm n v) l.most) in
    record {
      whole = ⊎_elim (λ (h : v < u). lt_of_lt_of_le (near (omega arith)) (ten-le n 25 (omega arith)))
          (λ (h : u ≤ v). let e : u - v ≡ 0 = omega arith in rw (e, mul-one m) (lt_of_lt_of_le small (ten-le 15 25 (omega arith))))
          (lt-or-le v u);
      power = omega (arith, l.under_small);
      decimals = hd;
    }
