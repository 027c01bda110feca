-- The width of a number, found by tests against the powers of ten.
-- Assumes nothing.
use mathlib.Core.Path.{◌≡◌, refl, sym}
use Prim.Native.Nat.{ℕ, ◌+◌, ◌-◌, ◌*◌, ◌^◌, ◌<◌, ◌≤◌}
use native.Mathlib.Numerals.{add-one}
use native.Mathlib.Nat.{pow-suc}
use native.Mathlib.Omega.{arith}
use Rattle.figures.specs.Digits.{width}
use Rattle.figures.proofs.Tens.{ten-le}
use Rattle.figures.proofs.Digits.{width-unique}

-- the width, found by tests against the powers of ten from below; no number of 64 bits has more than 20 digits
pub record Wider (n w p : ℕ) : Type 0 where
  pub power : p ≡ 10 ^ w
  pub least : 1 ≤ w
  pub most : w ≤ 19
  pub below : 1 < w → 10 ^ (w - 1) ≤ n

pub wider-start : (n : ℕ) → Wider n 1 10
wider-start n = record { power = refl; least = omega arith; most = omega arith; below = λ h. absurd (omega arith) }

module _ {n w p : ℕ} (x : Wider n w p) where
  pub wider-fits : ¬ (w ≡ 19) → p * 10 < 2 ^ 64
  wider-fits h = omega (arith, x.power, x.most, ten-le w 18 (omega (arith, x.most)))

  pub wider-next : ¬ (w ≡ 19) → p ≤ n → Wider n (w + 1) (p * 10)
  wider-next h g =
      let e : w + 1 - 1 ≡ w = omega arith in
      record {
        power = rw (x.power, add-one) (sym (pow-suc 10 w));
        least = omega arith;
        most = omega (arith, x.most);
        below = λ _. rw (e, ← x.power) g;
      }

  pub wider-done : n < p → w ≡ width n
  wider-done h = sym (width-unique n w x.least (omega (arith, x.most)) (rw (← x.power) h) x.below)

  pub wider-most : n < 2 ^ 64 → w ≡ 19 → p ≤ n → 20 ≡ width n
  wider-most h e g =
      let f : p ≡ 10 ^ 19 = rw e at x.power in
      sym (width-unique n 20 (omega arith) (omega arith) (omega arith) (λ _. omega arith))
