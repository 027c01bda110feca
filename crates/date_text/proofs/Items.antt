-- Laws of items' texts: a part of a second, a half-day mark.
-- Assumes nothing.
use Prim.Native.Nat.{ℕ, ◌-◌, ◌/◌, ◌^◌, ◌≤◌}
use native.Mathlib.Nat.{div-one}
use native.Mathlib.Omega.{arith}
use mathlib.Core.Path.{◌≡◌, sym}
use mathlib.Core.Bool.{Bool, true, false, cond}
use mathlib.Core.List.{[], ◌∷◌, ◌++◌}
use borrow.Author.Tests.{ne_eqb}
use Rattle.calendar.specs.Names.{units}
use Rattle.formats.specs.Text.{half_units}
use Rattle.tables.specs.Decode.{half_at}

-- three digits of the thousandths are all of them
pub part-whole : (n t : ℕ) → 3 ≤ n → t ≡ t / 10 ^ (3 - n)
part-whole n t h = let e : 3 - n ≡ 0 = omega arith in rw e (sym (div-one t))

pub half-short : (mark : ℕ) (b : Bool) → mark ≡ 1 → half_units (half_at mark) b ≡ cond b 80 65 ∷ []
unfolding half_units half_at units
half-short mark true e = rw e
half-short mark false e = rw e

pub half-long : (mark : ℕ) (b : Bool) → ¬ (mark ≡ 1) → half_units (half_at mark) b ≡ (cond b 80 65 ∷ []) ++ (77 ∷ [])
unfolding half_units half_at units
half-long mark true h = simp (ne_eqb mark 1 h)
half-long mark false h = simp (ne_eqb mark 1 h)
