-- The widest of the rows: none of those filled is longer, and one of them has it.
-- Assumes nothing.
use Prim.Native.Nat.{ℕ, zero, suc, ◌≤◌, ◌<◌, max}
use native.Mathlib.Omega.{arith}
use mathlib.Core.Path.{◌≡◌, refl, sym, ◌∙◌}
use mathlib.Core.Bool.{false}
use mathlib.Core.List.{List, [], ◌∷◌, map}
use lib.Dec.{eqb, ltb}
use lib.ListN.{length, get_or}
use borrow.Author.Tests.{ltb-true, ltb-false}
use Rattle.std.proofs.Common.{fold, zip}
use Rattle.lists.proofs.Bools.{no, by_cases, cond-case}
use Rattle.boards.specs.Boards.{length_in, widest_from}

-- a row that is filled has its length
filled-length : (f n : ℕ) → eqb f 0 ≡ false → length_in f n ≡ n
unfolding length_in
filled-length f n e = rw e

-- and one that has a length is filled
length-filled : (f n : ℕ) → 0 < length_in f n → (eqb f 0 ≡ false) × (n ≡ length_in f n)
unfolding length_in
length-filled f n = cond-case (λ (x : ℕ). 0 < x → (eqb f 0 ≡ false) × (n ≡ x)) (eqb f 0) (λ e h. absurd (omega arith)) (λ e h. (e, refl))

pub least-widest : (w : ℕ) (fs ns : List ℕ) → w ≤ widest_from w fs ns
unfolding widest_from
least-widest w [] ns = omega arith
least-widest w (f ∷ fs) [] = omega arith
least-widest w (f ∷ fs) (n ∷ ns) = omega (arith, least-widest (max w (length_in f n)) fs ns)

pub none-longer : (w : ℕ) (fs ns : List ℕ) (k : ℕ) → eqb (get_or fs k 0) 0 ≡ false → get_or ns k 0 ≤ widest_from w fs ns
unfolding widest_from
none-longer w [] ns k e = no (sym e)
none-longer w (f ∷ fs) [] k e = omega arith
none-longer w (f ∷ fs) (n ∷ ns) zero e = omega (arith, filled-length f n e, least-widest (max w (length_in f n)) fs ns)
none-longer w (f ∷ fs) (n ∷ ns) (suc k) e = none-longer (max w (length_in f n)) fs ns k e

-- a row that is filled and as long as this
pub record Found (fs ns : List ℕ) (w : ℕ) : Type 0 where
  pub row : ℕ
  pub there : row < length fs
  pub filled : eqb (get_or fs row 0) 0 ≡ false
  pub is : get_or ns row 0 ≡ w

later : {f n : ℕ} {fs ns : List ℕ} {w : ℕ} → Found fs ns w → Found (f ∷ fs) (n ∷ ns) w
later x = record { row = suc x.row; there = omega (arith, x.there); filled = x.filled; is = x.is }

found : (w : ℕ) (fs ns : List ℕ) → w < widest_from w fs ns → Found fs ns (widest_from w fs ns)
unfolding widest_from
found w [] ns h = absurd (omega arith)
found w (f ∷ fs) [] h = absurd (omega arith)
found w (f ∷ fs) (n ∷ ns) h =
    by_cases (ltb (max w (length_in f n)) (widest_from (max w (length_in f n)) fs ns))
    (λ e. later (found (max w (length_in f n)) fs ns (ltb-true (max w (length_in f n)) (widest_from (max w (length_in f n)) fs ns) e)))
    (λ e.
    let s : max w (length_in f n) ≡ widest_from (max w (length_in f n)) fs ns = omega (arith, ltb-false (max w (length_in f n)) (widest_from (max w (length_in f n)) fs ns) e, least-widest (max w (length_in f n)) fs ns) in
    let d = length-filled f n (omega arith) in
    record { row = 0; there = omega arith; filled = d.0; is = d.1 ∙ omega arith })

-- a width that was counted from 0 on, where it is not 0
pub found_from : {w : ℕ} (fs ns : List ℕ) {x : ℕ} → x ≡ widest_from w fs ns → w ≡ 0 → 0 < x → Found fs ns x
found_from {w} fs ns e z h = rw e (found w fs ns (omega (arith, e)))

-- ---- the walk over the rows
pub fold-widest : (w : ℕ) (fs ns : List ℕ) → fold max w (map (λ (row : ℕ × ℕ). length_in row.0 row.1) (zip fs ns)) ≡ widest_from w fs ns
unfolding widest_from
fold-widest w [] ns = refl
fold-widest w (f ∷ fs) [] = refl
fold-widest w (f ∷ fs) (n ∷ ns) = fold-widest (max w (length_in f n)) fs ns
