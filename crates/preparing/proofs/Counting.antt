-- The loop that counts sections.
-- Assumes nothing.
use Prim.Native.Nat.{ℕ, ◌+◌, ◌≤◌, ◌<◌}
use native.Mathlib.Omega.{arith}
use native.Mathlib.Numerals.{add-one}
use mathlib.Core.Path.{◌≡◌, refl, sym, ◌∙◌}
use mathlib.Core.Bool.{Bool, true, false, cond, not, ◌&&◌, ◌||◌}
use mathlib.Core.List.{List}
use lib.ListN.{length, drop, get_or, drop_of_length-le}
use lib.Seq.{drop-cons}
use lib.Dec.{eqb}
use Rattle.lists.proofs.Bools.{no}
use Rattle.tables.specs.Standing.{counted_one, counted_kinds}
use Rattle.drafting.specs.declared.Draft.{Draft}
use Rattle.preparing.specs.Table.{counted_by}

-- one where neither test holds
neither : (a b : Bool) → (not a && not b) ≡ true → ◌≡◌ {A = ℕ} (cond (a || b) 0 1) 1
neither true b e = no e
neither false true e = no e
neither false false e = refl

either : (a b : Bool) → (not a && not b) ≡ false → ◌≡◌ {A = ℕ} (cond (a || b) 0 1) 0
either true b e = refl
either false true e = refl
either false false e = no (sym e)

pub record Counting (ds : List Draft) (i count : ℕ) : Type 0 where
  pub less : count ≤ i
  pub same : counted_by 0 ds ≡ count + counted_by i (drop i ds)

pub counting-start : (ds : List Draft) → Counting ds 0 0
counting-start ds = record { less = omega arith; same = omega arith }

module _ {ds : List Draft} {i count : ℕ} (inv : Counting ds i count) where
  pub counting-end : length ds ≤ i → count ≡ counted_by 0 ds
  unfolding counted_kinds
  counting-end h = let e = rw (drop_of_length-le ds h) at inv.same in omega arith

  module _ (d : Draft) (h : i < length ds) where
    one : counted_by 0 ds ≡ count + (counted_one i (get_or ds i d).body.kind + counted_by (i + 1) (drop (i + 1) ds))
    unfolding counted_kinds
    one = inv.same ∙ rw (drop-cons ds i d h, add-one i)

    more : (k : ℕ) → counted_one i (get_or ds i d).body.kind ≡ k → k ≤ 1 → (r : ℕ) → r ≡ count + k → Counting ds (i + 1) r
    more k e l r f = record { less = omega (arith, inv.less); same = one ∙ rw (e, f) (omega arith) }

    pub counting-hit : (not (eqb (get_or ds i d).body.kind 3) && not (eqb i 3)) ≡ true → (r : ℕ) → r ≡ count + 1 → Counting ds (i + 1) r
    unfolding counted_one
    counting-hit e r f = more 1 (neither (eqb (get_or ds i d).body.kind 3) (eqb i 3) e) (omega arith) r f

    pub counting-miss : (not (eqb (get_or ds i d).body.kind 3) && not (eqb i 3)) ≡ false → (r : ℕ) → r ≡ count → Counting ds (i + 1) r
    unfolding counted_one
    counting-miss e r f = more 0 (either (eqb (get_or ds i d).body.kind 3) (eqb i 3) e) (omega arith) r (omega arith)
