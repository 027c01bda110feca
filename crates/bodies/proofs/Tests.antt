-- What small tests answer, in the order of their branches.
-- Assumes nothing.
use Prim.Native.Nat.{ℕ, ◌+◌, ◌≤◌}
use mathlib.Core.Path.{◌≡◌}
use mathlib.Core.Bool.{Bool, cond, ◌&&◌, ◌||◌}
use native.Mathlib.Omega.{arith}
use lib.Dec.{leb, eqb}
use borrow.Author.Tests.{ne_eqb}
use Rattle.lists.specs.Lists.{any}
use Rattle.lists.proofs.Apart.{Apart, known, none_of}
use Rattle.lists.proofs.Bools.{cond_both}
use Rattle.bodies.specs.Forms.{place_form, cut_form, date_forms, weight_form}
use Rattle.bodies.specs.declared.facts.Seen.{Seen}
use Rattle.bodies.specs.Bodies.{see_form}

-- what the last arm knows of a form: that it is none of those before the dates'
abbrev Before : ℕ → Type 0
Before f = (((((Unit {0} × (f ≡ 12 → ⊥)) × (f ≡ 10 → ⊥)) × (f ≡ 23 → ⊥)) × (f ≡ 24 → ⊥)) × (f ≡ 3 → ⊥)) × (f ≡ 8 → ⊥)

pub weight-none : (f : ℕ) → Apart (Before f) f date_forms → 0 ≡ weight_form f
weight-none f a =
    let b = known (Before f) f date_forms a in
    let g = b.0.0.0.0 in
    rw (
      none_of (Before f) f date_forms a,
      ne_eqb f 12 g.0.1,
      ne_eqb f 10 g.1,
      ne_eqb f 23 b.0.0.0.1,
      ne_eqb f 24 b.0.0.1,
      ne_eqb f 3 b.0.1,
      ne_eqb f 8 b.1,
    )

-- no weight is more than a comma's
pub weight-most : (f : ℕ) → weight_form f ≤ 72057594037927936
weight-most f =
    most (any (eqb f) date_forms) (omega arith)
    (most (eqb f 10 || eqb f 12) (omega arith)
    (most (eqb f 23 || eqb f 24) (omega arith)
    (most (eqb f 3) (omega arith)
    (most (eqb f 8) (omega arith) (omega arith)))))
  where
    most : (b : Bool) {m n : ℕ} → m ≤ 72057594037927936 → n ≤ 72057594037927936 → cond b m n ≤ 72057594037927936
    most b h k = cond_both (λ (x : ℕ). x ≤ 72057594037927936) b h k

-- what a token more adds at most
abbrev pub Grown : Seen → Seen → Type 0
Grown s t = (t.sum ≤ s.sum + 72057594037927936) × (t.unit ≤ 65536) × (t.places ≤ s.places + 65536)

pub see-grown : (s : Seen) (f : ℕ) → s.unit ≤ 65536 → Grown s (see_form s f)
see-grown s f h =
    cond_both (Grown s) (place_form f) (omega arith, h, omega arith)
    (cond_both (Grown s) (cut_form f)
    (cond_both (Grown s) (leb f 26) (omega arith, omega arith, omega arith) (omega arith, omega arith, omega arith))
    (omega (arith, weight-most f), cond_both (λ (u : ℕ). u ≤ 65536) (eqb f 7 && eqb s.unit 1) (omega arith) h, omega arith))
