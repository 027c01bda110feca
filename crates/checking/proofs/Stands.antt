-- Where one section stands: without a condition, and with one.
-- Assumes nothing.
use Prim.Native.Nat.{ℕ, ◌+◌, ◌/◌, ◌%◌}
use native.Mathlib.Omega.{arith}
use mathlib.Core.Path.{◌≡◌, refl, sym, ◌∙◌, ap}
use mathlib.Core.Bool.{Bool, true, false, true≢false, not, ◌&&◌, ◌||◌, and-true, and-false}
use lib.Dec.{ltb, eqb}
use borrow.Author.Tests.{ne_eqb, ltb-true, eq-eqb}
use Rattle.formats.specs.Where.{implies}
use Rattle.formats.specs.Minus.{exception_a}
use Rattle.tables.specs.Words.{Head}
use Rattle.tables.specs.Standing.{head_stands}
use Rattle.checking.specs.Checking.{agree, has_in, compared_stands, plain_fits, place_fits}

-- ---- without a condition
misplaced : (text last b c d e f g : Bool) → (text && not last) ≡ true → false ≡ ((implies text last && b && c && d && e && f) && g)
misplaced true true b c d e f g h = absurd (true≢false (sym h))
misplaced true false b c d e f g h = refl
misplaced false last b c d e f g h = absurd (true≢false (sym h))

settled : (text last one general x y : Bool) → (text && not last) ≡ false
    → (implies text last && implies (one && false) general && true && implies text true && x && y) ≡ (x && y)
settled true true true general x y h = refl
settled true true false general x y h = refl
settled true false one general x y h = absurd (true≢false h)
settled false last true general x y h = refl
settled false last false general x y h = refl

fourth : (flag bare x : Bool) → ((x && (bare && true)) && agree flag false) ≡ (not flag && bare && x)
fourth true true true = refl
fourth true true false = refl
fourth true false true = refl
fourth true false false = refl
fourth false true true = refl
fourth false true false = refl
fourth false false true = refl
fourth false false false = refl

unflagged : (flag : Bool) → agree flag false ≡ not flag
unflagged true = refl
unflagged false = refl

module _ (n counted : ℕ) (first_has : Bool) (i kind colour : ℕ) (flag : Bool) where
  pub plain-misplaced : (eqb kind 3 && not (eqb (i + 1) n)) ≡ true → false ≡ plain_fits n counted first_has i kind colour flag
  unfolding plain_fits head_stands
  plain-misplaced h =
      misplaced (eqb kind 3) (eqb (i + 1) n) (implies (eqb n 1 && false) (eqb kind 1)) true (implies (eqb kind 3) true)
      (implies (eqb i 3) (eqb kind 3 || eqb kind 1 || eqb kind 0)) (implies (eqb i 3) (eqb colour 0 && true)) (agree flag (exception_a counted i false first_has)) h

  module _ (h : (eqb kind 3 && not (eqb (i + 1) n)) ≡ false) where
    plain-settled : plain_fits n counted first_has i kind colour flag
        ≡ ((implies (eqb i 3) (eqb kind 3 || eqb kind 1 || eqb kind 0) && implies (eqb i 3) (eqb colour 0 && true)) && agree flag (exception_a counted i false first_has))
    unfolding plain_fits head_stands
    plain-settled =
        ap (λ (b : Bool). b && agree flag (exception_a counted i false first_has))
        (settled (eqb kind 3) (eqb (i + 1) n) (eqb n 1) (eqb kind 1) (implies (eqb i 3) (eqb kind 3 || eqb kind 1 || eqb kind 0)) (implies (eqb i 3) (eqb colour 0 && true)) h)

    pub plain_second : i ≡ 1 → agree flag (exception_a counted 1 false first_has) ≡ plain_fits n counted first_has i kind colour flag
    plain_second e = sym (plain-settled ∙ rw e)

    pub plain-fourth : i ≡ 3 → (not flag && eqb colour 0 && (eqb kind 3 || eqb kind 1 || eqb kind 0)) ≡ plain_fits n counted first_has i kind colour flag
    unfolding exception_a
    plain-fourth e = sym (plain-settled ∙ rw e (fourth flag (eqb colour 0) (eqb kind 3 || eqb kind 1 || eqb kind 0)))

    pub plain_other : (i ≡ 1 → ⊥) → (i ≡ 3 → ⊥) → not flag ≡ plain_fits n counted first_has i kind colour flag
    unfolding exception_a
    plain_other p q = sym (plain-settled ∙ rw (ne_eqb i 3 q, ne_eqb i 1 p) (unflagged flag))

-- ---- with a condition
stands-true : (text last b two x y : Bool) → (two ≡ true → (x && y) ≡ true)
    → (implies text last && b && two && implies text false && x && y) ≡ (not text && (b && two))
stands-true true true true true x y h = refl
stands-true true true true false x y h = refl
stands-true true true false two x y h = refl
stands-true true false b two x y h = refl
stands-true false last true true x y h = h refl
stands-true false last true false x y h = refl
stands-true false last false two x y h = refl

never : (a b : Bool) → (a && false && b) ≡ false
never true b = refl
never false b = refl

module _ (n counted : ℕ) (first_has : Bool) (i : ℕ) (h : Head) where
  pub place-plain : (r : Bool) → h.operator ≡ 0 → r ≡ plain_fits n counted first_has i h.kind h.colour (eqb (h.flags / 2 % 2) 1) → r ≡ place_fits n counted first_has i h
  unfolding place_fits plain_fits
  place-plain r e f = f ∙ rw (eq-eqb h.operator 0 e)

  module _ (c : h.operator ≡ 0 → ⊥) where
    not-excepted : exception_a counted i (has_in h) first_has ≡ false
    unfolding exception_a
    not-excepted = rw (ne_eqb h.operator 0 c) (never (eqb i 1) (eqb counted 3 || (eqb counted 2 && not first_has)))

    pub place-flagged : eqb (h.flags / 2 % 2) 1 ≡ true → false ≡ place_fits n counted first_has i h
    unfolding place_fits
    place-flagged f = sym (rw (not-excepted, f) (and-false (head_stands n i h.kind h.colour (has_in h))))

    compared-told : head_stands n i h.kind h.colour (has_in h) ≡ compared_stands n i h.kind
    unfolding head_stands
    compared-told =
        rw (ne_eqb h.operator 0 c, and-true (eqb n 1))
        (stands-true (eqb h.kind 3) (eqb (i + 1) n) (implies (eqb n 1) (eqb h.kind 1)) (ltb i 2) (implies (eqb i 3) (eqb h.kind 3 || eqb h.kind 1 || eqb h.kind 0))
        (implies (eqb i 3) (eqb h.colour 0 && false))
        (λ t. let l = ltb-true i 2 t in rw (ne_eqb i 3 (λ e. absurd (omega arith)))))

    pub place-compared : (r : Bool) → eqb (h.flags / 2 % 2) 1 ≡ false → r ≡ compared_stands n i h.kind → r ≡ place_fits n counted first_has i h
    unfolding place_fits
    place-compared r f g =
        let s : head_stands n i h.kind h.colour (has_in h) ≡ r = compared-told ∙ sym g in
        sym (rw (not-excepted, f, s) (and-true r))
