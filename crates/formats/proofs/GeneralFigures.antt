-- The figures of General, read back, are the number that it shows.
-- Assumes nothing.
use mathlib.Core.Path.{◌≡◌, refl, sym, ap, ap₂, ◌∙◌}
use Prim.Native.Nat.{ℕ, zero, suc, ◌+◌, ◌*◌, ◌/◌, ◌^◌, ◌<◌, max}
use native.Mathlib.Nat.{div-eq_of_lt, div-lt_iff_lt-mul, lt_of_lt_of_le}
use native.Mathlib.Omega.{arith}
use mathlib.Core.Bool.{true, false, cond, ◌&&◌}
use mathlib.Core.List.{List, [], ◌∷◌, ◌++◌}
use borrow.Author.Tests.{eqb-true}
use lib.Dec.{eqb}
use Rattle.lists.specs.Lists.{is_empty}
use Rattle.lists.proofs.Bools.{by_cases}
use Rattle.figures.specs.Digits.{digit_units, width, numeral}
use Rattle.figures.specs.Rounding.{Magnitude}
use Rattle.figures.specs.General.{without_end_zeros, pointed, general_units}
use Rattle.figures.proofs.Tens.{ten-pos, ten-le}
use Rattle.figures.proofs.Digits.{width_above}
use Rattle.formats.specs.Tokens.{is_digit, digit_of}
use Rattle.formats.specs.Figures.{read_from, units_read, Counts}
use Rattle.formats.proofs.FigureUnits.{digit-in}

-- the k lowest digits of n, behind those above them
integer-digits : (n k : ℕ) (us : List ℕ) → read_from false (n / 10 ^ k) 1 (digit_units k n ++ us) ≡ read_from false n 1 us
unfolding digit_units
integer-digits n zero us = ap (λ (v : ℕ). read_from false v 1 us) (omega arith)
integer-digits n (suc k) us = digit-in false n 1 k (digit_units k n ++ us) ∙ integer-digits n k us

decimal-digits : (n k w : ℕ) → read_from true (n / 10 ^ k) w (digit_units k n) ≡ record { above = n; below = w * 10 ^ k }
unfolding digit_units read_from
decimal-digits n zero w = ap₂ {C = Magnitude} (λ (a b : ℕ). record { above = a; below = b }) (omega arith) (omega arith)
decimal-digits n (suc k) w =
    let next : 10 ^ suc k ≡ 10 ^ k * 10 = omega arith in
    digit-in true n w k (digit_units k n)
    ∙ decimal-digits n k (w * 10)
    ∙ ap {B = Magnitude} (λ (b : ℕ). record { above = n; below = b }) (rw next (omega arith))

-- zeros at the end of the decimals are worth nothing
abbrev Alike : List ℕ → List ℕ → Type 0
Alike us vs = (v w n : ℕ) → Counts (read_from true v w vs) n → Counts (read_from true v w us) n

alike-cons : (u : ℕ) (us vs : List ℕ) → Alike us vs → Alike (u ∷ us) (u ∷ vs)
unfolding read_from
alike-cons u us vs h v w n = h (cond (is_digit u) (v * 10 + digit_of u) v) (cond (is_digit u && true) (w * 10) w) n

alike-zero : (vs : List ℕ) → Alike [] vs → Alike [] (48 ∷ vs)
unfolding read_from is_digit digit_of
alike-zero vs h v w n e = let f : (v * 10 + 0) * 10 ^ 15 ≡ n * (w * 10) = h (v * 10 + 0) (w * 10) n e in omega arith

alike_end : (u : ℕ) (us vs : List ℕ) → Alike us vs → Alike (cond (is_empty us && eqb u 48) [] (u ∷ us)) (u ∷ vs)
unfolding is_empty
alike_end u [] vs h =
    by_cases (eqb u 48) (λ e. rw (e, eqb-true u 48 e) (alike-zero vs h)) (λ e. rw e (alike-cons u [] vs h))
alike_end u (w ∷ us) vs h = alike-cons u (w ∷ us) vs h

end-zeros : (us : List ℕ) → Alike (without_end_zeros us) us
unfolding without_end_zeros
end-zeros [] = λ v w n e. e
end-zeros (u ∷ us) = alike_end u (without_end_zeros us) us (end-zeros us)

pointed-read : (v : ℕ) (us : List ℕ) → read_from false v 1 (pointed us) ≡ read_from true v 1 us
unfolding read_from pointed is_digit
pointed-read v [] = refl
pointed-read v (u ∷ us) = refl

-- a number in digits, and what stands behind them
pub numeral-read : (n : ℕ) (us : List ℕ) → n < 10 ^ 25 → read_from false 0 1 (numeral 1 n ++ us) ≡ read_from false n 1 us
unfolding numeral
numeral-read n us small =
    let k : ℕ = max 1 (width n) in
    let wide : n < 10 ^ k = lt_of_lt_of_le (width_above n small) (ten-le (width n) k (omega arith)) in
    ap (λ (v : ℕ). read_from false v 1 (digit_units k n ++ us)) (sym (div-eq_of_lt {n = n} {m = 10 ^ k} wide)) ∙ integer-digits n k us

pub general-read : (n : ℕ) → n < 10 ^ 40 → Counts (units_read (general_units n)) n
unfolding units_read general_units
general-read n h =
    let m : ℕ = n / 10 ^ 15 in
    let us : List ℕ = digit_units 15 n in
    let small : m < 10 ^ 25 = (div-lt_iff_lt-mul {k = 10 ^ 15} {x = n} {y = 10 ^ 25} (ten-pos 15)).1 h in
    rw (numeral-read m (pointed (without_end_zeros us)) small, pointed-read m (without_end_zeros us))
    (end-zeros us m 1 n (rw (decimal-digits n 15 1) (omega arith)))
