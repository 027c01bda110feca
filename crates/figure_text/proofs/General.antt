-- Laws of the digits that General shows.
-- Assumes nothing.
use mathlib.Core.Path.{◌≡◌, refl, sym, ap, ap₂, ◌∙◌}
use mathlib.Core.Logic.{⊎_elim}
use mathlib.Core.List.{List, [], ◌∷◌, ◌++◌}
use Prim.Native.Nat.{ℕ, zero, suc, ◌+◌, ◌-◌, ◌/◌, ◌^◌, ◌≤◌, ◌<◌, max}
use native.Mathlib.Nat.{eq-or-lt_of_le}
use native.Mathlib.Omega.{arith}
use lib.ListN.{get_or, take}
use lib.Seq.{take-nil}
use Rattle.figures.specs.Digits.{digit, digit_unit, digit_units, figures}
use Rattle.figures.specs.Places.{places_used, lowest_place}
use Rattle.figures.specs.General.{pointed, general_units}
use Rattle.figures.proofs.Digits.{digit_shift}
use Rattle.figures.proofs.General.{general-text}
use Rattle.formats.specs.Text.{Context}
use Rattle.writing.specs.Put.{Put, Rest}
use Rattle.writing.proofs.Laws.{rest_put, rest-done}
use Rattle.figure_text.specs.declared.Figures.{Figures}
use Rattle.figure_text.specs.Shown.{FiguresAre}
use Rattle.figure_text.proofs.Digits.{digit-is}

-- the digits of n from below 10^high down to 10^low
abbrev run : ℕ → ℕ → ℕ → List ℕ
run n high low = digit_units (high - low) (n / 10 ^ low)

pub run-next : (n k low : ℕ) (l : List ℕ) → l ≡ figures n → k ≤ 40 → low < k
    → run n k low ≡ (digit_unit (get_or l (k - 1) 0) ∷ []) ++ run n (k - 1) low
unfolding digit_units
run-next n k low l e h g =
    let s : k - low ≡ suc (k - 1 - low) = omega arith in
    let i : low + (k - 1 - low) ≡ k - 1 = omega arith in
    let d : digit (n / 10 ^ low) (k - 1 - low) ≡ get_or l (k - 1) 0 =
    digit_shift n low (k - 1 - low) ∙ ap (digit n) i ∙ sym (digit-is n e (k - 1) (omega arith)) in
    ap (λ (m : ℕ). digit_units m (n / 10 ^ low)) s ∙ ap (λ (x : ℕ). digit_unit x ∷ run n (k - 1) low) d

pub run_end : (n k low : ℕ) → k ≤ low → run n k low ≡ []
unfolding digit_units
run_end n k low h = let e : k - low ≡ 0 = omega arith in ap (λ (m : ℕ). digit_units m (n / 10 ^ low)) e

-- a turn of the loop, and its end
pub run-turn : {l m o t : List ℕ} {s at a u : ℕ} (n k low : ℕ) (digits : List ℕ) → digits ≡ figures n → k ≤ 40 → low < k
    → u ≡ digit_unit (get_or digits (k - 1) 0)
    → Rest l s t m at (digit_units (k - low) (n / 10 ^ low))
    → Put m at (u ∷ []) a o
    → Rest l s t o a (digit_units (k - 1 - low) (n / 10 ^ low))
run-turn n k low digits d most h e x y = rest_put (rw (run-next n k low digits d most h) at x) (rw e at y)

pub run-done : {l m t : List ℕ} {s at : ℕ} (n k low : ℕ) → k ≤ low → Rest l s t m at (digit_units (k - low) (n / 10 ^ low)) → Put l s t at m
run-done n k low h x = rest-done (rw (run_end n k low h) at x)

-- the first of m digits are the highest
take-run : (n m e : ℕ) → e ≤ m → take (m - e) (digit_units m n) ≡ run n m e
unfolding digit_units
take-run n zero e h = take-nil (0 - e) ∙ sym (run_end n 0 e (omega arith))
take-run n (suc m) e h =
    ⊎_elim
    (λ (s : e ≡ suc m).
    let none : suc m - e ≡ 0 = omega arith in
    ap (λ (k : ℕ). take k (digit_units (suc m) n)) none ∙ sym (run_end n (suc m) e (omega arith)))
    (λ (s : e < suc m).
    let one : suc m - e ≡ suc (m - e) = omega arith in
    let i : e + (m - e) ≡ m = omega arith in
    ap (λ (k : ℕ). take k (digit_units (suc m) n)) one
    ∙ ap₂ (λ (d : ℕ) (us : List ℕ). digit_unit d ∷ us) (sym (digit_shift n e (m - e) ∙ ap (digit n) i)) (take-run n m e (omega arith))
    ∙ sym (ap (λ (k : ℕ). digit_units k (n / 10 ^ e)) one))
    (eq-or-lt_of_le h)

pointed-run : (n m : ℕ) → 0 < m → pointed (digit_units m n) ≡ (46 ∷ []) ++ digit_units m n
unfolding pointed digit_units
pointed-run n zero h = absurd (omega arith)
pointed-run n (suc m) h = refl

-- the point and the decimals, or nothing
pub decimals-some : (n low : ℕ) → low < 15 → pointed (take (15 - low) (digit_units 15 n)) ≡ (46 ∷ []) ++ run n 15 low
decimals-some n low h = ap pointed (take-run n 15 low (omega arith)) ∙ pointed-run (n / 10 ^ low) (15 - low) (omega arith)

pub decimals-none : (n low : ℕ) → 15 ≤ low → pointed (take (15 - low) (digit_units 15 n)) ≡ []
unfolding pointed
decimals-none n low h = let e : 15 - low ≡ 0 = omega arith in ap (λ (k : ℕ). pointed (take k (digit_units 15 n))) e

-- what General shows, in the code's words
pub general-runs : {digits : List ℕ} {f : Figures} {c : Context} {low : ℕ} → FiguresAre digits f c → low ≡ lowest_place digits
    → general_units c.figures ≡ run c.figures (max 16 f.used) 15 ++ pointed (take (15 - low) (digit_units 15 c.figures))
general-runs {f = f} {c = c} are e =
    let n : ℕ = c.figures in
    let w : max 1 (places_used 40 (figures n) - 15) ≡ max 16 f.used - 15 = omega (arith, are.used) in
    general-text n are.small
    ∙ ap₂ (λ (k l : ℕ). digit_units k (n / 10 ^ 15) ++ pointed (take (15 - l) (digit_units 15 n))) w (sym (e ∙ ap lowest_place are.number))
