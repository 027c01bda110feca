-- Laws of zeros that a search for a place passes over.
-- Assumes nothing.
use mathlib.Core.Path.{◌≡◌, sym, ap, ◌∙◌}
use mathlib.Core.List.{List}
use Prim.Native.Nat.{ℕ, zero, suc, ◌+◌, ◌-◌, ◌*◌, ◌≤◌, ◌<◌}
use native.Mathlib.Nat.{add-zero}
use native.Mathlib.Omega.{arith}
use lib.ListN.{get_or}
use Rattle.figures.specs.Places.{digit_sum, places_used, lowest_from}
use Rattle.figures.proofs.Places.{used-below, lowest-further}

-- n zeros from place k on, passed from above and from below
pub used-passed : (l : List ℕ) (k n : ℕ) → digit_sum l k n ≡ 0 → places_used k l ≡ places_used (k + n) l
unfolding digit_sum
used-passed l k zero e = ap (λ (x : ℕ). places_used x l) (sym (add-zero k))
used-passed l k (suc n) e =
    let i : k + suc n - 1 ≡ k + n = omega arith in
    let d : get_or l (k + n) 0 ≡ 0 = omega (arith, e) in
    used-passed l k n (omega (arith, e))
    ∙ ap (λ (x : ℕ). places_used x l) (sym i)
    ∙ used-below (k + suc n) l (omega arith) (ap (λ (x : ℕ). get_or l x 0) i ∙ d)

pub lowest-passed : (l : List ℕ) (k n : ℕ) → k + n ≤ 40 → digit_sum l k n ≡ 0
    → lowest_from (40 - (k + n)) (k + n) l ≡ lowest_from (40 - k) k l
unfolding digit_sum
lowest-passed l k zero h e = ap (λ (x : ℕ). lowest_from (40 - x) x l) (add-zero k)
lowest-passed l k (suc n) h e =
    let i : k + suc n ≡ k + n + 1 = omega arith in
    ap (λ (x : ℕ). lowest_from (40 - x) x l) i
    ∙ lowest-further (k + n) l (omega arith) (omega (arith, e))
    ∙ lowest-passed l k n (omega arith) (omega (arith, e))

-- a search four places at a time passes a word of zeros, from above and from below
pub used-word : (l : List ℕ) (w : ℕ) → digit_sum l (4 * w) 4 ≡ 0 → places_used (4 * w) l ≡ places_used (4 * (w + 1)) l
used-word l w z = let i : 4 * w + 4 ≡ 4 * (w + 1) = omega arith in used-passed l (4 * w) 4 z ∙ ap (λ (x : ℕ). places_used x l) i

pub lowest-word : (l : List ℕ) (w : ℕ) → w < 10 → digit_sum l (4 * w) 4 ≡ 0
    → lowest_from (40 - 4 * (w + 1)) (4 * (w + 1)) l ≡ lowest_from (40 - 4 * w) (4 * w) l
lowest-word l w h z =
    let i : 4 * w + 4 ≡ 4 * (w + 1) = omega arith in
    ap (λ (x : ℕ). lowest_from (40 - x) x l) (sym i) ∙ lowest-passed l (4 * w) 4 (omega arith) z
