-- Laws of what stands at the start of units: counts, numbers, the first of a unit, words.
-- Assumes nothing.
use Prim.Native.Nat.{ℕ, suc, ◌+◌, ◌-◌, ◌*◌, ◌≤◌, ◌<◌, min}
use mathlib.Core.Path.{◌≡◌, refl, sym, ap, ◌∙◌}
use mathlib.Core.Bool.{Bool, cond, ◌&&◌, not}
use mathlib.Core.List.{List, [], ◌∷◌, map}
use native.Mathlib.Omega.{arith}
use native.Mathlib.Numerals.{add-one}
use borrow.Author.Tests.{le-leb, lt-leb, ltb-true, ltb-false, leb-true, leb-false}
use Rattle.std.proofs.Math.Bool.{and-false}
use lib.Dec.{T, leb, ltb, eqb, leb→le, leb-suc-suc}
use lib.ListN.{length, take, drop, get_or, drop_of_length-le, length-drop}
use lib.Seq.{drop-cons, take_all}
use Rattle.std.proofs.Common.{Option as Found, Some, None}
use Rattle.std.specs.List.{prefix_len, position_or_len, list_all, zip, position}
use Rattle.std.specs.Option.{MatchOption}
use Rattle.std.proofs.lemmas.List.Recursion.{is_position_or_len}
use Rattle.std.proofs.lemmas.List.Sums.{prefix_len-le-length}
use Rattle.lists.specs.Lists.{every}
use Rattle.lists.proofs.Bools.{by_cases, and_left, and_right, every-head, every-tail}
use Rattle.formats.specs.Tokens.{before, leading, starts_with, is_digit, digit_of, number_from, fixed_number}
use Rattle.formats.proofs.Lexing.{number-grows}

-- ---- counts
pub leading-prefix : (f : ℕ → Bool) (us : List ℕ) → leading f us ≡ prefix_len f us
unfolding leading
leading-prefix f [] = refl
leading-prefix f (v ∷ vs) = let r = leading-prefix f vs in by_cases (f v) (λ e. rw e (omega arith)) (λ e. rw e)

pub every-all : (f : ℕ → Bool) (us : List ℕ) → every f us ≡ list_all f us
unfolding every
every-all f [] = refl
every-all f (v ∷ vs) = by_cases (f v) (λ e. rw e (every-all f vs)) (λ e. rw e)

-- what leads passes
pub every-leading : (f : ℕ → Bool) (us : List ℕ) → T (every f (take (leading f us) us))
unfolding every leading
every-leading f [] = tt
every-leading f (v ∷ vs) = by_cases (f v) (λ e. rw (e, e) (every-leading f vs)) (λ e. rw e tt)

-- ---- the first of a unit
pub position-before : (u : ℕ) (us : List ℕ) (o : Found ℕ) → o ≡ position (λ (v : ℕ). eqb v u) us
    → MatchOption o (before u us ≡ length us) (λ (n : ℕ). (n ≡ before u us) × (n < length us))
unfolding before
position-before u us o e =
    let p : ℕ → Bool = λ v. eqb v u in
    let f : before u us ≡ position_or_len p us = is_position_or_len (before u) p refl (λ x xs. ap (λ (n : ℕ). cond (eqb x u) 0 n) (omega arith)) us in
    by_cases (ltb (position_or_len p us) (length us))
    (λ h. let r : o ≡ Some (position_or_len p us) = e ∙ rw h in rw r (sym f, ltb-true _ _ h))
    (λ h. let r : o ≡ None = e ∙ rw h in rw r (omega (arith, f, ltb-false _ _ h, prefix_len-le-length (λ (v : ℕ). not (p v)) us)))

-- ---- numbers
pub digit-unit : (u : ℕ) → T (is_digit u) → (48 ≤ u) × (u ≤ 57)
unfolding is_digit
digit-unit u d = (leb→le 48 u (and_left (leb 48 u) (leb u 57) d), leb→le u 57 (and_right (leb 48 u) (leb u 57) d))

-- a number above 1,000 stays above it
capped : (v : ℕ) (ds : List ℕ) → min 1000 (number_from (min 1000 v) ds) ≡ min 1000 (number_from v ds)
capped v ds = by_cases (leb v 1000)
    (λ e. let h = leb-true v 1000 e in ap (λ (w : ℕ). min 1000 (number_from w ds)) (omega arith))
    (λ e. let h = leb-false v 1000 e in omega (arith, number-grows v ds, number-grows (min 1000 v) ds))

-- what the loop of `number_of` keeps of the number n, where the digits ds are left
pub record Numbering (whole : List ℕ) (n : ℕ) (ds : List ℕ) : Type 0 where
  pub small : n ≤ 1000
  pub digits : T (every is_digit ds)
  pub same : fixed_number whole ≡ min 1000 (number_from n (map digit_of ds))

pub numbering-start : (us : List ℕ) → T (every is_digit us) → Numbering us 0 us
unfolding fixed_number
numbering-start us t = record { small = omega arith; digits = t; same = refl }

module _ (whole us : List ℕ) (n i : ℕ) (inv : Numbering whole n (drop i us)) where
  module _ (h : i < length us) where
    first : T (every is_digit (get_or us i 0 ∷ drop (suc i) us))
    first = rw (drop-cons us i 0 h) at inv.digits

    pub numbering-digit : (48 ≤ get_or us i 0) × (get_or us i 0 ≤ 57)
    numbering-digit = digit-unit (get_or us i 0) (every-head is_digit (get_or us i 0) (drop (suc i) us) first)

    pub numbering-step : (m : ℕ) → m ≡ min (10 * n + (get_or us i 0 - 48)) 1000 → Numbering whole m (drop (i + 1) us)
    unfolding number_from digit_of
    numbering-step m e = record {
      small = omega arith;
      digits = rw (add-one i) (every-tail is_digit (get_or us i 0) (drop (suc i) us) first);
      same =
          let f : m ≡ min 1000 (10 * n + (get_or us i 0 - 48)) = omega arith in
          inv.same ∙ rw (add-one i, drop-cons us i 0 h, f) (sym (capped (10 * n + (get_or us i 0 - 48)) (map digit_of (drop (suc i) us))));
    }

  pub numbering-end : length us ≤ i → n ≡ fixed_number whole
  unfolding number_from
  numbering-end h = sym (inv.same ∙ rw (drop_of_length-le us h) (omega (arith, inv.small)))

-- ---- words
pub starts-zip : (ws us : List ℕ) → starts_with ws us ≡ (leb (length ws) (length us) && list_all (λ (p : ℕ × ℕ). eqb p.0 p.1) (zip ws us))
unfolding starts_with
starts-zip [] us = rw (le-leb 0 (length us) (omega arith))
starts-zip (w ∷ ws) [] = rw (lt-leb (suc (length ws)) 0 (omega arith))
starts-zip (w ∷ ws) (u ∷ us) =
    let r = starts-zip ws us in
    by_cases (eqb w u) (λ e. rw (e, leb-suc-suc (length ws) (length us)) r) (λ e. rw e (sym (and-false (leb (suc (length ws)) (suc (length us))))))

-- ---- parts
-- all that is behind a place
pub rest_all : (us : List ℕ) (k : ℕ) → take (length us - k) (drop k us) ≡ drop k us
rest_all us k = take_all (length us - k) (drop k us) (rw length-drop (omega arith))
