-- The figure read off a minus or none and then digits, commas, spaces and a point.
-- Assumes nothing.
use mathlib.Core.Path.{◌≡◌, refl, sym, subst, ◌∙◌}
use Prim.Native.Nat.{ℕ, ◌+◌, ◌*◌, ◌≤◌, ◌<◌}
use native.Mathlib.Omega.{arith}
use mathlib.Core.Bool.{Bool, true, false, cond, ◌&&◌, ◌||◌, true≢false, or-false}
use mathlib.Core.List.{List, [], ◌∷◌, ◌++◌}
use mathlib.Core.Option.{some}
use borrow.Author.Tests.{eqb-true}
use lib.Dec.{T, eqb, le→leb}
use Rattle.lists.specs.Lists.{every, any, count}
use Rattle.lists.proofs.Bools.{no, by_cases, cond_both, and_in, T_true, true-T, every-head, every-tail, every-cons}
use Rattle.formats.specs.Tokens.{is_digit, digit_of}
use Rattle.formats.specs.Figures.{is_figure, read_from, units_read}
use Rattle.monotone.specs.Seen.{is_aside, kept_of, is_point, is_decimal, signed, decimal_of, minus_counted, figure_of}

-- digits, commas, spaces and points
abbrev pub is_shown : ℕ → Bool
is_shown u = is_figure u || is_point u

-- a comma or a space
aside-case : (P : ℕ → Type 0) → P 44 → P 32 → (u : ℕ) → is_aside u ≡ true → P u
unfolding is_aside
aside-case P a b u e =
    by_cases (eqb u 44) (λ h. subst P (sym (eqb-true u 44 h)) a)
    (λ h. by_cases (eqb u 32) (λ g. subst P (sym (eqb-true u 32 g)) b) (λ g. no (rw (h, g) at e)))

-- what is set aside is not read
kept_read : (behind : Bool) (v w : ℕ) (us : List ℕ) → read_from behind v w (kept_of us) ≡ read_from behind v w us
unfolding kept_of read_from is_digit
kept_read behind v w [] = refl
kept_read behind v w (u ∷ us) =
    by_cases (is_aside u)
    (λ e.
    rw (e, kept_read behind v w us)
    (aside-case (λ (a : ℕ). read_from behind v w us ≡ read_from behind v w (a ∷ us)) (rw (or-false behind)) (rw (or-false behind)) u e))
    (λ e. rw e (kept_read (behind || eqb u 46) (cond (is_digit u) (v * 10 + digit_of u) v) (cond (is_digit u && behind) (w * 10) w) us))

-- a test that a comma and a space fail sees no difference
module _ (f : ℕ → Bool) (comma : f 44 ≡ false) (space : f 32 ≡ false) where
  kept_any : (us : List ℕ) → any f (kept_of us) ≡ any f us
  unfolding kept_of any
  kept_any [] = refl
  kept_any (u ∷ us) =
      by_cases (is_aside u) (λ e. rw (e, kept_any us, aside-case (λ (a : ℕ). f a ≡ false) comma space u e)) (λ e. rw (e, kept_any us))

  kept-count : (us : List ℕ) → count f (kept_of us) ≡ count f us
  unfolding kept_of count
  kept-count [] = refl
  kept-count (u ∷ us) =
      by_cases (is_aside u) (λ e. rw (e, kept-count us, aside-case (λ (a : ℕ). f a ≡ false) comma space u e)) (λ e. rw (e, kept-count us))

-- what is kept of shown units is digits and points
abbrev is_kept : ℕ → Bool
is_kept u = is_digit u || is_point u

kept-every : (us : List ℕ) → T (every is_shown us) → T (every is_kept (kept_of us))
unfolding kept_of is_aside every
kept-every [] t = tt
kept-every (u ∷ us) t =
    let rest : T (every is_kept (kept_of us)) = kept-every us (every-tail is_shown u us t) in
    by_cases (is_aside u) (λ e. rw e rest)
    (λ e. rw e (every-cons is_kept u (kept_of us) (kept-unit (is_digit u) (eqb u 44) (eqb u 32) (is_point u) e (every-head is_shown u us t)) rest))
  where
    kept-unit : (d c s p : Bool) → c || s ≡ false → T (d || c || s || p) → T (d || p)
    kept-unit true c s p e t = tt
    kept-unit false true s p e t = absurd (true≢false e)
    kept-unit false false true p e t = absurd (true≢false e)
    kept-unit false false false p e t = t

-- units that are a decimal number when commas and spaces are set aside
pub record Decimal (us : List ℕ) : Type 0 where
  pub shown : T (every is_shown us)
  pub digit : any is_digit us ≡ true
  pub points : count is_point us ≤ 1

kept-decimal : (us : List ℕ) → Decimal us → is_decimal (kept_of us) ≡ true
unfolding is_decimal
kept-decimal us d =
    let every-kept : T (every is_kept (kept_of us)) = kept-every us d.shown in
    let digits : any is_digit (kept_of us) ≡ any is_digit us = unfold is_digit in kept_any is_digit refl refl us in
    let some-digit : T (any is_digit (kept_of us)) = true-T (digits ∙ d.digit) in
    let points : count is_point (kept_of us) ≤ 1 = rw (kept-count is_point refl refl us) d.points in
    T_true _ (search (and_in, le→leb))

-- no digit and no point is a minus
signed-kept : (us : List ℕ) → T (every is_kept us) → minus_counted us ≡ decimal_of false us
unfolding minus_counted decimal_of is_decimal any every is_digit
signed-kept [] t = refl
signed-kept (u ∷ us) t =
    by_cases (eqb u 45)
    (λ e. absurd (subst (λ (v : ℕ). T (is_kept v)) (eqb-true u 45 e) (every-head is_kept u us t)))
    (λ e. rw e)

pub figure-read : (minus : Bool) (us : List ℕ) → Decimal us → figure_of (cond minus (45 ∷ []) [] ++ us) ≡ some (signed minus (units_read us))
unfolding figure_of kept_of is_aside minus_counted decimal_of units_read
figure-read true us d = rw (kept-decimal us d, kept_read false 0 1 us)
figure-read false us d = signed-kept (kept_of us) (kept-every us d.shown) ∙ rw (kept-decimal us d, kept_read false 0 1 us)

-- no number is divided by 0
read_pos : (behind : Bool) (v w : ℕ) (us : List ℕ) → 0 < w → 0 < (read_from behind v w us).below
unfolding read_from
read_pos behind v w [] h = h
read_pos behind v w (u ∷ us) h =
    read_pos (behind || eqb u 46) (cond (is_digit u) (v * 10 + digit_of u) v) (cond (is_digit u && behind) (w * 10) w) us
    (cond_both (λ (n : ℕ). 0 < n) (is_digit u && behind) {x = w * 10} {y = w} (omega arith) h)

pub units-pos : (us : List ℕ) → 0 < (units_read us).below
unfolding units_read
units-pos us = read_pos false 0 1 us (omega arith)
