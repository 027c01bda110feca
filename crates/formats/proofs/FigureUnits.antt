-- What one place shows: which units, and that they are read as its digit.
-- Assumes nothing.
use mathlib.Core.Path.{◌≡◌, refl, sym, ap, ◌∙◌}
use Prim.Native.Nat.{ℕ, zero, suc, ◌+◌, ◌-◌, ◌*◌, ◌/◌, ◌%◌, ◌^◌, ◌≤◌, ◌<◌}
use native.Mathlib.Nat.{mul_assoc, div-add-mod'}
use lib.Pow.{pow-add}
use native.Mathlib.Omega.{arith}
use mathlib.Core.Bool.{Bool, true, false, cond, ◌&&◌, ◌||◌, or-false}
use mathlib.Core.List.{List, [], ◌∷◌, ◌++◌, append_assoc}
use borrow.Author.Tests.{eqb-true, le-leb, ne_eqb}
use lib.Dec.{T, eqb}
use Rattle.lists.specs.Lists.{every}
use Rattle.lists.proofs.Bools.{by_cases, cond_both, every_append}
use Rattle.figures.specs.Digits.{digit, digit_unit}
use Rattle.figures.proofs.Digits.{digit-small, div-next}
use Rattle.formats.specs.Tokens.{Place, zero_place, hash_place, space_place, is_digit, digit_of}
use Rattle.formats.specs.Text.{Context, insignificant, idle_units, ends_group, with_separator, figure_units, extra_units, units_beyond, at_first_integer, place_units}
use Rattle.formats.specs.Figures.{read_from, Counts, is_figure}

pub digit-test : (d : ℕ) → d < 10 → is_digit (48 + d) ≡ true
unfolding is_digit
digit-test d h = rw (le-leb 48 (48 + d) (omega arith), le-leb (48 + d) 57 (omega arith))

-- what places show is digits, commas and spaces
abbrev Plain : List ℕ → Type 0
Plain us = T (every is_figure us)

none-plain : Plain []
unfolding every
none-plain = tt

idle-plain : (p : Place) → Plain (idle_units p)
unfolding every idle_units is_digit
idle-plain zero_place = tt
idle-plain hash_place = tt
idle-plain space_place = tt

digit-plain : (d : ℕ) → d < 10 → Plain (digit_unit d ∷ [])
unfolding every
digit-plain d h = rw (digit-test d h) tt

separated-plain : (b : Bool) (us : List ℕ) → Plain us → Plain (cond b (with_separator us) us)
unfolding with_separator every is_digit
separated-plain false us t = t
separated-plain true [] t = tt
separated-plain true (u ∷ us) t = cond_both (λ (v : ℕ). Plain (u ∷ v ∷ us)) (eqb u 32) {x = 32} {y = 44} t t

figure-plain : (n : ℕ) (grouped : Bool) (p : Place) (q : ℕ) → Plain (figure_units n grouped p q)
unfolding figure_units
figure-plain n grouped p q =
    separated-plain (grouped && ends_group q) _ (cond_both Plain (insignificant n q) (idle-plain p) (digit-plain _ (digit-small n _)))

extra-plain : (n : ℕ) (grouped : Bool) (q count : ℕ) → Plain (extra_units n grouped q count)
unfolding extra_units
extra-plain n grouped q zero = none-plain
extra-plain n grouped q (suc count) = every_append is_figure _ _ (figure-plain n grouped hash_place _) (extra-plain n grouped q count)

pub beyond-plain : (c : Context) (b : Bool) (q : ℕ) → Plain (cond b (units_beyond c q) [])
beyond-plain c b q = cond_both Plain b (extra-plain c.figures c.grouped _ _) none-plain

pub place-plain : (c : Context) (p : Place) (q : ℕ) → Plain (place_units c p q)
unfolding place_units
place-plain c p q = every_append is_figure _ _ (beyond-plain c (at_first_integer c q) q) (figure-plain c.figures c.grouped p q)

-- behind the digits of n above 10^q, that of 10^q
pub digit-in : (behind : Bool) (n w q : ℕ) (us : List ℕ)
    → read_from behind (n / 10 ^ suc q) w (digit_unit (digit n q) ∷ us) ≡ read_from behind (n / 10 ^ q) (cond behind (w * 10) w) us
unfolding read_from digit_of
digit-in behind n w q us =
    let d : ℕ = digit n q in
    let small : d < 10 = digit-small n q in
    let e : 48 + d - 48 ≡ d = omega arith in
    let f : n / 10 ^ suc q * 10 + d ≡ n / 10 ^ q = omega (arith, div-next n q) in
    rw (digit-test d small, ne_eqb (48 + d) 46 (λ p. omega arith), e, f, or-false behind)

-- a separator is set aside
separator-aside : (b behind : Bool) (v w : ℕ) (us vs : List ℕ)
    → read_from behind v w (cond b (with_separator us) us ++ vs) ≡ read_from behind v w (us ++ vs)
unfolding read_from with_separator is_digit
separator-aside false behind v w us vs = refl
separator-aside true behind v w [] vs = refl
separator-aside true behind v w (u ∷ us) vs =
    let aside = or-false (behind || eqb u 46) in
    by_cases (eqb u 32) (λ e. rw (e, aside)) (λ e. rw (e, aside))

pub figure-aside : (behind : Bool) (v w n : ℕ) (grouped : Bool) (p : Place) (q : ℕ) (us : List ℕ)
    → read_from behind v w (figure_units n grouped p q ++ us)
    ≡ read_from behind v w (cond (insignificant n q) (idle_units p) (digit_unit (digit n q) ∷ []) ++ us)
unfolding figure_units
figure-aside behind v w n grouped p q us = separator-aside (grouped && ends_group q) behind v w _ us

-- an insignificant integer zero
idle-read : (p : Place) (us : List ℕ) → read_from false 0 1 (idle_units p ++ us) ≡ read_from false 0 1 us
unfolding read_from is_digit digit_of idle_units
idle-read zero_place us = refl
idle-read hash_place us = refl
idle-read space_place us = refl

-- an integer place
pub figure-read : (n : ℕ) (grouped : Bool) (p : Place) (q : ℕ) (us : List ℕ) → 15 ≤ q
    → read_from false (n / 10 ^ suc q) 1 (figure_units n grouped p q ++ us) ≡ read_from false (n / 10 ^ q) 1 us
unfolding insignificant
figure-read n grouped p q us h =
    rw (figure-aside false (n / 10 ^ suc q) 1 n grouped p q us, le-leb 15 q h)
    (by_cases (eqb (n / 10 ^ q) 0)
    (λ e.
    let none : n / 10 ^ q ≡ 0 = eqb-true (n / 10 ^ q) 0 e in
    let above : n / 10 ^ suc q ≡ 0 = omega (arith, div-next n q) in
    rw (e, none, above) (idle-read p us))
    (λ e. rw e (digit-in false n 1 q us)))

-- the digits beyond the places
pub extra-read : (n : ℕ) (grouped : Bool) (q count : ℕ) (us : List ℕ) → 15 ≤ q
    → read_from false (n / 10 ^ (q + count)) 1 (extra_units n grouped q count ++ us) ≡ read_from false (n / 10 ^ q) 1 us
unfolding extra_units
extra-read n grouped q zero us h =
    let e : q + 0 ≡ q = omega arith in
    rw e
extra-read n grouped q (suc count) us h =
    let e : q + suc count ≡ suc (q + count) = omega arith in
    let rest : List ℕ = extra_units n grouped q count in
    rw (e, append_assoc (figure_units n grouped hash_place (q + count)) rest us)
    (figure-read n grouped hash_place (q + count) (rest ++ us) (omega arith) ∙ extra-read n grouped q count us h)

-- an insignificant zero before nothing but noughts
pub idle-nought : (n v w : ℕ) (p : Place) (us : List ℕ)
    → ((v w : ℕ) → v * 10 ^ 15 ≡ n * w → Counts (read_from true v w us) n)
    → v * 10 ^ 15 ≡ n * w → Counts (read_from true v w (idle_units p ++ us)) n
unfolding read_from idle_units is_digit digit_of
idle-nought n v w zero_place us h e = h (v * 10 + 0) (w * 10) (omega arith)
idle-nought n v w hash_place us h e = h v w e
idle-nought n v w space_place us h e = h v w e

-- the digits of n above its k lowest, which are noughts and have been cut
pub cut-exact : (n k j : ℕ) → k + j ≡ 15 → n % 10 ^ k ≡ 0 → n / 10 ^ k * 10 ^ 15 ≡ n * 10 ^ j
cut-exact n k j e none =
    let a : ℕ = n / 10 ^ k in
    let f : a * 10 ^ k ≡ n = omega (arith, div-add-mod' n (10 ^ k)) in
    ap (λ (x : ℕ). a * 10 ^ x) (sym e)
    ∙ ap (λ (x : ℕ). a * x) (pow-add 10 k j)
    ∙ sym (mul_assoc a (10 ^ k) (10 ^ j))
    ∙ ap (λ (x : ℕ). x * 10 ^ j) f
