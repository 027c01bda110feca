-- Laws of the figures of a context, and of what one place shows.
-- Assumes nothing.
use mathlib.Core.Path.{◌≡◌, refl, sym, ap, ◌∙◌}
use mathlib.Core.Bool.{Bool, true, false, cond, not, ◌&&◌, and-true}
use mathlib.Core.List.{List, [], ◌∷◌}
use Prim.Native.Nat.{ℕ, zero, suc, ◌+◌, ◌/◌, ◌%◌, ◌^◌, ◌≤◌, ◌<◌}
use native.Mathlib.Nat.{mod-one}
use Rattle.std.specs.List.{list_all}
use Rattle.std.proofs.lemmas.List.Folds.{list_all-append}
use lib.Seq.{take-suc}
use native.Mathlib.Omega.{arith}
use borrow.Author.Tests.{le-leb, lt-leb, eq-eqb, ne_eqb, eqb-true, eqb-false}
use lib.Dec.{leb, eqb}
use lib.ListN.{get_or, length, take}
use Rattle.lists.specs.Lists.{any}
use Rattle.lists.proofs.Apart.{Apart, none_of}
use Rattle.lists.proofs.Bools.{by_cases, cond_both, cond-case}
use Rattle.lists.proofs.Tables.{value-at}
use Rattle.figures.specs.Digits.{digit, digit_unit, figures}
use Rattle.figures.specs.Places.{places_used}
use Rattle.figures.proofs.Digits.{figures-at, figures-length}
use Rattle.figures.proofs.Places.{div-zero-digit, mod-lower, mod-zero-next, mod-zero-digit, used-test, used-most}
use Rattle.formats.specs.Tokens.{zero_place, hash_place, space_place}
use Rattle.formats.specs.Text.{Context, insignificant, idle_units, ends_group, with_separator, figure_units}
use Rattle.writing.specs.Put.{Put}
use Rattle.writing.proofs.Laws.{put-put}
use Rattle.figure_text.specs.declared.Figures.{Figures}
use Rattle.figure_text.specs.Shown.{FiguresAre, figures_with, place_of_tag, separated}

-- nothing shows nothing, with a separator or without
pub nothing-shows : (g : Bool) (q : ℕ) → separated g q [] ≡ []
unfolding with_separator
nothing-shows g q = cond_both (λ (us : List ℕ). us ≡ []) (g && ends_group q) refl refl

-- the figures that `figures_of` makes are those of every context with this number, these integer places and this grouping
pub figures-are : {f : Figures} (digits : List ℕ) (c : Context)
    → f ≡ figures_with digits c.integer_places c.grouped → digits ≡ figures c.figures → c.figures < 10 ^ 40 → c.integer_places ≤ 25
    → FiguresAre digits f c
unfolding figures_with
figures-are digits c e d h p = record {
  number = d;
  small = h;
  places = p;
  used = ap (λ (g : Figures). g.used) e ∙ ap (places_used 40) d;
  first = ap (λ (g : Figures). g.first) e;
  grouped = ap (λ (g : Figures). g.grouped) e;
}

pub digit-is : {digits : List ℕ} (n : ℕ) → digits ≡ figures n → (q : ℕ) → q < 40 → get_or digits q 0 ≡ digit n q
digit-is n e q h = ap (λ (l : List ℕ). get_or l q 0) e ∙ figures-at n q h

-- the digits from the lowest up are 0 where the number is whole at 10^k
module _ {digits : List ℕ} (n : ℕ) (e : digits ≡ figures n) where
  both_zero : (k : ℕ) → (eqb (n % 10 ^ k) 0 && eqb (digit n k) 0) ≡ eqb (n % 10 ^ suc k) 0
  both_zero k =
      by_cases (eqb (n % 10 ^ suc k) 0)
      (λ t.
      let z = eqb-true (n % 10 ^ suc k) 0 t in
      rw (t, eq-eqb (n % 10 ^ k) 0 (mod-lower n k (suc k) (omega arith) z), eq-eqb (digit n k) 0 (mod-zero-digit n k z)) refl)
      (λ f.
      by_cases (eqb (n % 10 ^ k) 0)
      (λ t. rw (f, t) (ne_eqb (digit n k) 0 (λ z. eqb-false (n % 10 ^ suc k) 0 f (mod-zero-next n k z (eqb-true (n % 10 ^ k) 0 t)))))
      (λ g. rw (f, g) refl))

  pub spent_all : (k : ℕ) → k ≤ 40 → list_all (λ (d : ℕ). eqb d 0) (take k digits) ≡ eqb (n % 10 ^ k) 0
  spent_all zero h = sym (eq-eqb (n % 10 ^ 0) 0 (mod-one n))
  spent_all (suc k) h =
      let long : k < length digits = omega (arith, ap length e, figures-length n) in
      rw (take-suc digits k 0 long, list_all-append, digit-is n e k (omega arith), spent_all k (omega arith), and-true) (both_zero k)

-- an insignificant zero is 0
idle-digit : (n q : ℕ) → insignificant n q ≡ true → digit n q ≡ 0
unfolding insignificant
idle-digit n q =
    cond-case (λ (b : Bool). b ≡ true → digit n q ≡ 0) (leb 15 q)
    (λ _ t. div-zero-digit n q (eqb-true (n / 10 ^ q) 0 t))
    (λ _ t. mod-zero-digit n q (eqb-true (n % 10 ^ suc q) 0 t))

module _ {digits : List ℕ} {f : Figures} {c : Context} (are : FiguresAre digits f c) where
  -- the index bound that the writers ask for
  pub figures-used : f.used ≤ 40
  figures-used = rw are.used (used-most 40 (figures c.figures))

  -- an insignificant zero, before the point and behind it
  pub integer-idle : (q : ℕ) → 15 ≤ q → leb f.used q ≡ insignificant c.figures q
  unfolding insignificant
  integer-idle q h = rw (le-leb 15 q h) (ap (λ (x : ℕ). leb x q) are.used ∙ used-test c.figures are.small q)

  pub decimal-idle : (q : ℕ) {r : Bool} → q < 15 → ((n : ℕ) → digits ≡ figures n → r ≡ eqb (n % 10 ^ suc q) 0) → r ≡ insignificant c.figures q
  unfolding insignificant
  decimal-idle q h p = rw (lt-leb 15 q h) (p c.figures are.number)

  -- what a place shows, z and h telling whether it is a `0` and whether a `#`: `0` shows each digit as it is
  figure-shows : (z h : Bool) (q : ℕ) → q < 40
      → figure_units c.figures c.grouped (cond z zero_place (cond h hash_place space_place)) q
      ≡ separated f.grouped q (cond (not z && insignificant c.figures q) (cond h [] (32 ∷ [])) (digit_unit (get_or digits q 0) ∷ []))
  unfolding figure_units idle_units
  figure-shows true h q l =
      rw (are.grouped, digit-is c.figures are.number q l)
      (ap (separated c.grouped q)
      (cond-case (λ (us : List ℕ). us ≡ digit_unit (digit c.figures q) ∷ []) (insignificant c.figures q)
      (λ t. ap (λ (d : ℕ). digit_unit d ∷ []) (sym (idle-digit c.figures q t)))
      (λ t. refl)))
  figure-shows false true q l = rw (are.grouped, digit-is c.figures are.number q l)
  figure-shows false false q l = rw (are.grouped, digit-is c.figures are.number q l)

  module _ (t q : ℕ) {r : Bool} (h : q < 40) (e : r ≡ not (eqb t 4) && insignificant c.figures q) where
    pub figure-idle : r ≡ true → figure_units c.figures c.grouped (place_of_tag t) q ≡ separated f.grouped q (cond (eqb t 5) [] (32 ∷ []))
    unfolding place_of_tag
    figure-idle i = figure-shows (eqb t 4) (eqb t 5) q h ∙ rw (sym e ∙ i)

    pub figure-digit : r ≡ false → figure_units c.figures c.grouped (place_of_tag t) q ≡ separated f.grouped q (digit_unit (get_or digits q 0) ∷ [])
    unfolding place_of_tag
    figure-digit i = figure-shows (eqb t 4) (eqb t 5) q h ∙ rw (sym e ∙ i)

-- a piece by another name
pub put_as : {l o p q : List ℕ} {at r : ℕ} → q ≡ p → Put l at p r o → Put l at q r o
put_as e x = rw e x

-- a unit, with a separator behind it and without
module _ (g : Bool) (q : ℕ) {x : Bool} (e : x ≡ ends_group q) where
  pub put-plain : {l o us : List ℕ} {at r : ℕ} → g && x ≡ false → Put l at us r o → Put l at (separated g q us) r o
  put-plain t y = rw (← e, t) y

  pub put-grouped : {l m o : List ℕ} {at a r u s : ℕ} → g && x ≡ true → s ≡ cond (eqb u 32) 32 44
      → Put l at (u ∷ []) a m → Put m a (s ∷ []) r o → Put l at (separated g q (u ∷ [])) r o
  unfolding with_separator
  put-grouped t k y z = rw (← e, t, ← k) (put-put y z)

-- the ends of groups among the forty places
abbrev group_ends : List ℕ
group_ends = 18 ∷ 21 ∷ 24 ∷ 27 ∷ 30 ∷ 33 ∷ 36 ∷ 39 ∷ []

pub no_end : (q : ℕ) → q < 40 → Apart (Unit {0}) q group_ends → false ≡ ends_group q
unfolding ends_group any
no_end q h a =
    let told : ◌≡◌ {A = ℕ} (cond (ends_group q) 1 0) (cond (any (eqb q) group_ends) 1 0) =
    sym (value-at (λ (k : ℕ). cond (ends_group k) 1 0) 40 q h) ∙ value-at (λ (k : ℕ). cond (any (eqb k) group_ends) 1 0) 40 q h in
    by_cases (ends_group q)
    (λ t. let z : ◌≡◌ {A = ℕ} 1 0 = rw (t, none_of (Unit {0}) q group_ends a) at told in absurd (omega arith))
    sym
