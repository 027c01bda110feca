-- Laws of what stands in brackets: colours, elapsed runs and conditions, and the bracket around them.
-- Assumes nothing.
use Prim.Native.Nat.{ℕ, suc, ◌+◌, ◌≤◌, ◌<◌}
use Prim.Native.String.{String}
use mathlib.Core.Path.{◌≡◌, refl, sym, ap, ◌∙◌}
use mathlib.Core.Bool.{Bool, true, false, cond, not, ◌&&◌, true≢false}
use mathlib.Core.List.{List, [], ◌∷◌, ◌++◌, map}
use mathlib.Core.Option.{Option, none, some}
use native.Mathlib.Omega.{arith}
use native.Mathlib.Numerals.{add-one}
use borrow.Author.Tests.{eq-eqb, ne_eqb, le-leb, lt-leb, leb-true, leb-false, eqb-true, eqb-false}
use lib.Dec.{leb, eqb}
use lib.ListN.{length, take, drop, get_or, drop_of_length-le, length-drop}
use Rattle.std.proofs.Common.{Option as Found, Some, None}
use Rattle.std.proofs.Math.Bool.{and-false}
use Rattle.std.proofs.Math.Seq.{take-append_seam}
use Rattle.std.proofs.lemmas.List.{take-append-drop}
use Rattle.std.proofs.lemmas.Iterator.Adapters.{position_from-zero}
use Rattle.std.specs.List.{list_all, position, position_from, slice_get}
use Rattle.std.specs.Option.{MatchOption, option_map}
use Rattle.lists.specs.Lists.{every, is_empty, is_some}
use Rattle.lists.proofs.Bools.{no, by_cases, cond_both, or-false}
use Rattle.calendar.specs.Names.{units}
use Rattle.formats.specs.Tokens.{Comparison, equal, less, greater, at_most, at_least, unequal, Token, condition, before, leading, starts_with, same, is_digit, digit_of, number_from, fixed_number, colour_names, named_from, no_leading_zero, colour_digits, numbered, elapsed_inside, decimals_of, whole_of, signed_of, condition_inside, first_form, inside_of, closed, bracketed}
use Rattle.formats.specs.Kinds.{condition_in}
use Rattle.lexing.specs.declared.brackets.Inside.{Inside}
use Rattle.marks.specs.Marks.{written_or, written_in, condition_of, mark_token, mark_rows}
use Rattle.lexing.specs.Marks.{step_behind, inside_meant, form_meant, plain_inside}
use Rattle.lexing.specs.Brackets.{colour_meant, is_run_of, is_wide, is_narrow, is_pointed}
use Rattle.formats.proofs.Lexing.{leading-most, word-most}
use Rattle.lexing.proofs.Scanning.{every-all}

-- ---- named colours
-- the colour of the first name that the units are
module _ (us : List ℕ) where
  named-place : (names : List String) (k : ℕ)
      → colour_meant (option_map (λ (j : ℕ). j + 1) (position_from (λ (w : List ℕ). same w us) k (map units names))) ≡ named_from (suc k) names us
  unfolding named_from colour_meant
  named-place [] k = refl
  named-place (name ∷ names) k =
      by_cases (same (units name) us) (λ e. rw (e, add-one k)) (λ e. rw (e, add-one k) (named-place names (suc k)))

  pub named-colour : (o r : Found ℕ) → o ≡ position (λ (w : List ℕ). same w us) (map units colour_names) → r ≡ option_map (λ (j : ℕ). j + 1) o
      → colour_meant r ≡ named_from 1 colour_names us
  named-colour o r e f =
      let g : o ≡ position_from (λ (w : List ℕ). same w us) 0 (map units colour_names) = e ∙ position_from-zero (λ (w : List ℕ). same w us) (map units colour_names) in
      rw (f, g) (named-place colour_names 0)

-- ---- colours by number
-- the test of a colour's digits
abbrev digits_test : List ℕ → Bool
digits_test us = no_leading_zero us && every is_digit us && leb (number_from 0 (map digit_of us)) 56

digits-refused : (us : List ℕ) → digits_test us ≡ false → colour_meant None ≡ colour_digits us
unfolding colour_digits colour_meant
digits-refused us h = rw h

leads : (us : List ℕ) (u : ℕ) → Some u ≡ slice_get us 0 → no_leading_zero us ≡ not (eqb u 48)
unfolding no_leading_zero
leads [] u h = cc
leads (v ∷ vs) u h = let e : u ≡ v = cc in rw e

module _ (us : List ℕ) where
  pub digits-empty : None ≡ slice_get us 0 → colour_meant None ≡ colour_digits us
  unfolding no_leading_zero
  digits-empty h = digits-refused us (empty us h)
    where
      empty : (vs : List ℕ) → None ≡ slice_get vs 0 → digits_test vs ≡ false
      empty [] h = refl
      empty (v ∷ vs) h = cc

  module _ (u : ℕ) (first : Some u ≡ slice_get us 0) where
    pub digits-zero : u ≡ 48 → colour_meant None ≡ colour_digits us
    digits-zero h = digits-refused us (rw (leads us u first, eq-eqb u 48 h))

    pub digits-broken : list_all is_digit us ≡ false → colour_meant None ≡ colour_digits us
    digits-broken h = digits-refused us (rw (every-all is_digit us, h, and-false (no_leading_zero us)))

    module _ (n : ℕ) (e : n ≡ fixed_number us) where
      pub digits-large : 56 < n → colour_meant None ≡ colour_digits us
      unfolding fixed_number
      digits-large h = digits-refused us (rw (lt-leb (number_from 0 (map digit_of us)) 56 (omega arith)) (and-false (no_leading_zero us && every is_digit us)))

      pub digits-read : (u ≡ 48 → ⊥) → list_all is_digit us ≡ true → n ≤ 56 → colour_meant (Some n) ≡ colour_digits us
      unfolding fixed_number colour_digits colour_meant
      digits-read z d h =
          let m : n ≡ number_from 0 (map digit_of us) = omega arith in
          let b : number_from 0 (map digit_of us) ≤ 56 = omega arith in
          rw (leads us u first, ne_eqb u 48 z, every-all is_digit us, d, le-leb (number_from 0 (map digit_of us)) 56 b, m)

module _ (us : List ℕ) where
  pub numbered-read : starts_with (units "Color") us ≡ true → (r : Found ℕ) → colour_meant r ≡ colour_digits (drop 5 us) → colour_meant r ≡ numbered us
  unfolding numbered
  numbered-read e r f = f ∙ rw e

  pub numbered-none : starts_with (units "Color") us ≡ false → colour_meant None ≡ numbered us
  unfolding numbered colour_meant
  numbered-none e = rw e

  -- by name or by number
  pub colour-either : (a r : Found ℕ) → colour_meant a ≡ named_from 1 colour_names us → MatchOption a (colour_meant r ≡ numbered us) (λ (n : ℕ). r ≡ Some n)
      → colour_meant r ≡ first_form (named_from 1 colour_names us) (numbered us)
  unfolding first_form colour_meant
  colour-either None r e m = rw (← e) m
  colour-either (Some n) r e m = rw (← e, m)

-- ---- elapsed runs
empty-test : (us : List ℕ) → is_empty us ≡ eqb (length us) 0
unfolding is_empty
empty-test [] = refl
empty-test (u ∷ us) = sym (ne_eqb (suc (length us)) 0 (omega arith))

pub run-test : (u : ℕ) (us : List ℕ) (b a : Bool) → b ≡ eqb (length us) 0 → a ≡ list_all (eqb u) us → (not b && a) ≡ is_run_of u us
run-test u us b a e f = rw (e, f, empty-test us, every-all (eqb u) us)

-- ---- conditions
some-cond : {A : Type 0} (b : Bool) (x : A) → is_some (cond b (some x) none) ≡ b
unfolding is_some
some-cond true x = refl
some-cond false x = refl

pub pointed-test : (us : List ℕ) (b a : Bool) → b ≡ eqb (length (drop 1 us)) 0 → a ≡ list_all is_digit (drop 1 us)
    → (eqb (get_or us 0 0) 46 && not b && a) ≡ is_pointed us
unfolding is_pointed
pointed-test us b a e f = rw (e, f, empty-test (drop 1 us), every-all is_digit (drop 1 us))

module _ (c : Comparison) (s : Bool) where
  decimals-some : (w us : List ℕ) → 1 ≤ length us → is_some (decimals_of c s w us) ≡ is_pointed us
  unfolding decimals_of is_pointed
  decimals-some w [] h = absurd (omega arith)
  decimals-some w (u ∷ us) h = some-cond (eqb u 46 && not (is_empty us) && every is_digit us) _

  module _ (us : List ℕ) (n : ℕ) (e : n ≡ leading is_digit us) where
    pub whole-none : n ≡ 0 → is_some (whole_of c s us) ≡ false
    unfolding whole_of is_some
    whole-none h = rw (← e, eq-eqb n 0 h)

    pub whole-all : (n ≡ 0 → ⊥) → n ≡ length us → is_some (whole_of c s us) ≡ true
    unfolding whole_of decimals_of is_some
    whole-all h k = rw (← e, ne_eqb n 0 h, drop_of_length-le us {i = n} (omega arith))

    pub whole-pointed : (n ≡ 0 → ⊥) → n < length us → is_some (whole_of c s us) ≡ is_pointed (drop n us)
    unfolding whole_of
    whole-pointed h k = rw (← e, ne_eqb n 0 h) (decimals-some (take n us) (drop n us) (rw length-drop (omega arith)))

-- whether a number is written does not depend on what it is compared with, nor on its sign
module _ (c d : Comparison) where
  whole-some : (s t : Bool) (us : List ℕ) → is_some (whole_of c s us) ≡ is_some (whole_of d t us)
  whole-some s t us =
      let n : ℕ = leading is_digit us in
      by_cases (eqb n 0)
      (λ e. let z : n ≡ 0 = eqb-true n 0 e in whole-none c s us n refl z ∙ sym (whole-none d t us n refl z))
      (λ e.
      let z : n ≡ 0 → ⊥ = eqb-false n 0 e in
      by_cases (leb (length us) n)
      (λ f. let k : n ≡ length us = omega (arith, leb-true (length us) n f, leading-most is_digit us) in whole-all c s us n refl z k ∙ sym (whole-all d t us n refl z k))
      (λ f. let k : n < length us = leb-false (length us) n f in whole-pointed c s us n refl z k ∙ sym (whole-pointed d t us n refl z k)))

  signed-some : (us : List ℕ) → is_some (signed_of c us) ≡ is_some (signed_of d us)
  unfolding signed_of
  signed-some us = by_cases (starts_with (units "-") us) (λ e. rw e (whole-some true true (drop 1 us))) (λ e. rw e (whole-some false false us))

module _ (us : List ℕ) where
  pub signed-minus : starts_with (units "-") us ≡ true → is_some (whole_of equal false (drop 1 us)) ≡ is_some (signed_of equal us)
  unfolding signed_of
  signed-minus e = rw e (whole-some equal equal false true (drop 1 us))

  pub signed-plain : starts_with (units "-") us ≡ false → is_some (whole_of equal false us) ≡ is_some (signed_of equal us)
  unfolding signed_of
  signed-plain e = rw e

  -- a condition is a comparison and a number
  pub condition-wide : (r : Bool) → r ≡ is_wide us → r ≡ true → is_some (signed_of equal (drop 2 us)) ≡ is_some (condition_inside us)
  unfolding is_wide condition_inside
  condition-wide r f t =
      let e : is_wide us ≡ true = sym f ∙ t in
      by_cases (starts_with (units "<=") us) (λ a. rw a (signed-some equal at_most (drop 2 us)))
      (λ a. by_cases (starts_with (units ">=") us) (λ b. rw (a, b) (signed-some equal at_least (drop 2 us)))
      (λ b. by_cases (starts_with (units "<>") us) (λ c. rw (a, b, c) (signed-some equal unequal (drop 2 us))) (λ c. no (rw (a, b, c) at e))))

  wide-none : is_wide us ≡ false → (starts_with (units "<=") us ≡ false) × (starts_with (units ">=") us ≡ false) × (starts_with (units "<>") us ≡ false)
  unfolding is_wide
  wide-none w =
      let a = or-false (starts_with (units "<=") us) _ w in
      let b = or-false (starts_with (units ">=") us) _ a.1 in
      (a.0, b.0, (or-false (starts_with (units "<>") us) _ b.1).0)

  narrow-none : is_narrow us ≡ false → (starts_with (units "=") us ≡ false) × (starts_with (units "<") us ≡ false) × (starts_with (units ">") us ≡ false)
  unfolding is_narrow
  narrow-none w =
      let a = or-false (starts_with (units "=") us) _ w in
      let b = or-false (starts_with (units "<") us) _ a.1 in
      (a.0, b.0, (or-false (starts_with (units ">") us) _ b.1).0)

  pub condition-narrow : (r s : Bool) → r ≡ is_wide us → r ≡ false → s ≡ is_narrow us → s ≡ true → is_some (signed_of equal (drop 1 us)) ≡ is_some (condition_inside us)
  unfolding is_narrow condition_inside
  condition-narrow r s f t g u =
      let e : is_narrow us ≡ true = sym g ∙ u in
      let w = wide-none (sym f ∙ t) in
      rw (w.0, w.1, w.2)
      (by_cases (starts_with (units "=") us) (λ x. rw x)
      (λ x. by_cases (starts_with (units "<") us) (λ y. rw (x, y) (signed-some equal less (drop 1 us)))
      (λ y. by_cases (starts_with (units ">") us) (λ z. rw (x, y, z) (signed-some equal greater (drop 1 us))) (λ z. no (rw (x, y, z) at e)))))

  pub condition-none : is_wide us ≡ false → is_narrow us ≡ false → false ≡ is_some (condition_inside us)
  unfolding condition_inside is_some
  condition-none w n =
      let a = wide-none w in
      let b = narrow-none n in
      rw (a.0, a.1, a.2, b.0, b.1, b.2)

  pub wide-most : is_wide us ≡ true → 2 ≤ length us
  unfolding is_wide units
  wide-most e =
      by_cases (starts_with (units "<=") us) (λ a. word-most (units "<=") us a)
      (λ a. by_cases (starts_with (units ">=") us) (λ b. word-most (units ">=") us b)
      (λ b. by_cases (starts_with (units "<>") us) (λ c. word-most (units "<>") us c) (λ c. no (rw (a, b, c) at e))))

  pub narrow-most : is_narrow us ≡ true → 1 ≤ length us
  unfolding is_narrow units
  narrow-most e =
      by_cases (starts_with (units "=") us) (λ a. word-most (units "=") us a)
      (λ a. by_cases (starts_with (units "<") us) (λ b. word-most (units "<") us b)
      (λ b. by_cases (starts_with (units ">") us) (λ c. word-most (units ">") us c) (λ c. no (rw (a, b, c) at e))))

-- what a condition's form gives is a condition
abbrev Written : Option Token → Type 0
Written none = Unit {0}
Written (some t) = condition (written_or (condition_in t)) ≡ t

decimals-written : (c : Comparison) (s : Bool) (w us : List ℕ) → Written (decimals_of c s w us)
unfolding decimals_of written_or condition_in
decimals-written c s w [] = refl
decimals-written c s w (u ∷ us) = cond_both Written (eqb u 46 && not (is_empty us) && every is_digit us) refl tt

signed-written : (c : Comparison) (us : List ℕ) → Written (signed_of c us)
unfolding signed_of whole_of
signed-written c us =
    let whole : (s : Bool) (vs : List ℕ) → Written (whole_of c s vs)
    = λ s vs. cond_both Written (eqb (leading is_digit vs) 0) tt (decimals-written c s (take (leading is_digit vs) vs) (drop (leading is_digit vs) vs)) in
    cond_both Written (starts_with (units "-") us) (whole true (drop 1 us)) (whole false us)

condition-written : (us : List ℕ) → Written (condition_inside us)
unfolding condition_inside
condition-written us =
    cond_both Written (starts_with (units "<=") us) (signed-written at_most (drop 2 us))
    (cond_both Written (starts_with (units ">=") us) (signed-written at_least (drop 2 us))
    (cond_both Written (starts_with (units "<>") us) (signed-written unequal (drop 2 us))
    (cond_both Written (starts_with (units "=") us) (signed-written equal (drop 1 us))
    (cond_both Written (starts_with (units "<") us) (signed-written less (drop 1 us))
    (cond_both Written (starts_with (units ">") us) (signed-written greater (drop 1 us)) tt)))))

condition-some : (us : List ℕ) → is_some (condition_inside us) ≡ true → condition_inside us ≡ some (condition_of us)
unfolding condition_of written_in is_some
condition-some us h = go (condition_inside us) (condition-written us) h
  where
    go : (o : Option Token) → Written o → is_some o ≡ true → o ≡ some (condition (written_or (written_in o)))
    go none w e = absurd (true≢false (sym e))
    go (some t) w e = ap some (sym w)

none_of : (o : Option Token) → is_some o ≡ false → none ≡ o
unfolding is_some
none_of none e = refl
none_of (some t) e = absurd (true≢false e)

-- ---- the forms that are no colours
module _ (inside : List ℕ) where
  pub plain-hours : is_run_of 104 inside ≡ true → (us : List ℕ) → form_meant (inside ++ us) (length inside) (Some 20) ≡ plain_inside inside
  unfolding plain_inside elapsed_inside first_form form_meant mark_token mark_rows
  plain-hours e us = rw e

  pub plain-minutes : is_run_of 104 inside ≡ false → is_run_of 109 inside ≡ true
      → (us : List ℕ) → form_meant (inside ++ us) (length inside) (Some 21) ≡ plain_inside inside
  unfolding plain_inside elapsed_inside first_form form_meant mark_token mark_rows
  plain-minutes e f us = rw (e, f)

  pub plain-seconds : is_run_of 104 inside ≡ false → is_run_of 109 inside ≡ false → is_run_of 115 inside ≡ true
      → (us : List ℕ) → form_meant (inside ++ us) (length inside) (Some 22) ≡ plain_inside inside
  unfolding plain_inside elapsed_inside first_form form_meant mark_token mark_rows
  plain-seconds e f g us = rw (e, f, g)

  module _ (e : is_run_of 104 inside ≡ false) (f : is_run_of 109 inside ≡ false) (g : is_run_of 115 inside ≡ false) where
    pub plain-condition : is_some (condition_inside inside) ≡ true → (us : List ℕ) → form_meant (inside ++ us) (length inside) (Some 24) ≡ plain_inside inside
    unfolding plain_inside elapsed_inside first_form form_meant mark_token mark_rows
    plain-condition k us = rw (e, f, g, condition-some inside k, take-append_seam inside us)

    pub plain-none : is_some (condition_inside inside) ≡ false → (us : List ℕ) → form_meant (inside ++ us) (length inside) None ≡ plain_inside inside
    unfolding plain_inside elapsed_inside first_form form_meant
    plain-none k us = rw (e, f, g) (none_of (condition_inside inside) k)

-- ---- what a bracket's inside stands for
inside-parts : (a b c : Option Token) → first_form (first_form a b) c ≡ first_form a (first_form b c)
unfolding first_form
inside-parts none b c = refl
inside-parts (some t) b c = refl

module _ (inside : List ℕ) (r : Found ℕ) (e : colour_meant r ≡ first_form (named_from 1 colour_names inside) (numbered inside)) where
  parts : inside_of inside ≡ first_form (colour_meant r) (plain_inside inside)
  unfolding inside_of plain_inside
  parts = rw e (sym (inside-parts (named_from 1 colour_names inside) (numbered inside) _))

  pub inside-colour : (n : ℕ) → r ≡ Some n → (us : List ℕ) → inside_meant (inside ++ us) (Some (record { form = 23; argument = n })) ≡ inside_of inside
  unfolding inside_meant mark_token mark_rows first_form colour_meant
  inside-colour n f us = sym (parts ∙ rw f)

  module _ (f : r ≡ None) (s : Found ℕ) (g : (us : List ℕ) → form_meant (inside ++ us) (length inside) s ≡ plain_inside inside) where
    plain_alone : inside_of inside ≡ plain_inside inside
    unfolding first_form colour_meant
    plain_alone = parts ∙ rw f

    pub inside-plain : (form : ℕ) → s ≡ Some form → (us : List ℕ) → inside_meant (inside ++ us) (Some (record { form = form; argument = length inside })) ≡ inside_of inside
    unfolding inside_meant form_meant
    inside-plain form h us = (rw h at (g us)) ∙ sym plain_alone

    pub inside-none : s ≡ None → (us : List ℕ) → inside_meant (inside ++ us) None ≡ inside_of inside
    unfolding inside_meant form_meant
    inside-none h us = (rw h at (g us)) ∙ sym plain_alone

-- ---- the bracket
module _ (us : List ℕ) where
  pub bracket-open : before 93 us ≡ length us → step_behind us None ≡ bracketed us
  unfolding bracketed step_behind
  bracket-open e = rw (e, eq-eqb (length us) (length us) refl)

  module _ (n : ℕ) (e : n ≡ before 93 us) (h : n < length us) (x : Found Inside)
      (f : (vs : List ℕ) → inside_meant (take n us ++ vs) x ≡ inside_of (take n us)) where
    meant : inside_meant us x ≡ inside_of (take n us)
    meant = rw (take-append-drop n us) at (f (drop n us))

    pub bracket-read : (m : Inside) → x ≡ Some m → step_behind us (Some (record { form = m.form; argument = m.argument; more = n + 1 })) ≡ bracketed us
    unfolding bracketed step_behind closed inside_meant
    bracket-read m g = rw (← e, ne_eqb n (length us) (omega arith), ← meant, g, add-one n)

    pub bracket-none : x ≡ None → step_behind us None ≡ bracketed us
    unfolding bracketed step_behind closed inside_meant
    bracket-none g = rw (← e, ne_eqb n (length us) (omega arith), ← meant, g)
