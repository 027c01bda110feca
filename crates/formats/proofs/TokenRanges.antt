-- What the tokens of a code hold: units of the code, runs, colours and digits in their ranges, and no semicolon in a section.
-- Assumes nothing.
use Prim.Native.Nat.{ℕ, zero, suc, ◌+◌, ◌-◌, ◌*◌, ◌≤◌, min}
use Prim.Native.String.{String}
use native.Mathlib.Omega.{arith}
use mathlib.Core.Path.{◌≡◌, refl, ap}
use mathlib.Core.Bool.{Bool, true, false, not, ◌&&◌, ◌||◌, true≢false}
use mathlib.Core.List.{List, [], ◌∷◌, map}
use mathlib.Core.Option.{Option, none, some}
use lib.ListN.{length, take, drop}
use lib.Dec.{T, leb, ltb, eqb, leb→le, le→leb, lt→ltb}
use Rattle.lists.specs.Lists.{every, any, is_empty}
use Rattle.lists.proofs.Bools.{and_left, and_right, and_in, or-false, true-T, by_cases, cond_both, cond-case, every-head, every-tail, every-cons, every_append, every_take}
use Rattle.lists.proofs.Counts.{every_map, every-weaker}
use Rattle.calendar.specs.Names.{units}
use Rattle.formats.specs.Tokens.{Place, Letter, Elapsed, hours, minutes, seconds, Comparison, equal, less, greater, at_most, at_least, unequal, Written, Token, literal, bare, blank, fill, place, point, comma, percent, at, semicolon, general, half, run, elapsed, colour, condition, Step, read, broken, before, leading, starts_with, same, quoted, marked, general_word, half_day_word, run_allowed, run_step, is_digit, digit_of, number_from, colour_names, named_from, no_leading_zero, colour_digits, numbered, elapsed_inside, decimals_of, whole_of, signed_of, condition_inside, first_form, inside_of, closed, bracketed, First, quote, backslash, underscore, asterisk, open_bracket, capital_g, capital_a, other, letter, single, FirstRow, first_rows, first_in, bare_literals, step_by, step_at, Placed, Lexed, good, bad, onto, after_step, lex_from, lex, exponent, exponent_word, capital_e, over, over_fixed, fixed_number, is_place_unit, over_step, place_step, place_unit}
use Rattle.formats.specs.Items.{Item, is_unit, part, date_kind, same_kind, Run, no_run, run_of, nearer, first_run, settled_item, settled_from, settled}
use Rattle.formats.specs.Kinds.{is_semicolon, is_colour, is_condition, Parts, colour_in, condition_in, after_colour, parts_of, body_kind, is_seconds_token, part_zeros, pieces_from, token_items, piece_items, plain_items, date_items, body_items, last_fill, section_of}
use Rattle.formats.specs.Accept.{placed_of, tokens_of, joined, split, parts_in}
use Rattle.formats.proofs.Lexing.{number-grows}
use Rattle.formats.proofs.FormedItems.{every-last_fill}
use Rattle.formats.proofs.FormedPieces.{zeros-most}
use Rattle.formats.proofs.Each.{by_token}

abbrev pub below_ten : ℕ → Bool
below_ten d = ltb d 10

-- the digits of a condition are digits, and some stand before its point
unfoldable pub written_in_range : Written → Bool
written_in_range w = every below_ten w.whole && every below_ten w.decimals && not (is_empty w.whole)

-- the units of a token pass a test, a literal has one, and its runs, colours and digits are in range
unfoldable pub token_passes : (ℕ → Bool) → Token → Bool
token_passes f (literal us) = every f us && not (is_empty us)
token_passes f (bare u) = f u
token_passes f (blank u) = f u
token_passes f (fill u) = f u
token_passes f (place p) = true
token_passes f point = true
token_passes f comma = true
token_passes f percent = true
token_passes f at = true
token_passes f semicolon = true
token_passes f general = true
token_passes f (half h) = true
token_passes f (run l n) = run_allowed l n
token_passes f (elapsed e n) = leb 1 n
token_passes f (colour n) = leb n 56
token_passes f (condition w) = written_in_range w
token_passes f (exponent m) = true
token_passes f (over p) = true
token_passes f (over_fixed p n) = leb 1 n && leb n 1000

abbrev pub token_in_range : Token → Bool
token_in_range = token_passes is_unit

-- the units that `leading` counts pass its test
leading-every : (f : ℕ → Bool) (us : List ℕ) → T (every f (take (leading f us) us))
unfolding leading every
leading-every f [] = tt
leading-every f (u ∷ us) = by_cases (f u) (λ e. rw e (rw e (leading-every f us))) (λ e. rw e tt)

leading-some : (f : ℕ → Bool) (us : List ℕ) → eqb (leading f us) 0 ≡ false → T (not (is_empty (map digit_of (take (leading f us) us))))
unfolding leading is_empty
leading-some f [] e = absurd (true≢false e)
leading-some f (u ∷ us) e = by_cases (f u) (λ t. rw t tt) (λ t. absurd (true≢false (rw t at e)))

digit-below : (u : ℕ) → T (is_digit u) → T (below_ten (digit_of u))
unfolding is_digit digit_of
digit-below u t = lt→ltb (u - 48) 10 (omega (arith, leb→le u 57 (and_right (leb 48 u) (leb u 57) t)))

digits-below : (us : List ℕ) → T (every is_digit us) → T (every below_ten (map digit_of us))
digits-below us t = rw (every_map below_ten digit_of us) (every-weaker is_digit (λ (u : ℕ). below_ten (digit_of u)) digit-below us t)

length-least : (us : List ℕ) → T (not (is_empty us)) → T (leb 1 (length us))
unfolding is_empty
length-least [] t = absurd t
length-least (u ∷ us) t = le→leb 1 (suc (length us)) (omega arith)

quoted-some : (us : List ℕ) → eqb (before 34 us) 0 ≡ false → T (not (is_empty (take (before 34 us) us)))
unfolding before is_empty
quoted-some [] e = absurd (true≢false e)
quoted-some (u ∷ us) e = by_cases (eqb u 34) (λ t. absurd (true≢false (rw t at e))) (λ t. rw t tt)

-- a property of the token that a form gives, where it gives one
abbrev pub InForm : (Token → Type 0) → Option Token → Type 0
InForm P none = Unit {0}
InForm P (some t) = P t

-- what a bracket's inside may stand for: a property of these is one of the token inside any bracket
module _ (P : Token → Type 0)
    (colours : (n : ℕ) → n ≤ 56 → P (colour n))
    (elapses : (e : Elapsed) (n : ℕ) → T (leb 1 n) → P (elapsed e n))
    (conditions : (w : Written) → T (written_in_range w) → P (condition w)) where
  named-form : (n : ℕ) (names : List String) (us : List ℕ) → n + length names ≤ 57 → InForm P (named_from n names us)
  unfolding named_from
  named-form n [] us h = tt
  named-form n (name ∷ names) us h =
      cond_both (InForm P) (same (units name) us) (colours n (omega arith)) (named-form (suc n) names us (omega arith))

  digits-form : (us : List ℕ) → InForm P (colour_digits us)
  unfolding colour_digits
  digits-form us =
      cond-case (InForm P) (no_leading_zero us && every is_digit us && leb (number_from 0 (map digit_of us)) 56)
      (λ e.
      let t : T (no_leading_zero us && every is_digit us && leb (number_from 0 (map digit_of us)) 56) = true-T e in
      colours (number_from 0 (map digit_of us)) (search (and_left, and_right, leb→le)))
      (λ e. tt)

  numbered-form : (us : List ℕ) → InForm P (numbered us)
  unfolding numbered
  numbered-form us = cond_both (InForm P) (starts_with (units "Color") us) (digits-form (drop 5 us)) tt

  elapsed-form : (u : ℕ) (e : Elapsed) (us : List ℕ) → InForm P (elapsed_inside u e us)
  unfolding elapsed_inside
  elapsed-form u e us =
      cond-case (InForm P) (not (is_empty us) && every (eqb u) us)
      (λ h. elapses e (length us) (length-least us (and_left (not (is_empty us)) (every (eqb u) us) (true-T h))))
      (λ h. tt)

  decimals-form : (c : Comparison) (negative : Bool) (whole us : List ℕ) → T (every is_digit whole) → T (not (is_empty (map digit_of whole)))
      → InForm P (decimals_of c negative whole us)
  unfolding decimals_of every written_in_range
  decimals-form c negative whole [] t s = let a = digits-below whole t in conditions _ (search and_in)
  decimals-form c negative whole (u ∷ us) t s =
      cond-case (InForm P) (eqb u 46 && not (is_empty us) && every is_digit us)
      (λ h.
      let a : T (eqb u 46 && not (is_empty us) && every is_digit us) = true-T h in
      let d : T (every is_digit us) = search (and_left, and_right) in
      let b = digits-below whole t in
      let k = digits-below us d in
      conditions _ (search and_in))
      (λ h. tt)

  whole-form : (c : Comparison) (negative : Bool) (us : List ℕ) → InForm P (whole_of c negative us)
  unfolding whole_of
  whole-form c negative us =
      cond-case (InForm P) (eqb (leading is_digit us) 0) (λ e. tt)
      (λ e. decimals-form c negative (take (leading is_digit us) us) (drop (leading is_digit us) us) (leading-every is_digit us) (leading-some is_digit us e))

  signed-form : (c : Comparison) (us : List ℕ) → InForm P (signed_of c us)
  unfolding signed_of
  signed-form c us = cond_both (InForm P) (starts_with (units "-") us) (whole-form c true (drop 1 us)) (whole-form c false us)

  condition-form : (us : List ℕ) → InForm P (condition_inside us)
  unfolding condition_inside
  condition-form us =
      cond_both (InForm P) (starts_with (units "<=") us) (signed-form at_most (drop 2 us))
      (cond_both (InForm P) (starts_with (units ">=") us) (signed-form at_least (drop 2 us))
      (cond_both (InForm P) (starts_with (units "<>") us) (signed-form unequal (drop 2 us))
      (cond_both (InForm P) (starts_with (units "=") us) (signed-form equal (drop 1 us))
      (cond_both (InForm P) (starts_with (units "<") us) (signed-form less (drop 1 us))
      (cond_both (InForm P) (starts_with (units ">") us) (signed-form greater (drop 1 us)) tt)))))

  first-form : (o p : Option Token) → InForm P o → InForm P p → InForm P (first_form o p)
  unfolding first_form
  first-form none p h k = k
  first-form (some t) p h k = h

  pub inside-form : (us : List ℕ) → InForm P (inside_of us)
  unfolding inside_of colour_names
  inside-form us =
      first-form (named_from 1 colour_names us) _ (named-form 1 colour_names us (omega arith))
      (first-form (numbered us) _ (numbered-form us)
      (first-form (elapsed_inside 104 hours us) _ (elapsed-form 104 hours us)
      (first-form (elapsed_inside 109 minutes us) _ (elapsed-form 109 minutes us)
      (first-form (elapsed_inside 115 seconds us) _ (elapsed-form 115 seconds us) (condition-form us)))))

-- a property of the token that a step reads and of the units behind its first one, where it reads one
abbrev pub InStep : (Token → ℕ → Type 0) → Step → Type 0
InStep P (read t more) = P t more
InStep P broken = Unit {0}

pub closed-step : (P : Token → ℕ → Type 0) (n : ℕ) (o : Option Token) → InForm (λ (t : Token). P t (suc n)) o → InStep P (closed n o)
unfolding closed
closed-step P n none h = tt
closed-step P n (some t) h = h

-- a test that all rows and `other` pass is passed by what any unit is
pub first_passes : (f : First → Bool) (rs : List FirstRow) (u : ℕ)
    → T (f other) → T (every (λ (r : FirstRow). f r.first) rs) → T (f (first_in rs u))
unfolding first_in
first_passes f [] u o t = o
first_passes f (r ∷ rs) u o t =
    cond_both (λ (x : First). T (f x)) (eqb r.unit u)
    (every-head (λ (r : FirstRow). f r.first) r rs t)
    (first_passes f rs u o (every-tail (λ (r : FirstRow). f r.first) r rs t))

-- the token of a row passes the test
unfoldable pub single_passes : (Token → Bool) → First → Bool
single_passes f quote = true
single_passes f backslash = true
single_passes f underscore = true
single_passes f asterisk = true
single_passes f open_bracket = true
single_passes f capital_g = true
single_passes f capital_a = true
single_passes f capital_e = true
single_passes f other = true
single_passes f (letter l) = true
single_passes f (place_unit p) = true
single_passes f (single t) = f t

-- what a place is read as, with what is directly behind it
over-form : (P : Token → ℕ → Type 0) (p : Place) (us : List ℕ) → P (place p) 0 → (1 ≤ length us → P (over p) 1)
    → ((u : ℕ) (vs : List ℕ) → us ≡ u ∷ vs → is_place_unit u ≡ false → is_digit u ≡ true → P (over_fixed p (fixed_number (u ∷ take (leading is_digit vs) vs))) (2 + leading is_digit vs))
    → InStep P (over_step p us)
unfolding over_step
over-form P p [] a b c = a
over-form P p (u ∷ us) a b c =
    cond-case (InStep P) (is_place_unit u) (λ e. b (omega arith))
    (λ e. cond-case (InStep P) (is_digit u) (λ d. c u us refl e d) (λ d. a))

pub place-form : (P : Token → ℕ → Type 0) (p : Place) (us : List ℕ) → P (place p) 0 → (2 ≤ length us → P (over p) 1)
    → ((u : ℕ) (vs : List ℕ) → length us ≡ 2 + length vs → is_place_unit u ≡ false → is_digit u ≡ true
    → P (over_fixed p (fixed_number (u ∷ take (leading is_digit vs) vs))) (2 + leading is_digit vs))
    → InStep P (place_step p us)
unfolding place_step
place-form P p [] a b c = a
place-form P p (s ∷ us) a b c =
    cond_both (InStep P) (eqb s 47)
    (over-form P p us a (λ h. b (omega arith)) (λ u vs e. c u vs (omega (arith, ap (λ (xs : List ℕ). length xs) e)))) a

-- a fixed number is from 1 to 1,000
pub fixed-ranged : (u : ℕ) (us : List ℕ) → is_place_unit u ≡ false → is_digit u ≡ true → T (leb 1 (fixed_number (u ∷ us)) && leb (fixed_number (u ∷ us)) 1000)
unfolding fixed_number number_from is_place_unit is_digit digit_of any units
fixed-ranged u us no_place is_one =
    let n = number_from 0 (map digit_of (u ∷ us)) in
    let digit : T (leb 48 u && leb u 57) = true-T is_one in
    let least = leb→le 48 u (and_left (leb 48 u) (leb u 57) digit) in
    let other : u ≡ 48 → ⊥ = λ e. true≢false (rw e at no_place) in
    let more : 10 * 0 + (u - 48) ≤ n = number-grows (10 * 0 + (u - 48)) (map digit_of us) in
    and_in (leb 1 (min 1000 n)) (leb (min 1000 n) 1000) (le→leb 1 (min 1000 n) (omega arith)) (le→leb (min 1000 n) 1000 (omega arith))

-- the sections' tokens: a test that each token but the semicolons passes is passed by every token of a section
joined-passes : (f : Token → Bool) (t : Token) (r : List (List Token)) → T (f t) → T (every (every f) r) → T (every (every f) (joined t r))
unfolding joined every
joined-passes f t [] h r = every-cons (every f) (t ∷ []) [] (every-cons f t [] h tt) tt
joined-passes f t (s ∷ ss) h r =
    every-cons (every f) (t ∷ s) ss (every-cons f t s h (every-head (every f) s ss r)) (every-tail (every f) s ss r)

split-passes : (g f : Token → Bool) → ((t : Token) → is_semicolon t ≡ false → T (g t) → T (f t))
    → (ts : List Token) → T (every g ts) → T (every (every f) (split ts))
unfolding split every
split-passes g f h [] a = tt
split-passes g f h (t ∷ ts) a =
    let r : T (every (every f) (split ts)) = split-passes g f h ts (every-tail g t ts a) in
    cond-case (λ (ss : List (List Token)). T (every (every f) ss)) (is_semicolon t)
    (λ e. every-cons (every f) [] (split ts) tt r)
    (λ e. joined-passes f t (split ts) (h t e (every-head g t ts a)) r)

-- the parts of a section
unfoldable pub condition_digits : Option Written → Bool
condition_digits none = true
condition_digits (some w) = written_in_range w

-- what the parts of a section hold
unfoldable pub parts_pass : (ℕ → Bool) → Parts → Bool
parts_pass f p =
    leb p.colour 56
    && condition_digits p.condition
    && every (token_passes f) p.body
    && every (λ (t : Token). not (is_semicolon t)) p.body

abbrev pub parts_in_range : Parts → Bool
parts_in_range = parts_pass is_unit

false-not : (b : Bool) → b ≡ false → T (not b)
false-not b e = rw e tt

-- ---- a test that every unit of a code passes is passed by the units of its tokens
module _ (test : ℕ → Bool) where
  abbrev passes : Token → Bool
  passes = token_passes test

  abbrev Ranged : Token → ℕ → Type 0
  Ranged t more = T (passes t)

  quoted-ranged : (us : List ℕ) → T (every test us) → InStep Ranged (quoted us)
  unfolding quoted token_passes
  quoted-ranged us t =
      cond-case (InStep Ranged) (eqb (before 34 us) 0 || eqb (before 34 us) (length us)) (λ e. tt)
      (λ e. and_in (every test (take (before 34 us) us)) _ (every_take test (before 34 us) us t) (quoted-some us (or-false _ _ e).0))

  marked-ranged : (g : ℕ → Token) (us : List ℕ) → ((u : ℕ) → T (test u) → T (passes (g u))) → T (every test us) → InStep Ranged (marked g us)
  unfolding marked
  marked-ranged g [] h t = tt
  marked-ranged g (u ∷ us) h t = h u (every-head test u us t)

  run-ranged : (l : Letter) (u : ℕ) (us : List ℕ) → InStep Ranged (run_step l u us)
  unfolding run_step token_passes
  run-ranged l u us = cond-case (InStep Ranged) (run_allowed l (suc (leading (eqb u) us))) (λ e. true-T e) (λ e. tt)

  general-ranged : (us : List ℕ) → InStep Ranged (general_word us)
  unfolding general_word token_passes
  general-ranged us = cond_both (InStep Ranged) (starts_with (units "General") us) tt tt

  half-ranged : (us : List ℕ) → InStep Ranged (half_day_word us)
  unfolding half_day_word token_passes
  half-ranged us =
      cond_both (InStep Ranged) (starts_with (units "AM/PM") us) tt (cond_both (InStep Ranged) (starts_with (units "A/P") us) tt tt)

  exponent-ranged : (us : List ℕ) → InStep Ranged (exponent_word us)
  unfolding exponent_word token_passes
  exponent-ranged us =
      cond_both (InStep Ranged) (starts_with (units "E+") us) tt (cond_both (InStep Ranged) (starts_with (units "E-") us) tt tt)

  bracketed-ranged : (us : List ℕ) → InStep Ranged (bracketed us)
  unfolding bracketed token_passes
  bracketed-ranged us =
      cond_both (InStep Ranged) (eqb (before 93 us) (length us)) tt
      (closed-step Ranged (before 93 us) (inside_of (take (before 93 us) us))
      (inside-form (λ (t : Token). T (passes t)) (λ n h. le→leb n 56 h) (λ e n h. h) (λ w h. h) (take (before 93 us) us)))

  by-ranged : (x : First) (u : ℕ) (us : List ℕ) → T (single_passes passes x) → T (test u) → T (every test us) → InStep Ranged (step_by x u us)
  unfolding step_by single_passes token_passes every is_empty
  by-ranged quote u us s t ts = quoted-ranged us ts
  by-ranged backslash u us s t ts = marked-ranged (λ (v : ℕ). literal (v ∷ [])) us (λ v h. and_in (every test (v ∷ [])) true (every-cons test v [] h tt) tt) ts
  by-ranged underscore u us s t ts = marked-ranged blank us (λ v h. h) ts
  by-ranged asterisk u us s t ts = marked-ranged fill us (λ v h. h) ts
  by-ranged open_bracket u us s t ts = bracketed-ranged us
  by-ranged capital_g u us s t ts = general-ranged (u ∷ us)
  by-ranged capital_a u us s t ts = half-ranged (u ∷ us)
  by-ranged capital_e u us s t ts = exponent-ranged (u ∷ us)
  by-ranged (letter l) u us s t ts = run-ranged l u us
  by-ranged (place_unit p) u us s t ts =
      place-form Ranged p us tt (λ h. tt) (λ v vs h none some. fixed-ranged v (take (leading is_digit vs) vs) none some)
  by-ranged (single t) u us s p ts = s
  by-ranged other u us s t ts = cond_both (InStep Ranged) (any (eqb u) bare_literals) t tt

  rows-ranged : T (every (λ (r : FirstRow). single_passes passes r.first) first_rows)
  unfolding every first_rows single_passes token_passes
  rows-ranged = tt

  step-ranged : (u : ℕ) (us : List ℕ) → T (test u) → T (every test us) → InStep Ranged (step_at u us)
  unfolding step_at single_passes
  step-ranged u us t ts =
      by-ranged (first_in first_rows u) u us (first_passes (single_passes passes) first_rows u tt rows-ranged) t ts

  -- the tokens of a code
  abbrev AllRanged : Lexed → Type 0
  AllRanged l = T (every passes (tokens_of (placed_of l)))

  onto-ranged : (p : Placed) (l : Lexed) → T (passes p.token) → AllRanged l → AllRanged (onto p l)
  unfolding onto placed_of tokens_of every
  onto-ranged p (good ps) t h = every-cons passes p.token (tokens_of ps) t h
  onto-ranged p (bad k) t h = tt

  after-ranged : (k : ℕ) (s : Step) (rest : ℕ → Lexed) → InStep Ranged s → ((n : ℕ) → AllRanged (rest n)) → AllRanged (after_step k s rest)
  unfolding after_step placed_of tokens_of every
  after-ranged k (read t more) rest h r = onto-ranged _ (rest more) h (r more)
  after-ranged k broken rest h r = tt

  lex-ranged : (k skip : ℕ) (us : List ℕ) → T (every test us) → AllRanged (lex_from k skip us)
  unfolding lex_from placed_of tokens_of every
  lex-ranged k skip [] t = tt
  lex-ranged k (suc skip) (u ∷ us) t = lex-ranged (suc k) skip us (every-tail test u us t)
  lex-ranged k zero (u ∷ us) t =
      after-ranged k (step_at u us) _
      (step-ranged u us (every-head test u us t) (every-tail test u us t))
      (λ (n : ℕ). lex-ranged (suc k) n us (every-tail test u us t))

  pub tokens-pass : (code : List ℕ) → T (every test code) → T (every passes (tokens_of (placed_of (lex code))))
  unfolding lex
  tokens-pass code t = lex-ranged 0 0 code t

  -- a token that may stand in a section
  abbrev in_section : Token → Bool
  in_section t = passes t && not (is_semicolon t)

  colour-in : (t : Token) → T (passes t) → T (leb (colour_in t) 56)
  unfolding colour_in token_passes
  colour-in =
      by_token (λ (t : Token). T (passes t) → T (leb (colour_in t) 56))
      (λ us h. tt) (λ u h. tt) (λ u h. tt) (λ u h. tt) (λ p h. tt) (λ h. tt) (λ h. tt) (λ h. tt) (λ h. tt) (λ h. tt) (λ h. tt)
      (λ x h. tt) (λ l n h. tt) (λ e n h. tt) (λ n h. h) (λ w h. tt) (λ m h. tt) (λ p h. tt) (λ p n h. tt)

  pub condition-in : (t : Token) → T (passes t) → T (condition_digits (condition_in t))
  unfolding condition_in condition_digits token_passes
  condition-in =
      by_token (λ (t : Token). T (passes t) → T (condition_digits (condition_in t)))
      (λ us h. tt) (λ u h. tt) (λ u h. tt) (λ u h. tt) (λ p h. tt) (λ h. tt) (λ h. tt) (λ h. tt) (λ h. tt) (λ h. tt) (λ h. tt)
      (λ x h. tt) (λ l n h. tt) (λ e n h. tt) (λ n h. tt) (λ w h. h) (λ m h. tt) (λ p h. tt) (λ p n h. tt)

  made-in-range : (c : ℕ) (w : Option Written) (ts : List Token)
      → T (leb c 56) → T (condition_digits w) → T (every in_section ts) → T (parts_pass test (record { colour = c; condition = w; body = ts }))
  unfolding parts_pass
  made-in-range c w ts hc hw t =
      let a : T (every passes ts)
      = every-weaker in_section passes (λ x h. and_left (passes x) (not (is_semicolon x)) h) ts t in
      let b : T (every (λ (x : Token). not (is_semicolon x)) ts)
      = every-weaker in_section (λ (x : Token). not (is_semicolon x)) (λ x h. and_right (passes x) (not (is_semicolon x)) h) ts t in
      search and_in depth 8

  after-in-range : (c : ℕ) (ts : List Token) → T (leb c 56) → T (every in_section ts) → T (parts_pass test (after_colour c ts))
  unfolding after_colour condition_digits
  after-in-range c [] hc h = made-in-range c none [] hc tt h
  after-in-range c (t ∷ ts) hc h =
      let x : T (passes t) = and_left (passes t) (not (is_semicolon t)) (every-head in_section t ts h) in
      cond_both (λ (p : Parts). T (parts_pass test p)) (is_condition t)
      (made-in-range c (condition_in t) ts hc (condition-in t x) (every-tail in_section t ts h))
      (made-in-range c none (t ∷ ts) hc tt h)

  parts-made : (ts : List Token) → T (every in_section ts) → T (parts_pass test (parts_of ts))
  unfolding parts_of
  parts-made [] h = after-in-range 0 [] tt h
  parts-made (t ∷ ts) h =
      let x : T (passes t) = and_left (passes t) (not (is_semicolon t)) (every-head in_section t ts h) in
      cond_both (λ (p : Parts). T (parts_pass test p)) (is_colour t)
      (after-in-range (colour_in t) ts (colour-in t x) (every-tail in_section t ts h))
      (after-in-range 0 (t ∷ ts) tt h)

  pub parts-pass : (code : List ℕ) → T (every test code) → T (every (parts_pass test) (parts_in code))
  unfolding parts_in
  parts-pass code t =
      let ts = tokens_of (placed_of (lex code)) in
      let s : T (every (every in_section) (split ts))
      = split-passes passes in_section
      (λ x e h. and_in (passes x) (not (is_semicolon x)) h (false-not (is_semicolon x) e)) ts (tokens-pass code t) in
      rw (every_map (parts_pass test) parts_of (split ts))
      (every-weaker (every in_section) (λ (x : List Token). parts_pass test (parts_of x)) parts-made (split ts) s)

-- ---- a test that the items of each token pass is passed by the items of a body
module _ (g : Token → Bool) (f : Item → Bool)
    (made : (of_date : Bool) (t : Token) → T (g t) → T (every f (token_items of_date t)))
    (parts : (n : ℕ) → n ≤ 3 → eqb n 0 ≡ false → T (f (part n))) where
  plain-pass : (ts : List Token) → T (every g ts) → T (every f (plain_items ts))
  unfolding plain_items every
  plain-pass [] h = tt
  plain-pass (t ∷ ts) h =
      every_append f (token_items false t) (plain_items ts) (made false t (every-head g t ts h)) (plain-pass ts (every-tail g t ts h))

  date-pass : (b : Bool) (skip : ℕ) (ts : List Token) → T (every g ts) → T (every f (date_items (pieces_from b skip ts)))
  unfolding pieces_from date_items piece_items every
  date-pass b skip [] h = tt
  date-pass b (suc skip) (t ∷ ts) h = date-pass false skip ts (every-tail g t ts h)
  date-pass b zero (t ∷ ts) h =
      let n = part_zeros b t ts in
      let is = date_items (pieces_from (is_seconds_token t) n ts) in
      let r : T (every f is) = date-pass (is_seconds_token t) n ts (every-tail g t ts h) in
      by_cases (eqb n 0)
      (λ e. rw e (every_append f (token_items true t) is (made true t (every-head g t ts h)) r))
      (λ e. rw e (every-cons f (part n) is (parts n (zeros-most b t ts) e) r))

  pub body-pass : (ts : List Token) → T (every g ts) → T (every f (last_fill (body_items ts)))
  unfolding body_items
  body-pass ts h =
      every-last_fill f (body_items ts)
      (cond_both (λ (is : List Item). T (every f is)) (same_kind (body_kind ts) date_kind) (date-pass false 0 ts h) (plain-pass ts h))

  -- and by those of its section, where the rule for m does not change the answer
  module _ (settles : (earlier later : Run) (i : Item) → T (f i) → T (f (settled_item earlier later i))) where
    settled-pass : (e : Run) (is : List Item) → T (every f is) → T (every f (settled_from e is))
    unfolding settled_from every
    settled-pass e [] t = tt
    settled-pass e (i ∷ is) t =
        every-cons f (settled_item e (first_run is) i) (settled_from (nearer (run_of i) e) is)
        (settles e (first_run is) i (every-head f i is t)) (settled-pass (nearer (run_of i) e) is (every-tail f i is t))

    pub items-pass : (p : Parts) → T (every g p.body) → T (every f (section_of p).items)
    unfolding section_of settled
    items-pass p h = settled-pass no_run (last_fill (body_items p.body)) (body-pass p.body h)
