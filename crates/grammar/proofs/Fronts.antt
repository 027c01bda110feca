-- Level 1, from the grammar to lexing: a token that units spell is the token that lexing reads at their front.
-- Assumes nothing.
use Prim.Native.Nat.{ℕ, zero, suc, ◌+◌, ◌-◌, ◌*◌, ◌≤◌}
use native.Mathlib.Omega.{arith}
use mathlib.Core.Path.{◌≡◌, refl, sym, ap, ◌∙◌}
use mathlib.Core.Bool.{Bool, true, false, cond, not, ◌&&◌, and-false, true≢false}
use mathlib.Core.List.{List, [], ◌∷◌, ◌++◌, map, append-nil}
use mathlib.Core.Logic.{◌≢◌}
use mathlib.Core.Option.{none, some}
use Prim.Native.String.{String}
use lib.ListN.{length, take, drop, replicate, length-append, length-replicate}
use lib.Seq.{take_at, drop_at, drop-append-add, take-length, drop-length}
use lib.Dec.{T, leb, eqb}
use borrow.Author.Tests.{ne_eqb, eq-eqb, eqb-true, eqb-false, leb-true, le-leb, not-true}
use Rattle.lists.specs.Lists.{every, any, is_empty, All}
use Rattle.lists.proofs.Bools.{no, and_parts, by_cases, cond_both, cond-left, cond-right, not_so}
use Rattle.calendar.specs.Names.{units}
use Rattle.formats.specs.Tokens.{Token, literal, bare, place, over_fixed, run, elapsed, colour, condition, Place, zero_place, hash_place, space_place, Letter, letter_y, letter_m, letter_d, letter_h, letter_s, Elapsed, hours, minutes, seconds, Comparison, equal, less, greater, at_most, at_least, unequal, Step, read, broken, before, leading, starts_with, same, quoted, marked, general_word, half_day_word, exponent_word, run_allowed, run_step, is_digit, digit_of, number_from, is_place_unit, fixed_number, over_step, place_step, colour_names, named_from, no_leading_zero, colour_digits, numbered, elapsed_inside, decimals_of, whole_of, signed_of, condition_inside, first_form, inside_of, closed, bracketed, FirstRow, letter, place_unit, other, first_rows, first_in, bare_literals, step_by, step_at}
use Rattle.formats.specs.Kinds.{form_of, is_colour, colour_in, token_items}
use Rattle.grammar.proofs.Tests.{every-parts}
use Rattle.grammar.specs.Units.{Ended, WholeRun, Bracketed, ASCII-DIGIT, NFPartCompOper, oper-less, oper-at-most, oper-unequal, oper-equal, oper-greater, oper-at-least, NFPartIntNum, int-num, NFPartCondNum, cond-num-whole, cond-num-point, cond-num-minus, NFPart1To56, one-digit, two_digits, fifty, fifties, INTL-COLOR, black, blue, cyan, green, magenta, red, white, yellow, bare_units, BareLiteral, sign-plus, sign-minus, NFPartNumber1To9, NFPartNumToken1, number-sign, question-mark, digit-zero, place-below, digit-below, NoSolidus, NoDigit, Spells, NFPartYear-2, NFPartYear-4, NFPartMonth, NFPartDay, NFPartHour, NFPartAbsHour, NFPartMinute, NFPartAbsMinute, NFPartSecond, NFPartAbsSecond, NFPartCond, NFPartColor-name, NFPartColor-number, NFPartExponential, NFPartNumToken1-alone, ASCII-SOLIDUS-place, ASCII-SOLIDUS-number, ASCII-PERCENT-SIGN, ASCII-COMMERCIAL-AT, ASCII-SEMICOLON, LITERAL-CHAR, LITERAL-CHAR-REPEAT, LITERAL-STRING, LITERAL-CHAR-SPACE, INTL-CHAR-DECIMAL-SEP, INTL-CHAR-NUMGRP-SEP, bare-literal, INTL-NUMFMT-GENERAL, INTL-AMPM-long, INTL-AMPM-short}

-- the step from the first of the units
abbrev pub step_of : List ℕ → Step
step_of [] = broken
step_of (u ∷ us) = step_at u us

-- a colour is above 0, since one that is 0 would stand for none, and a literal has a unit
abbrev pub is_shown : Token → Bool
is_shown t = cond (is_colour t) (leb 1 (colour_in t)) (not (eqb (form_of t) 0 && is_empty (token_items false t)))

-- lexing reads t at the front of us and leaves vs
pub record Front (t : Token) (us vs : List ℕ) : Type 0 where
  pub more : ℕ
  pub step : step_of us ≡ read t more
  pub left : drop (suc more) us ≡ vs
  pub shown : is_shown t ≡ true

abbrev pub letter_unit : Letter → ℕ
letter_unit letter_y = 121
letter_unit letter_m = 109
letter_unit letter_d = 100
letter_unit letter_h = 104
letter_unit letter_s = 115

-- ---- units in front of others

leading-all : (f : ℕ → Bool) (ws vs : List ℕ) → All (λ (w : ℕ). f w ≡ true) ws → leading f vs ≡ 0 → leading f (ws ++ vs) ≡ length ws
unfolding leading
leading-all f [] vs a e = e
leading-all f (w ∷ ws) vs a e = rw a.0 (ap suc (leading-all f ws vs a.1 e))

all_same : (u n : ℕ) → All (λ (w : ℕ). eqb u w ≡ true) (replicate n u)
all_same u zero = tt
all_same u (suc n) = (eq-eqb u u refl, all_same u n)

leading-other : (u : ℕ) (vs : List ℕ) → Ended u vs → leading (eqb u) vs ≡ 0
unfolding leading
leading-other u [] h = refl
leading-other u (v ∷ vs) h = rw (ne_eqb u v (λ e. h (sym e)))

-- the first q behind units without one
before-all : (q : ℕ) (ws vs : List ℕ) → All (λ (w : ℕ). w ≢ q) ws → before q (ws ++ q ∷ vs) ≡ length ws
unfolding before
before-all q [] vs a = rw (eq-eqb q q refl)
before-all q (w ∷ ws) vs a = rw (ne_eqb w q a.0) (ap suc (before-all q ws vs a.1))

-- what is left behind ws and one more
past : (q : ℕ) (ws vs : List ℕ) → drop (suc (length ws)) (ws ++ q ∷ vs) ≡ vs
past q ws vs =
    let e : suc (length ws) ≡ length ws + 1 = omega arith in
    rw e (drop-append-add ws (q ∷ vs) 1)

not-whole : (q : ℕ) (ws vs : List ℕ) → eqb (length ws) (length (ws ++ q ∷ vs)) ≡ false
not-whole q ws vs = ne_eqb (length ws) (length (ws ++ q ∷ vs)) (λ e. omega (arith, length-append ws (q ∷ vs)))

-- ---- runs

letter-first : (l : Letter) → first_in first_rows (letter_unit l) ≡ letter l
unfolding first_in first_rows
letter-first letter_y = refl
letter-first letter_m = refl
letter-first letter_d = refl
letter-first letter_h = refl
letter-first letter_s = refl

run-front : (l : Letter) (n : ℕ) (us vs : List ℕ) → 1 ≤ n → run_allowed l n ≡ true → WholeRun (letter_unit l) n us vs → Front (run l n) us vs
unfolding step_at step_by run_step
run-front l zero us vs h a r = absurd (omega arith)
run-front l (suc m) us vs h a r =
    let u = letter_unit l in
    let n : leading (eqb u) (replicate m u ++ vs) ≡ m
    = leading-all (eqb u) (replicate m u) vs (all_same u m) (leading-other u vs r.ends) ∙ length-replicate m u in
    record {
      more = m;
      step = rw (r.stands, letter-first l, n, a);
      left = rw r.stands (drop_at (replicate m u) vs m (length-replicate m u));
      shown = refl;
    }

-- ---- brackets

bracket-front : (t : Token) (ws us vs : List ℕ) → All (λ (w : ℕ). w ≢ 93) ws → inside_of ws ≡ some t → is_shown t ≡ true → Bracketed ws us vs → Front t us vs
unfolding step_at step_by first_in first_rows bracketed closed
bracket-front t ws us vs a i s e =
    record {
      more = suc (length ws);
      step = rw (e, before-all 93 ws vs a, not-whole 93 ws vs, take_at ws (93 ∷ vs) (length ws) refl, i);
      left = rw e (past 93 ws vs);
      shown = s;
    }

-- no name in front of these units
none_named : (n : ℕ) (names : List String) (us : List ℕ) → T (every (λ (name : String). not (starts_with (units name) us)) names) → named_from n names us ≡ none
unfolding every named_from same
none_named n [] us t = refl
none_named n (name ∷ names) us t =
    let a : T (not (starts_with (units name) us)) = cond-left (not (starts_with (units name) us)) _ t in
    rw (not_so (starts_with (units name) us) a, and-false (eqb (length (units name)) (length us))) (none_named (suc n) names us (cond-right (not (starts_with (units name) us)) _ t))

-- a colour's name: what it stands for, that no closing bracket is in it, and that its number is above 0
named : (n : ℕ) (ws : List ℕ) → INTL-COLOR n ws → (inside_of ws ≡ some (colour n)) × T (every (λ (w : ℕ). not (eqb w 93)) ws) × (leb 1 n ≡ true)
unfolding inside_of first_form named_from colour_names same starts_with units every
named n ws black = (refl, tt, refl)
named n ws blue = (refl, tt, refl)
named n ws cyan = (refl, tt, refl)
named n ws green = (refl, tt, refl)
named n ws magenta = (refl, tt, refl)
named n ws red = (refl, tt, refl)
named n ws white = (refl, tt, refl)
named n ws yellow = (refl, tt, refl)

-- ---- no closing bracket inside a bracket

abbrev Open : List ℕ → Type 0
Open ws = All (λ (w : ℕ). w ≢ 93) ws

open-append : (ws vs : List ℕ) → Open ws → Open vs → Open (ws ++ vs)
open-append [] vs a b = b
open-append (w ∷ ws) vs a b = (a.0, open-append ws vs a.1 b)

open-from : (ws : List ℕ) → T (every (λ (w : ℕ). not (eqb w 93)) ws) → Open ws
unfolding every
open-from [] t = tt
open-from (w ∷ ws) t = ((λ e. absurd (rw (eq-eqb w 93 e) at (cond-left (not (eqb w 93)) _ t))), open-from ws (cond-right (not (eqb w 93)) _ t))

open-digits : (ws : List ℕ) → All ASCII-DIGIT ws → Open ws
open-digits [] a = tt
open-digits (w ∷ ws) a = ((λ e. let h = a.0.1 in omega arith), open-digits ws a.1)

open-same : (u n : ℕ) → u ≢ 93 → Open (replicate n u)
open-same u zero h = tt
open-same u (suc n) h = (h, open-same u n h)

-- ---- digits

pub digit-fact : (u : ℕ) → is_digit u ≡ true → ASCII-DIGIT u
unfolding is_digit
digit-fact u e = let (a, b) = and_parts (leb 48 u) (leb u 57) e in (leb-true 48 u a, leb-true u 57 b)

pub digit-true : (u : ℕ) → ASCII-DIGIT u → is_digit u ≡ true
unfolding is_digit
digit-true u d = rw (le-leb 48 u d.0, le-leb u 57 d.1)

digits-true : (ws : List ℕ) → All ASCII-DIGIT ws → All (λ (w : ℕ). is_digit w ≡ true) ws
digits-true [] a = tt
digits-true (w ∷ ws) a = (digit-true w a.0, digits-true ws a.1)

every_true : (f : ℕ → Bool) (ws : List ℕ) → All (λ (w : ℕ). f w ≡ true) ws → every f ws ≡ true
unfolding every
every_true f [] a = refl
every_true f (w ∷ ws) a = rw a.0 (every_true f ws a.1)

-- ---- numbered colours

one_number : (u : ℕ) → 49 ≤ u → u ≤ 57 → colour_digits (u ∷ []) ≡ some (colour (digit_of u))
unfolding colour_digits no_leading_zero every number_from digit_of
one_number u a b =
    let e : 10 * 0 + (u - 48) ≡ u - 48 = omega arith in
    rw (ne_eqb u 48 (λ h. omega arith), digit-true u (omega arith, b), e, le-leb (u - 48) 56 (omega arith))

two-number : (u v : ℕ) → 49 ≤ u → u ≤ 57 → ASCII-DIGIT v → 10 * digit_of u + digit_of v ≤ 56 → colour_digits (u ∷ v ∷ []) ≡ some (colour (10 * digit_of u + digit_of v))
unfolding colour_digits no_leading_zero every number_from digit_of
two-number u v a b d h =
    let e : 10 * (10 * 0 + (u - 48)) + (v - 48) ≡ 10 * (u - 48) + (v - 48) = omega arith in
    rw (ne_eqb u 48 (λ h. omega arith), digit-true u (omega arith, b), digit-true v d, e, le-leb (10 * (u - 48) + (v - 48)) 56 h)

number_digits : (n : ℕ) (ws : List ℕ) → NFPart1To56 n ws → colour_digits ws ≡ some (colour n)
unfolding digit_of
number_digits n ws (one-digit u d) = one_number u d.0 d.1
number_digits n ws (two_digits u v d e) =
    let a = d.0 in let b = d.1 in let c = e.0 in let f = e.1 in
    two-number u v a (omega arith) e (omega arith)
number_digits n ws fifty = two-number 53 48 (omega arith) (omega arith) (omega arith, omega arith) (omega arith)
number_digits n ws (fifties v d) =
    let a = d.0 in let b = d.1 in
    two-number 53 v (omega arith) (omega arith) (omega arith, omega arith) (omega arith)

number-open : (n : ℕ) (ws : List ℕ) → NFPart1To56 n ws → Open ws
number-open n ws (one-digit u d) = let a = d.1 in ((λ e. omega arith), tt)
number-open n ws (two_digits u v d e) = let a = d.1 in let b = e.1 in ((λ e. omega arith), ((λ e. omega arith), tt))
number-open n ws fifty = ((λ e. omega arith), ((λ e. omega arith), tt))
number-open n ws (fifties v d) = let b = d.1 in ((λ e. omega arith), ((λ e. omega arith), tt))

number-shown : (n : ℕ) (ws : List ℕ) → NFPart1To56 n ws → leb 1 n ≡ true
unfolding digit_of
number-shown n ws (one-digit u d) = let a = d.0 in le-leb 1 n (omega arith)
number-shown n ws (two_digits u v d e) = let a = d.0 in le-leb 1 n (omega arith)
number-shown n ws fifty = refl
number-shown n ws (fifties v d) = le-leb 1 n (omega arith)

number-inside : (n : ℕ) (ws : List ℕ) → NFPart1To56 n ws → inside_of (units "Color" ++ ws) ≡ some (colour n)
unfolding inside_of first_form numbered starts_with units every colour_names
number-inside n ws d = rw (none_named 1 colour_names (units "Color" ++ ws) tt, number_digits n ws d)

-- ---- elapsed runs

abbrev elapsed_unit : Elapsed → ℕ
elapsed_unit hours = 104
elapsed_unit minutes = 109
elapsed_unit seconds = 115

elapsed-inside : (x : Elapsed) (n : ℕ) → inside_of (replicate (suc n) (elapsed_unit x)) ≡ some (elapsed x (suc n))
unfolding inside_of first_form numbered starts_with units elapsed_inside is_empty every colour_names
elapsed-inside hours n =
    rw (none_named 1 colour_names (replicate (suc n) 104) tt, every_true (eqb 104) (replicate n 104) (all_same 104 n), length-replicate {A = ℕ} n 104)
elapsed-inside minutes n =
    rw (none_named 1 colour_names (replicate (suc n) 109) tt, every_true (eqb 109) (replicate n 109) (all_same 109 n), length-replicate {A = ℕ} n 109)
elapsed-inside seconds n =
    rw (none_named 1 colour_names (replicate (suc n) 115) tt, every_true (eqb 115) (replicate n 115) (all_same 115 n), length-replicate {A = ℕ} n 115)

elapsed-open : (x : Elapsed) (n : ℕ) → Open (replicate n (elapsed_unit x))
elapsed-open hours n = open-same 104 n (λ e. omega arith)
elapsed-open minutes n = open-same 109 n (λ e. omega arith)
elapsed-open seconds n = open-same 115 n (λ e. omega arith)

-- ---- conditions

abbrev pub condition_token : Comparison → Bool → List ℕ → List ℕ → Token
condition_token c negative ws ds = condition (record { comparison = c; negative = negative; whole = map digit_of ws; decimals = map digit_of ds })

int-digits : (ws : List ℕ) → NFPartIntNum ws → All ASCII-DIGIT ws
int-digits ws (int-num u us a) = a

digits-empty : (ws : List ℕ) → NFPartIntNum ws → is_empty ws ≡ false
unfolding is_empty
digits-empty ws (int-num u us a) = refl

digits-some : (ws : List ℕ) → NFPartIntNum ws → eqb (length ws) 0 ≡ false
digits-some ws (int-num u us a) = ne_eqb (suc (length us)) 0 (λ e. omega arith)

whole-inside : (c : Comparison) (negative : Bool) (ws : List ℕ) → NFPartIntNum ws → whole_of c negative ws ≡ some (condition_token c negative ws [])
unfolding whole_of decimals_of leading
whole-inside c negative ws d =
    let n : leading is_digit ws ≡ length ws
    = ap (leading is_digit) (sym (append-nil ws)) ∙ leading-all is_digit ws [] (digits-true ws (int-digits ws d)) refl in
    let t : take (length ws) ws ≡ ws = take-length ws in
    let e : drop (length ws) ws ≡ [] = drop-length ws in
    rw (n, digits-some ws d, t, e)

point-inside : (c : Comparison) (negative : Bool) (ws ds : List ℕ) → NFPartIntNum ws → NFPartIntNum ds → whole_of c negative (ws ++ 46 ∷ ds) ≡ some (condition_token c negative ws ds)
unfolding whole_of decimals_of leading is_digit
point-inside c negative ws ds d e =
    let n : leading is_digit (ws ++ 46 ∷ ds) ≡ length ws = leading-all is_digit ws (46 ∷ ds) (digits-true ws (int-digits ws d)) refl in
    rw (n, digits-some ws d, take_at ws (46 ∷ ds) (length ws) refl, drop_at ws (46 ∷ ds) (length ws) refl, digits-empty ds e, every_true is_digit ds (digits-true ds (int-digits ds e)))

-- a condition's number starts with a minus or a digit
no_minus_lem : (ws vs : List ℕ) → NFPartIntNum ws → starts_with (units "-") (ws ++ vs) ≡ false
unfolding starts_with units
no_minus_lem ws vs (int-num u us a) = let b = a.0.0 in rw (ne_eqb 45 u (λ e. omega arith))

num-head : (w : ℕ) → 58 ≤ w → (ws vs : List ℕ) → NFPartIntNum ws → starts_with (w ∷ []) (ws ++ vs) ≡ false
unfolding starts_with
num-head w h ws vs (int-num u us a) = let b = a.0.1 in rw (ne_eqb w u (λ e. omega arith))

cond-head : (w : ℕ) → 58 ≤ w → {negative : Bool} {ws ds us : List ℕ} → NFPartCondNum negative ws ds us → starts_with (w ∷ []) us ≡ false
unfolding starts_with
cond-head w h (cond-num-whole {ws = ws} d) = rw (← (append-nil ws)) (num-head w h ws [] d)
cond-head w h (cond-num-point {ws = ws} {ds = ds} us d e p) = rw p (num-head w h ws (46 ∷ ds) d)
cond-head w h (cond-num-minus d) = rw (ne_eqb w 45 (λ e. omega arith))

signed-inside : (c : Comparison) {negative : Bool} {ws ds us : List ℕ} → NFPartCondNum negative ws ds us → signed_of c us ≡ some (condition_token c negative ws ds)
unfolding signed_of starts_with units
signed-inside c (cond-num-whole {ws = ws} d) =
    let m : starts_with (units "-") ws ≡ false = rw (append-nil ws) at (no_minus_lem ws [] d) in
    rw m (whole-inside c false ws d)
signed-inside c (cond-num-point {ws = ws} {ds = ds} us d e p) = rw (p, no_minus_lem ws (46 ∷ ds) d) (point-inside c false ws ds d e)
signed-inside c (cond-num-minus d) = minus-inside c d
  where
    minus-inside : (c : Comparison) {ws ds us : List ℕ} → NFPartCondNum false ws ds us → whole_of c true us ≡ some (condition_token c true ws ds)
    minus-inside c (cond-num-whole {ws = ws} d) = whole-inside c true ws d
    minus-inside c (cond-num-point {ws = ws} {ds = ds} us d e p) = rw p (point-inside c true ws ds d e)

condition-inside : {c : Comparison} {negative : Bool} {os ws ds us : List ℕ} → NFPartCompOper c os → NFPartCondNum negative ws ds us
    → inside_of (os ++ us) ≡ some (condition_token c negative ws ds)
unfolding inside_of first_form numbered starts_with units elapsed_inside is_empty every colour_names condition_inside
condition-inside {us = us} oper-less d =
    rw (none_named 1 colour_names (60 ∷ us) tt, cond-head 61 (omega arith) d, cond-head 62 (omega arith) d) (signed-inside less d)
condition-inside {us = us} oper-at-most d = rw (none_named 1 colour_names (60 ∷ 61 ∷ us) tt) (signed-inside at_most d)
condition-inside {us = us} oper-unequal d = rw (none_named 1 colour_names (60 ∷ 62 ∷ us) tt) (signed-inside unequal d)
condition-inside {us = us} oper-equal d = rw (none_named 1 colour_names (61 ∷ us) tt) (signed-inside equal d)
condition-inside {us = us} oper-greater d =
    rw (none_named 1 colour_names (62 ∷ us) tt, cond-head 61 (omega arith) d) (signed-inside greater d)
condition-inside {us = us} oper-at-least d = rw (none_named 1 colour_names (62 ∷ 61 ∷ us) tt) (signed-inside at_least d)

oper-open : {c : Comparison} {os : List ℕ} → NFPartCompOper c os → Open os
oper-open oper-less = ((λ e. omega arith), tt)
oper-open oper-at-most = ((λ e. omega arith), ((λ e. omega arith), tt))
oper-open oper-unequal = ((λ e. omega arith), ((λ e. omega arith), tt))
oper-open oper-equal = ((λ e. omega arith), tt)
oper-open oper-greater = ((λ e. omega arith), tt)
oper-open oper-at-least = ((λ e. omega arith), ((λ e. omega arith), tt))

cond-open : {negative : Bool} {ws ds us : List ℕ} → NFPartCondNum negative ws ds us → Open us
cond-open (cond-num-whole {ws = ws} d) = open-digits ws (int-digits ws d)
cond-open (cond-num-point {ws = ws} {ds = ds} us d e p) =
    rw p (open-append ws (46 ∷ ds) (open-digits ws (int-digits ws d)) ((λ e. omega arith), open-digits ds (int-digits ds e)))
cond-open (cond-num-minus d) = ((λ e. omega arith), cond-open d)

-- ---- each form of token

elapsed-front : (x : Elapsed) (n : ℕ) (us vs : List ℕ) → 1 ≤ n → Bracketed (replicate n (elapsed_unit x)) us vs → Front (elapsed x n) us vs
elapsed-front x zero us vs l b = absurd (omega arith)
elapsed-front x (suc m) us vs l b = bracket-front (elapsed x (suc m)) (replicate (suc m) (elapsed_unit x)) us vs (elapsed-open x (suc m)) (elapsed-inside x m) refl b

string-front : (u : ℕ) (ws us vs : List ℕ) → All (λ (w : ℕ). w ≢ 34) (u ∷ ws) → us ≡ 34 ∷ ((u ∷ ws) ++ 34 ∷ vs) → Front (literal (u ∷ ws)) us vs
unfolding step_at step_by first_in first_rows quoted is_empty token_items
string-front u ws us vs a e =
    record {
      more = suc (suc (length ws));
      step = rw (
        e,
        before-all 34 (u ∷ ws) vs a,
        ne_eqb (suc (length ws)) 0 (λ e. omega arith),
        not-whole 34 (u ∷ ws) vs,
        take_at (u ∷ ws) (34 ∷ vs) (suc (length ws)) refl,
      );
      left = rw e (past 34 (u ∷ ws) vs);
      shown = refl;
    }

-- a unit of these literals is in no row that starts another token
no_row : (ls : List ℕ) (u : ℕ) → any (eqb u) ls ≡ true → (rs : List FirstRow) → every (λ (r : FirstRow). not (any (eqb r.unit) ls)) rs ≡ true → first_in rs u ≡ other
unfolding first_in
no_row ls u m [] e = refl
no_row ls u m (r ∷ rs) e =
    let (a, b) = every-parts (λ (r : FirstRow). not (any (eqb r.unit) ls)) r rs e in
    by_cases (eqb r.unit u)
    (λ h. absurd (true≢false (sym m ∙ ap (λ (v : ℕ). any (eqb v) ls) (sym (eqb-true r.unit u h)) ∙ not-true (any (eqb r.unit) ls) a)))
    (λ h. rw h (no_row ls u m rs b))

bare_step : {u : ℕ} (us : List ℕ) → BareLiteral u → step_at u us ≡ read (bare u) 0
unfolding step_at step_by first_rows any every bare_literals units
bare_step {u} us m = rw (no_row bare_units u m first_rows refl, m)

-- ---- places, and what is directly behind them

place-first : {p : Place} {u : ℕ} → NFPartNumToken1 p u → first_in first_rows u ≡ place_unit p
unfolding first_in first_rows
place-first number-sign = refl
place-first question-mark = refl
place-first digit-zero = refl

pub place-unit : {p : Place} {u : ℕ} → NFPartNumToken1 p u → is_place_unit u ≡ true
unfolding is_place_unit any units
place-unit number-sign = refl
place-unit question-mark = refl
place-unit digit-zero = refl

-- the units of places
pub unit-place : (u : ℕ) → is_place_unit u ≡ true → (p : Place) × NFPartNumToken1 p u
unfolding is_place_unit any units
unit-place u e =
    by_cases (eqb u 48) (λ a. (zero_place, rw (eqb-true u 48 a) digit-zero)) (λ a.
    by_cases (eqb u 35) (λ b. (hash_place, rw (eqb-true u 35 b) number-sign)) (λ b.
    by_cases (eqb u 63) (λ c. (space_place, rw (eqb-true u 63 c) question-mark)) (λ c. no (rw (a, b, c) at e))))

-- a digit that is no place
pub later-digit : (u : ℕ) → is_place_unit u ≡ false → is_digit u ≡ true → NFPartNumber1To9 u
unfolding is_place_unit any units
later-digit u e d =
    let (a, b) = digit-fact u d in
    by_cases (eqb u 48) (λ z. absurd (true≢false (rw z at e)))
    (λ z. let other = eqb-false u 48 z in (omega arith, b))

alone-step : (p : Place) (us : List ℕ) → NoSolidus us → place_step p us ≡ read (place p) 0
unfolding place_step over_step
alone-step p [] n = refl
alone-step p (u ∷ []) n = cond_both (λ (s : Step). s ≡ read (place p) 0) (eqb u 47) refl refl
alone-step p (u ∷ v ∷ vs) n =
    by_cases (eqb u 47)
    (λ e.
    by_cases (is_place_unit v) (λ k. absurd (n (eqb-true u 47 e) (place-below (unit-place v k).1))) (λ k.
    by_cases (is_digit v) (λ d. absurd (n (eqb-true u 47 e) (digit-below (later-digit v k d)))) (λ d. rw (e, k, d))))
    (λ e. rw e)

no-digits : (us : List ℕ) → NoDigit us → leading is_digit us ≡ 0
unfolding leading
no-digits [] n = refl
no-digits (v ∷ vs) n = by_cases (is_digit v) (λ e. absurd (n (digit-fact v e))) (λ e. rw e)

-- a digit from 1 on is no place
no-unit : (v : ℕ) → NFPartNumber1To9 v → is_place_unit v ≡ false
unfolding is_place_unit any units
no-unit v d =
    let a = d.0 in let b = d.1 in
    rw (ne_eqb v 48 (λ e. omega arith), ne_eqb v 35 (λ e. omega arith), ne_eqb v 63 (λ e. omega arith))

fixed-front : {p : Place} {u : ℕ} (v : ℕ) (ws us vs : List ℕ) → NFPartNumToken1 p u → NFPartNumber1To9 v → All ASCII-DIGIT (v ∷ ws) → NoDigit vs
    → us ≡ u ∷ 47 ∷ ((v ∷ ws) ++ vs) → Front (over_fixed p (fixed_number (v ∷ ws))) us vs
unfolding step_at step_by place_step over_step
fixed-front v ws us vs k d a n e =
    let l : leading is_digit (ws ++ vs) ≡ length ws = leading-all is_digit ws vs (digits-true ws a.1) (no-digits vs n) in
    let two : 2 + length ws ≡ suc (suc (length ws)) = omega arith in
    record {
      more = suc (suc (length ws));
      step = rw (e, place-first k, no-unit v d, digit-true v a.0, l, take_at ws vs (length ws) refl, two);
      left = rw e (drop_at ws vs (length ws) refl);
      shown = refl;
    }

pub spells-front : {t : Token} {us vs : List ℕ} → Spells t us vs → Front t us vs
unfolding step_at step_by first_in first_rows marked general_word half_day_word exponent_word starts_with units run_allowed every colour_in place_step over_step is_empty token_items
spells-front {us = us} {vs = vs} (NFPartYear-2 r) = run-front letter_y _ us vs (omega arith) refl r
spells-front {us = us} {vs = vs} (NFPartYear-4 r) = run-front letter_y _ us vs (omega arith) refl r
spells-front {us = us} {vs = vs} (NFPartMonth {n = n} h k r) = run-front letter_m n us vs h (rw (le-leb 1 n h, le-leb n 5 k)) r
spells-front {us = us} {vs = vs} (NFPartDay {n = n} h k r) = run-front letter_d n us vs h (rw (le-leb 1 n h, le-leb n 4 k)) r
spells-front {us = us} {vs = vs} (NFPartHour {n = n} h k r) = run-front letter_h n us vs h (rw (le-leb 1 n h, le-leb n 2 k)) r
spells-front {us = us} {vs = vs} (NFPartAbsHour {n = n} h b) = elapsed-front hours n us vs h b
spells-front {us = us} {vs = vs} (NFPartMinute {n = n} h k r) = run-front letter_m n us vs h (rw (le-leb 1 n h, le-leb n 5 (omega arith))) r
spells-front {us = us} {vs = vs} (NFPartAbsMinute {n = n} h b) = elapsed-front minutes n us vs h b
spells-front {us = us} {vs = vs} (NFPartSecond {n = n} h k r) = run-front letter_s n us vs h (rw (le-leb 1 n h, le-leb n 2 k)) r
spells-front {us = us} {vs = vs} (NFPartAbsSecond {n = n} h b) = elapsed-front seconds n us vs h b
spells-front {us = us} {vs = vs} (NFPartCond {os = os} {ns = ns} o d b) =
    bracket-front _ (os ++ ns) us vs (open-append os ns (oper-open o) (cond-open d)) (condition-inside o d) refl b
spells-front {us = us} {vs = vs} (NFPartColor-name {n = n} {ws = ws} d b) =
    let (i, o, h) = named n ws d in bracket-front (colour n) ws us vs (open-from ws o) i h b
spells-front {us = us} {vs = vs} (NFPartColor-number {n = n} {ws = ws} d b) =
    bracket-front (colour n) (units "Color" ++ ws) us vs
    (open-append (units "Color") ws (open-from (units "Color") tt) (number-open n ws d)) (number-inside n ws d) (number-shown n ws d) b
spells-front (NFPartExponential sign-plus e) = record { more = 1; step = rw e; left = rw e; shown = refl }
spells-front (NFPartExponential sign-minus e) = record { more = 1; step = rw e; left = rw e; shown = refl }
spells-front {vs = vs} (NFPartNumToken1-alone {p = p} k n) = record { more = 0; step = rw (place-first k) (alone-step p vs n); left = refl; shown = refl }
spells-front (ASCII-SOLIDUS-place k q) = record { more = 1; step = rw (place-first k, place-unit q); left = refl; shown = refl }
spells-front {us = us} {vs = vs} (ASCII-SOLIDUS-number k d (int-num v ws a) n e) = fixed-front v ws us vs k d a n e
spells-front ASCII-PERCENT-SIGN = record { more = 0; step = refl; left = refl; shown = refl }
spells-front ASCII-COMMERCIAL-AT = record { more = 0; step = refl; left = refl; shown = refl }
spells-front ASCII-SEMICOLON = record { more = 0; step = refl; left = refl; shown = refl }
spells-front LITERAL-CHAR = record { more = 1; step = refl; left = refl; shown = refl }
spells-front LITERAL-CHAR-REPEAT = record { more = 1; step = refl; left = refl; shown = refl }
spells-front {us = us} {vs = vs} (LITERAL-STRING {u = u} {ws = ws} a e) = string-front u ws us vs a e
spells-front LITERAL-CHAR-SPACE = record { more = 1; step = refl; left = refl; shown = refl }
spells-front INTL-CHAR-DECIMAL-SEP = record { more = 0; step = refl; left = refl; shown = refl }
spells-front INTL-CHAR-NUMGRP-SEP = record { more = 0; step = refl; left = refl; shown = refl }
spells-front {vs = vs} (bare-literal b) = record { more = 0; step = bare_step vs b; left = refl; shown = refl }
spells-front (INTL-NUMFMT-GENERAL e) = record { more = 6; step = rw e; left = rw e; shown = refl }
spells-front (INTL-AMPM-long e) = record { more = 4; step = rw e; left = rw e; shown = refl }
spells-front (INTL-AMPM-short e) = record { more = 2; step = rw e; left = rw e; shown = refl }
