-- Level 1, from lexing to the grammar: the token that lexing reads at a unit is spelled by the units from there on.
-- Assumes nothing.
use Prim.Native.Nat.{ℕ, suc, ◌+◌, ◌-◌, ◌*◌, ◌≤◌, ◌<◌}
use native.Mathlib.Omega.{arith}
use mathlib.Core.Path.{◌≡◌, refl, sym, ap, subst, ◌∙◌}
use mathlib.Core.Bool.{Bool, true, false, not, ◌&&◌, ◌||◌, true≢false}
use mathlib.Core.List.{List, [], ◌∷◌, ◌++◌, map, append-nil}
use mathlib.Core.Logic.{◌≢◌}
use mathlib.Core.Option.{Option, none, some}
use Prim.Native.String.{String}
use lib.ListN.{length, take, drop, replicate, take-append-drop, drop_of_length-le}
use lib.Seq.{length-take-le}
use lib.Dec.{leb, eqb}
use borrow.Author.Tests.{eqb-true, eqb-false, leb-true, leb-false, not-true}
use Rattle.lists.specs.Lists.{every, any, is_empty, All}
use Rattle.lists.proofs.Bools.{no, and_parts, by_cases, cond-case, or-false}
use Rattle.calendar.specs.Names.{units}
use Rattle.formats.proofs.Lexing.{number-grows, before-most, leading-most}
use Rattle.grammar.proofs.Fronts.{letter_unit, condition_token, digit-fact, digit-true, place-unit, unit-place, later-digit}
use Rattle.formats.specs.Tokens.{Token, literal, blank, fill, run, elapsed, colour, place, Place, Letter, letter_y, letter_m, letter_d, letter_h, letter_s, Elapsed, hours, minutes, seconds, Comparison, equal, less, greater, at_most, at_least, unequal, Step, read, broken, before, leading, starts_with, same, quoted, marked, general_word, half_day_word, exponent_word, run_allowed, run_step, is_digit, digit_of, number_from, is_place_unit, over_step, place_step, colour_names, named_from, no_leading_zero, colour_digits, numbered, elapsed_inside, decimals_of, whole_of, signed_of, condition_inside, first_form, inside_of, closed, bracketed, First, FirstRow, other, first_rows, first_in, bare_literals, step_by, step_at}
use Rattle.grammar.specs.Units.{Ended, WholeRun, Bracketed, ASCII-DIGIT, NFPartCompOper, oper-less, oper-at-most, oper-unequal, oper-equal, oper-greater, oper-at-least, NFPartIntNum, int-num, NFPartCondNum, cond-num-whole, cond-num-point, cond-num-minus, NFPartNumber1To6, NFPartNumber1To9, NFPart1To56, one-digit, two_digits, fifty, fifties, INTL-COLOR, black, blue, cyan, green, magenta, red, white, yellow, sign-plus, sign-minus, NFPartNumToken1, number-sign, question-mark, digit-zero, Below, place-below, digit-below, NoDigit, Spells, NFPartYear-2, NFPartYear-4, NFPartMonth, NFPartDay, NFPartHour, NFPartAbsHour, NFPartAbsMinute, NFPartSecond, NFPartAbsSecond, NFPartCond, NFPartColor-name, NFPartColor-number, NFPartExponential, NFPartNumToken1-alone, ASCII-SOLIDUS-place, ASCII-SOLIDUS-number, ASCII-PERCENT-SIGN, ASCII-COMMERCIAL-AT, ASCII-SEMICOLON, LITERAL-CHAR, LITERAL-CHAR-REPEAT, LITERAL-STRING, LITERAL-CHAR-SPACE, INTL-CHAR-DECIMAL-SEP, INTL-CHAR-NUMGRP-SEP, bare-literal, INTL-NUMFMT-GENERAL, INTL-AMPM-long, INTL-AMPM-short}

-- ---- facts from tests

-- an equation of lists from the test that compares them
starts-with : (ws us : List ℕ) → starts_with ws us ≡ true → us ≡ ws ++ drop (length ws) us
unfolding starts_with
starts-with [] us e = refl
starts-with (w ∷ ws) [] e = no e
starts-with (w ∷ ws) (u ∷ us) e =
    by_cases (eqb w u)
    (λ h. let r : us ≡ ws ++ drop (length ws) us = starts-with ws us (rw h at e) in rw (eqb-true w u h) (ap (◌∷◌ u) r))
    (λ h. no (rw h at e))

same-eq : (ws us : List ℕ) → same ws us ≡ true → ws ≡ us
unfolding same
same-eq ws us e =
    let (l, s) = and_parts (eqb (length ws) (length us)) (starts_with ws us) e in
    let n = eqb-true (length ws) (length us) l in
    let d : drop (length ws) us ≡ [] = drop_of_length-le us {i = length ws} (omega arith) in
    sym (starts-with ws us s ∙ (rw d (append-nil ws)))

-- the units before the first q, and what follows
before-none : (q : ℕ) (us : List ℕ) → All (λ (w : ℕ). w ≢ q) (take (before q us) us)
unfolding before
before-none q [] = tt
before-none q (v ∷ vs) =
    cond-case (λ (n : ℕ). All (λ (w : ℕ). w ≢ q) (take n (v ∷ vs))) (eqb v q) (λ e. tt) (λ e. (eqb-false v q e, before-none q vs))

before_stands : (q : ℕ) (us : List ℕ) → before q us ≢ length us → us ≡ take (before q us) us ++ q ∷ drop (suc (before q us)) us
unfolding before
before_stands q [] h = absurd (h refl)
before_stands q (v ∷ vs) h =
    by_cases (eqb v q)
    (λ e. rw e (ap (λ (w : ℕ). w ∷ vs) (eqb-true v q e)))
    (λ e. rw e (ap (◌∷◌ v) (before_stands q vs (λ (k : before q vs ≡ length vs). h (rw e (ap suc k))))))

-- ---- what a step reads

abbrev Good : ℕ → List ℕ → Step → Type 0
Good u us (read t more) = Spells t (u ∷ us) (drop more us)
Good u us broken = Unit {0}

string-good : (ws us vs : List ℕ) → 0 < length ws → All (λ (w : ℕ). w ≢ 34) ws → us ≡ ws ++ 34 ∷ vs → Spells (literal ws) (34 ∷ us) vs
string-good [] us vs h a e = absurd (omega arith)
string-good (w ∷ ws) us vs h a e = LITERAL-STRING a (ap (◌∷◌ 34) e)

some-taken : (n : ℕ) (us : List ℕ) → n ≤ length us → n ≢ 0 → 0 < length (take n us)
some-taken n us h z = rw (length-take-le n us h) (omega arith)

quoted-good : (us : List ℕ) → Good 34 us (quoted us)
unfolding quoted
quoted-good us =
    cond-case (Good 34 us) (eqb (before 34 us) 0 || eqb (before 34 us) (length us)) (λ e. tt)
    (λ e.
    let (a, b) = or-false (eqb (before 34 us) 0) (eqb (before 34 us) (length us)) e in
    string-good (take (before 34 us) us) us (drop (suc (before 34 us)) us) (some-taken (before 34 us) us (before-most 34 us) (eqb-false (before 34 us) 0 a)) (before-none 34 us)
    (before_stands 34 us (eqb-false (before 34 us) (length us) b)))

general-good : (us : List ℕ) → Good 71 us (general_word (71 ∷ us))
unfolding general_word units
general-good us =
    cond-case (Good 71 us) (starts_with (units "General") (71 ∷ us)) (λ e. INTL-NUMFMT-GENERAL (starts-with (units "General") (71 ∷ us) e)) (λ e. tt)

half-good : (us : List ℕ) → Good 65 us (half_day_word (65 ∷ us))
unfolding half_day_word units
half-good us =
    cond-case (Good 65 us) (starts_with (units "AM/PM") (65 ∷ us)) (λ e. INTL-AMPM-long (starts-with (units "AM/PM") (65 ∷ us) e))
    (λ e. cond-case (Good 65 us) (starts_with (units "A/P") (65 ∷ us)) (λ e. INTL-AMPM-short (starts-with (units "A/P") (65 ∷ us) e)) (λ e. tt))

exponent-good : (us : List ℕ) → Good 69 us (exponent_word (69 ∷ us))
unfolding exponent_word units
exponent-good us =
    cond-case (Good 69 us) (starts_with (units "E+") (69 ∷ us)) (λ e. NFPartExponential sign-plus (starts-with (units "E+") (69 ∷ us) e))
    (λ e. cond-case (Good 69 us) (starts_with (units "E-") (69 ∷ us)) (λ e. NFPartExponential sign-minus (starts-with (units "E-") (69 ∷ us) e)) (λ e. tt))

-- ---- runs

leading-same : (u : ℕ) (us : List ℕ) → us ≡ replicate (leading (eqb u) us) u ++ drop (leading (eqb u) us) us
unfolding leading
leading-same u [] = refl
leading-same u (v ∷ vs) =
    by_cases (eqb u v)
    (λ e. let r : vs ≡ replicate (leading (eqb u) vs) u ++ drop (leading (eqb u) vs) vs = leading-same u vs in
    rw e (ap (λ (w : ℕ). w ∷ vs) (sym (eqb-true u v e)) ∙ ap (◌∷◌ u) r))
    (λ e. rw e)

leading-ends : (u : ℕ) (us : List ℕ) → Ended u (drop (leading (eqb u) us) us)
unfolding leading
leading-ends u [] = tt
leading-ends u (v ∷ vs) =
    by_cases (eqb u v) (λ e. rw e (leading-ends u vs)) (λ e. rw e (λ (k : v ≡ u). eqb-false u v e (sym k)))

whole_run : (u : ℕ) (us : List ℕ) → WholeRun u (suc (leading (eqb u) us)) (u ∷ us) (drop (leading (eqb u) us) us)
whole_run u us = record { stands = ap (◌∷◌ u) (leading-same u us); ends = leading-ends u us }

bounds : (n k : ℕ) → (leb 1 n && leb n k) ≡ true → (1 ≤ n) × (n ≤ k)
bounds n k a = let (l, m) = and_parts (leb 1 n) (leb n k) a in (leb-true 1 n l, leb-true n k m)

run-spelled : (l : Letter) (n : ℕ) (us vs : List ℕ) → run_allowed l n ≡ true → WholeRun (letter_unit l) n us vs → Spells (run l n) us vs
unfolding run_allowed
run-spelled letter_y n us vs a r =
    by_cases (eqb n 2)
    (λ e. let two : 2 ≡ n = sym (eqb-true n 2 e) in subst (λ (k : ℕ). Spells (run letter_y k) us vs) two (NFPartYear-2 (rw (← two) at r)))
    (λ e. let four : 4 ≡ n = sym (eqb-true n 4 (rw e at a)) in subst (λ (k : ℕ). Spells (run letter_y k) us vs) four (NFPartYear-4 (rw (← four) at r)))
run-spelled letter_m n us vs a r = let (h, k) = bounds n 5 a in NFPartMonth h k r
run-spelled letter_d n us vs a r = let (h, k) = bounds n 4 a in NFPartDay h k r
run-spelled letter_h n us vs a r = let (h, k) = bounds n 2 a in NFPartHour h k r
run-spelled letter_s n us vs a r = let (h, k) = bounds n 2 a in NFPartSecond h k r

run-good : (l : Letter) (us : List ℕ) → Good (letter_unit l) us (run_step l (letter_unit l) us)
unfolding run_step
run-good l us =
    let u = letter_unit l in
    let n = leading (eqb u) us in
    cond-case (Good u us) (run_allowed l (suc n)) (λ e. run-spelled l (suc n) (u ∷ us) (drop n us) e (whole_run u us)) (λ e. tt)

-- ---- brackets

-- what a bracket's inside stands for is spelled by it in brackets
abbrev Inside : List ℕ → Option Token → Type 0
Inside ws none = Unit {0}
Inside ws (some t) = (us vs : List ℕ) → Bracketed ws us vs → Spells t us vs

first-inside : (ws : List ℕ) (a b : Option Token) → Inside ws a → Inside ws b → Inside ws (first_form a b)
unfolding first_form
first-inside ws none b f g = g
first-inside ws (some t) b f g = f

name-inside : (n : ℕ) (name : String) (ws : List ℕ) → INTL-COLOR n (units name) → same (units name) ws ≡ true → Inside ws (some (colour n))
name-inside n name ws c e us vs b = NFPartColor-name (subst (INTL-COLOR n) (same-eq (units name) ws e) c) b

named-inside : (ws : List ℕ) → Inside ws (named_from 1 colour_names ws)
unfolding named_from colour_names
named-inside ws =
    cond-case (Inside ws) (same (units "Black") ws) (name-inside 1 "Black" ws black) (λ e.
    cond-case (Inside ws) (same (units "White") ws) (name-inside 2 "White" ws white) (λ e.
    cond-case (Inside ws) (same (units "Red") ws) (name-inside 3 "Red" ws red) (λ e.
    cond-case (Inside ws) (same (units "Green") ws) (name-inside 4 "Green" ws green) (λ e.
    cond-case (Inside ws) (same (units "Blue") ws) (name-inside 5 "Blue" ws blue) (λ e.
    cond-case (Inside ws) (same (units "Yellow") ws) (name-inside 6 "Yellow" ws yellow) (λ e.
    cond-case (Inside ws) (same (units "Magenta") ws) (name-inside 7 "Magenta" ws magenta) (λ e.
    cond-case (Inside ws) (same (units "Cyan") ws) (name-inside 8 "Cyan" ws cyan) (λ e. tt))))))))

digit-facts : (ws : List ℕ) → every is_digit ws ≡ true → All ASCII-DIGIT ws
unfolding every
digit-facts [] e = tt
digit-facts (w ∷ ws) e =
    by_cases (is_digit w)
    (λ h. (digit-fact w h, digit-facts ws (rw h at e)))
    (λ h. no (rw h at e))

two_good : (u v : ℕ) → NFPartNumber1To9 u → ASCII-DIGIT v → 10 * digit_of u + digit_of v ≤ 56 → NFPart1To56 (10 * digit_of u + digit_of v) (u ∷ v ∷ [])
unfolding digit_of
two_good u v a b h =
    let a₁ = a.0 in let a₂ = a.1 in let b₁ = b.0 in let b₂ = b.1 in
    by_cases (leb u 52)
    (λ e. let k = leb-true u 52 e in two_digits u v (a₁, k) b)
    (λ e.
    let k = leb-false u 52 e in
    let five : 53 ≡ u = omega arith in
    by_cases (eqb v 48)
    (λ f.
    let zero-last : 48 ≡ v = sym (eqb-true v 48 f) in
    rw (← five, ← zero-last) fifty)
    (λ f.
    let some-last = eqb-false v 48 f in
    let range : NFPartNumber1To6 v = (omega arith, omega arith) in
    rw (← five) (fifties v range)))

digits-good : (ws : List ℕ) → no_leading_zero ws ≡ true → All ASCII-DIGIT ws → number_from 0 (map digit_of ws) ≤ 56 → NFPart1To56 (number_from 0 (map digit_of ws)) ws
unfolding no_leading_zero number_from digit_of
digits-good [] z a h = no z
digits-good (u ∷ []) z a h =
    let some-first = eqb-false u 48 (not-true (eqb u 48) z) in
    let least = a.0.0 in
    let e : 10 * 0 + (u - 48) ≡ u - 48 = omega arith in
    rw e (one-digit u (omega arith, a.0.1))
digits-good (u ∷ v ∷ []) z a h =
    let some-first = eqb-false u 48 (not-true (eqb u 48) z) in
    let least = a.0.0 in
    let e : 10 * (10 * 0 + (u - 48)) + (v - 48) ≡ 10 * (u - 48) + (v - 48) = omega arith in
    rw e (two_good u v (omega arith, a.0.1) a.1.0 (omega arith))
digits-good (u ∷ v ∷ w ∷ ws) z a h =
    let some-first = eqb-false u 48 (not-true (eqb u 48) z) in
    let least = a.0.0 in
    absurd (omega (arith, number-grows (10 * (10 * (10 * 0 + (u - 48)) + (v - 48)) + (w - 48)) (map digit_of ws)))

colour-good : (ws vs : List ℕ) → ws ≡ units "Color" ++ vs → Inside ws (colour_digits vs)
unfolding colour_digits
colour-good ws vs p =
    let n = number_from 0 (map digit_of vs) in
    cond-case (Inside ws) (no_leading_zero vs && every is_digit vs && leb n 56)
    (λ e.
    let (zd, l) = and_parts (no_leading_zero vs && every is_digit vs) (leb n 56) e in
    let (z, d) = and_parts (no_leading_zero vs) (every is_digit vs) zd in
    λ us rest b. NFPartColor-number (digits-good vs z (digit-facts vs d) (leb-true n 56 l)) (rw p at b))
    (λ e. tt)

numbered-inside : (ws : List ℕ) → Inside ws (numbered ws)
unfolding numbered units
numbered-inside ws =
    cond-case (Inside ws) (starts_with (units "Color") ws) (λ e. colour-good ws (drop 5 ws) (starts-with (units "Color") ws e)) (λ e. tt)

-- ---- elapsed runs

all_alike : (u : ℕ) (ws : List ℕ) → every (eqb u) ws ≡ true → replicate (length ws) u ≡ ws
unfolding every
all_alike u [] e = refl
all_alike u (w ∷ ws) e =
    by_cases (eqb u w)
    (λ h. let r : replicate (length ws) u ≡ ws = all_alike u ws (rw h at e) in ap (◌∷◌ u) r ∙ ap (λ (v : ℕ). v ∷ ws) (eqb-true u w h))
    (λ h. no (rw h at e))

some-units : (ws : List ℕ) → not (is_empty ws) ≡ true → 1 ≤ length ws
unfolding is_empty
some-units [] e = no e
some-units (w ∷ ws) e = omega arith

elapsed-good : (u : ℕ) (x : Elapsed) → ((n : ℕ) (us vs : List ℕ) → 1 ≤ n → Bracketed (replicate n u) us vs → Spells (elapsed x n) us vs)
    → (ws : List ℕ) → Inside ws (elapsed_inside u x ws)
unfolding elapsed_inside
elapsed-good u x f ws =
    cond-case (Inside ws) (not (is_empty ws) && every (eqb u) ws)
    (λ e.
    let (some_one, alike) = and_parts (not (is_empty ws)) (every (eqb u) ws) e in
    λ us vs b. f (length ws) us vs (some-units ws some_one) (rw (all_alike u ws alike) b))
    (λ e. tt)

-- ---- conditions

-- a condition with the number ns, its sign apart
abbrev Number : Comparison → Bool → List ℕ → Option Token → Type 0
Number c negative ns none = Unit {0}
Number c negative ns (some t) = (ws : List ℕ) × (ds : List ℕ) × NFPartCondNum false ws ds ns × (t ≡ condition_token c negative ws ds)

int-good : (ws : List ℕ) → 0 < length ws → All ASCII-DIGIT ws → NFPartIntNum ws
int-good [] h a = absurd (omega arith)
int-good (w ∷ ws) h a = int-num w ws a

decimals-good : (c : Comparison) (negative : Bool) (ws vs : List ℕ) → NFPartIntNum ws → Number c negative (ws ++ vs) (decimals_of c negative ws vs)
unfolding decimals_of
decimals-good c negative ws [] d = (ws, [], rw (append-nil ws) (cond-num-whole d), refl)
decimals-good c negative ws (u ∷ us) d =
    cond-case (Number c negative (ws ++ u ∷ us)) (eqb u 46 && not (is_empty us) && every is_digit us)
    (λ e.
    let (ps, q) = and_parts (eqb u 46 && not (is_empty us)) (every is_digit us) e in
    let (p, s) = and_parts (eqb u 46) (not (is_empty us)) ps in
    (ws, us, cond-num-point (ws ++ u ∷ us) d (int-good us (some-units us s) (digit-facts us q)) (ap (λ (v : ℕ). ws ++ v ∷ us) (eqb-true u 46 p)), refl))
    (λ e. tt)

leading-digits : (us : List ℕ) → All ASCII-DIGIT (take (leading is_digit us) us)
unfolding leading
leading-digits [] = tt
leading-digits (v ∷ vs) =
    cond-case (λ (n : ℕ). All ASCII-DIGIT (take n (v ∷ vs))) (is_digit v) (λ e. (digit-fact v e, leading-digits vs)) (λ e. tt)

whole-good : (c : Comparison) (negative : Bool) (ns : List ℕ) → Number c negative ns (whole_of c negative ns)
unfolding whole_of
whole-good c negative ns =
    let n = leading is_digit ns in
    cond-case (Number c negative ns) (eqb n 0) (λ e. tt)
    (λ e.
    let d : NFPartIntNum (take n ns) = int-good (take n ns) (some-taken n ns (leading-most is_digit ns) (eqb-false n 0 e)) (leading-digits ns) in
    rw (take-append-drop n ns) at (decimals-good c negative (take n ns) (drop n ns) d))

-- a condition with its operator os and its number ns, which is ms with its sign
signed-from : (c : Comparison) (os ms ns bs : List ℕ) (negative : Bool) (o : Option Token) → NFPartCompOper c os → bs ≡ os ++ ns
    → ((ws ds : List ℕ) → NFPartCondNum false ws ds ms → NFPartCondNum negative ws ds ns)
    → Number c negative ms o → Inside bs o
signed-from c os ms ns bs negative none p e f n = tt
signed-from c os ms ns bs negative (some t) p e f n =
    λ us vs b. subst (λ (x : Token). Spells x us vs) (sym n.3) (NFPartCond p (f n.0 n.1 n.2) (rw e at b))

signed-good : (c : Comparison) (os ns bs : List ℕ) → NFPartCompOper c os → bs ≡ os ++ ns → Inside bs (signed_of c ns)
unfolding signed_of units
signed-good c os ns bs p e =
    cond-case (Inside bs) (starts_with (units "-") ns)
    (λ h.
    let minus : ns ≡ 45 ∷ drop 1 ns = starts-with (units "-") ns h in
    signed-from c os (drop 1 ns) ns bs true (whole_of c true (drop 1 ns)) p e
    (λ ws ds d. rw minus (cond-num-minus d)) (whole-good c true (drop 1 ns)))
    (λ h. signed-from c os ns ns bs false (whole_of c false ns) p e (λ ws ds d. d) (whole-good c false ns))

condition-good : (ws : List ℕ) → Inside ws (condition_inside ws)
unfolding condition_inside units
condition-good ws =
    cond-case (Inside ws) (starts_with (units "<=") ws) (λ e. signed-good at_most _ _ ws oper-at-most (starts-with (units "<=") ws e)) (λ e.
    cond-case (Inside ws) (starts_with (units ">=") ws) (λ e. signed-good at_least _ _ ws oper-at-least (starts-with (units ">=") ws e)) (λ e.
    cond-case (Inside ws) (starts_with (units "<>") ws) (λ e. signed-good unequal _ _ ws oper-unequal (starts-with (units "<>") ws e)) (λ e.
    cond-case (Inside ws) (starts_with (units "=") ws) (λ e. signed-good equal _ _ ws oper-equal (starts-with (units "=") ws e)) (λ e.
    cond-case (Inside ws) (starts_with (units "<") ws) (λ e. signed-good less _ _ ws oper-less (starts-with (units "<") ws e)) (λ e.
    cond-case (Inside ws) (starts_with (units ">") ws) (λ e. signed-good greater _ _ ws oper-greater (starts-with (units ">") ws e)) (λ e. tt))))))

inside-good : (ws : List ℕ) → Inside ws (inside_of ws)
unfolding inside_of
inside-good ws =
    first-inside ws _ _ (named-inside ws)
    (first-inside ws _ _ (numbered-inside ws)
    (first-inside ws _ _ (elapsed-good 104 hours (λ n us vs h b. NFPartAbsHour h b) ws)
    (first-inside ws _ _ (elapsed-good 109 minutes (λ n us vs h b. NFPartAbsMinute h b) ws)
    (first-inside ws _ _ (elapsed-good 115 seconds (λ n us vs h b. NFPartAbsSecond h b) ws) (condition-good ws)))))

closed-good : (ws us : List ℕ) (n : ℕ) (o : Option Token) → us ≡ ws ++ 93 ∷ drop (suc n) us → Inside ws o → Good 91 us (closed n o)
unfolding closed
closed-good ws us n none e i = tt
closed-good ws us n (some t) e i = i (91 ∷ us) (drop (suc n) us) (ap (◌∷◌ 91) e)

bracketed-good : (us : List ℕ) → Good 91 us (bracketed us)
unfolding bracketed
bracketed-good us =
    let n = before 93 us in
    cond-case (Good 91 us) (eqb n (length us)) (λ e. tt)
    (λ e. closed-good (take n us) us n (inside_of (take n us)) (before_stands 93 us (eqb-false n (length us) e)) (inside-good (take n us)))

-- ---- places, and what is directly behind them

-- a solidus with this behind it is not a fraction's
not-below : (v : ℕ) → is_place_unit v ≡ false → is_digit v ≡ false → Below v → ⊥
not-below v e d (place-below k) = true≢false (sym (place-unit k) ∙ e)
not-below v e d (digit-below k) = true≢false (sym (digit-true v (omega (arith, k.0), k.1)) ∙ d)

leading-done : (us : List ℕ) → NoDigit (drop (leading is_digit us) us)
unfolding leading
leading-done [] = tt
leading-done (u ∷ us) = by_cases (is_digit u) (λ h. rw h (leading-done us)) (λ h. rw h (λ d. true≢false (sym (digit-true u d) ∙ h)))

over-good : {p : Place} {u : ℕ} → NFPartNumToken1 p u → (us : List ℕ) → Good u (47 ∷ us) (over_step p us)
unfolding over_step
over-good k [] = NFPartNumToken1-alone k tt
over-good {p} {u} k (v ∷ vs) =
    let n = leading is_digit vs in
    cond-case (Good u (47 ∷ v ∷ vs)) (is_place_unit v) (λ e. ASCII-SOLIDUS-place k (unit-place v e).1) (λ e.
    cond-case (Good u (47 ∷ v ∷ vs)) (is_digit v)
    (λ d.
    let two : 2 + n ≡ suc (suc n) = omega arith in
    rw two
    (ASCII-SOLIDUS-number k (later-digit v e d) (int-num v (take n vs) (digit-fact v d, leading-digits vs)) (leading-done vs)
    (ap (λ (ws : List ℕ). u ∷ 47 ∷ v ∷ ws) (sym (take-append-drop n vs)))))
    (λ d. NFPartNumToken1-alone {us = 47 ∷ v ∷ vs} k (λ s. not-below v e d)))

other-good : {p : Place} {u : ℕ} → NFPartNumToken1 p u → (w : ℕ) (us : List ℕ) → eqb w 47 ≡ false → Spells (place p) (u ∷ w ∷ us) (w ∷ us)
other-good k w [] e = NFPartNumToken1-alone k tt
other-good k w (v ∷ vs) e = NFPartNumToken1-alone {us = w ∷ v ∷ vs} k (λ s. absurd (eqb-false w 47 e s))

place-good : {p : Place} {u : ℕ} → NFPartNumToken1 p u → (us : List ℕ) → Good u us (place_step p us)
unfolding place_step
place-good k [] = NFPartNumToken1-alone k tt
place-good {p} {u} k (w ∷ us) =
    cond-case (Good u (w ∷ us)) (eqb w 47) (λ e. rw (eqb-true w 47 e) (over-good k us)) (other-good k w us)

-- ---- the table of first units

first-case : (P : ℕ → First → Type 0) (rs : List FirstRow) (u : ℕ) → All (λ (r : FirstRow). P r.unit r.first) rs → P u other → P u (first_in rs u)
unfolding first_in
first-case P [] u a o = o
first-case P (r ∷ rs) u a o =
    cond-case (P u) (eqb r.unit u) (λ e. rw (eqb-true r.unit u e) at a.0) (λ e. first-case P rs u a.1 o)

abbrev FirstGood : ℕ → First → Type 0
FirstGood u f = (us : List ℕ) → Good u us (step_by f u us)

bare-good : (u : ℕ) → FirstGood u other
unfolding step_by bare_literals
bare-good u us = cond-case (Good u us) (any (eqb u) bare_literals) (λ e. bare-literal e) (λ e. tt)

-- a mark and the unit behind it
marked-good : (u : ℕ) (f : ℕ → Token) → ((v : ℕ) (us : List ℕ) → Spells (f v) (u ∷ v ∷ us) us) → (us : List ℕ) → Good u us (marked f us)
unfolding marked
marked-good u f g [] = tt
marked-good u f g (v ∷ us) = g v us

abbrev RowGood : FirstRow → Type 0
RowGood r = FirstGood r.unit r.first

-- the rows of the table, from the last ones on
signs-good : All RowGood (drop 17 first_rows)
unfolding first_rows step_by
signs-good = ((λ us. INTL-CHAR-NUMGRP-SEP), ((λ us. ASCII-PERCENT-SIGN), ((λ us. ASCII-COMMERCIAL-AT), ((λ us. ASCII-SEMICOLON), tt))))

places-good : All RowGood (drop 13 first_rows)
unfolding first_rows step_by
places-good =
    (place-good digit-zero, (place-good number-sign, (place-good question-mark, ((λ us. INTL-CHAR-DECIMAL-SEP), signs-good))))

words-good : All RowGood (drop 4 first_rows)
unfolding first_rows step_by
words-good =
    (bracketed-good, (general-good, (half-good, (exponent-good, (run-good letter_y, (run-good letter_m, (run-good letter_d, (run-good letter_h, (run-good letter_s, places-good)))))))))

marks-good : All RowGood (drop 1 first_rows)
unfolding first_rows step_by
marks-good =
    (marked-good 92 _ (λ v us. LITERAL-CHAR), (marked-good 95 blank (λ v us. LITERAL-CHAR-SPACE), (marked-good 42 fill (λ v us. LITERAL-CHAR-REPEAT), words-good)))

step-good : (u : ℕ) (us : List ℕ) → Good u us (step_at u us)
unfolding step_at first_rows step_by
step-good u us = first-case FirstGood first_rows u (quoted-good, marks-good) (bare-good u) us

pub step-spells : (u : ℕ) (us : List ℕ) (t : Token) (more : ℕ) → step_at u us ≡ read t more → Spells t (u ∷ us) (drop more us)
step-spells u us t more e = subst (Good u us) e (step-good u us)
