-- How many items and sections a code makes: at most an item for each unit, and a section for each semicolon and one more.
-- Assumes nothing.
use Prim.Native.Nat.{ℕ, zero, suc, ◌+◌, ◌-◌, ◌≤◌}
use native.Mathlib.Omega.{arith}
use mathlib.Core.Path.{◌≡◌, refl, sym, ◌∙◌, ap}
use mathlib.Core.Bool.{Bool, true, false, ◌&&◌, ◌||◌}
use mathlib.Core.List.{List, [], ◌∷◌, map}
use lib.ListN.{length, take, length-append, length-take, length-map}
use lib.Dec.{T, leb, eqb, leb→le}
use Rattle.lists.specs.Lists.{every, any, count}
use Rattle.lists.proofs.Bools.{by_cases, cond_both, cond-case}
use Rattle.calendar.specs.Names.{units}
use Rattle.formats.specs.Tokens as token
use Rattle.formats.specs.Tokens.{Letter, Token, Step, read, broken, before, leading, starts_with, quoted, marked, general_word, half_day_word, run_allowed, run_step, inside_of, bracketed, First, quote, backslash, underscore, asterisk, open_bracket, capital_g, capital_a, other, letter, single, FirstRow, first_rows, first_in, bare_literals, step_by, step_at, Placed, Lexed, good, bad, onto, after_step, lex_from, lex, exponent_word, capital_e, place_unit}
use Rattle.formats.specs.Items.{Item, Run, no_run, run_of, nearer, settled_from, settled, is_fill, same_kind, date_kind}
use Rattle.formats.specs.Kinds.{is_semicolon, is_colour, is_condition, Parts, colour_in, after_colour, parts_of, body_kind, Piece, is_seconds_token, part_zeros, pieces_from, token_items, piece_items, plain_items, date_items, body_items, last_fill, section_of}
use Rattle.formats.specs.Accept.{placed_of, tokens_of, semicolons, joined, split, parts_in, sections_in}
use Rattle.formats.specs.WellFormed.{items_in_all}
use Rattle.formats.proofs.FormedPieces.{point-case, zeros-point}
use Rattle.formats.proofs.TokenRanges.{InStep, place-form, closed-step, inside-form, first_passes, single_passes}
use Rattle.formats.proofs.Each.{by_token}

-- how many items a token makes of a date: elsewhere it makes no more, and it has at least as many units
unfoldable pub weight : Token → ℕ
weight t = length (token_items true t)

unfoldable pub weights : List Token → ℕ
weights [] = 0
weights (t ∷ ts) = weight t + weights ts

unfoldable pub section_weights : List (List Token) → ℕ
section_weights [] = 0
section_weights (s ∷ ss) = weights s + section_weights ss

-- a step's token weighs no more than the units that it takes of u ∷ us
abbrev Light : List ℕ → Token → ℕ → Type 0
Light us t more = weight t + (length us - more) ≤ suc (length us)

light-one : (us : List ℕ) (t : Token) (more : ℕ) → weight t ≤ 1 → Light us t more
light-one us t more h = omega arith

quoted-light : (us : List ℕ) → InStep (Light us) (quoted us)
unfolding quoted weight token_items
quoted-light us =
    cond_both (InStep (Light us)) (eqb (before 34 us) 0 || eqb (before 34 us) (length us)) tt
    (omega (arith, length-map (take (before 34 us) us) Item.literal, length-take (before 34 us) us))

marked-light : (f : ℕ → Token) (us : List ℕ) → ((u : ℕ) → weight (f u) ≤ 1) → InStep (Light us) (marked f us)
unfolding marked
marked-light f [] h = tt
marked-light f (u ∷ us) h = light-one (u ∷ us) (f u) 1 (h u)

general-light : (us vs : List ℕ) → InStep (Light us) (general_word vs)
unfolding general_word weight token_items
general-light us vs = cond_both (InStep (Light us)) (starts_with (units "General") vs) (omega arith) tt

half-light : (us vs : List ℕ) → InStep (Light us) (half_day_word vs)
unfolding half_day_word weight token_items
half-light us vs =
    cond_both (InStep (Light us)) (starts_with (units "AM/PM") vs) (omega arith)
    (cond_both (InStep (Light us)) (starts_with (units "A/P") vs) (omega arith) tt)

exponent-light : (us vs : List ℕ) → InStep (Light us) (exponent_word vs)
unfolding exponent_word weight token_items
exponent-light us vs =
    cond_both (InStep (Light us)) (starts_with (units "E+") vs) (omega arith)
    (cond_both (InStep (Light us)) (starts_with (units "E-") vs) (omega arith) tt)

run-light : (l : Letter) (u : ℕ) (us : List ℕ) → InStep (Light us) (run_step l u us)
unfolding run_step weight token_items
run-light l u us = cond_both (InStep (Light us)) (run_allowed l (suc (leading (eqb u) us))) (omega arith) tt

bracketed-light : (us : List ℕ) → InStep (Light us) (bracketed us)
unfolding bracketed weight token_items
bracketed-light us =
    cond_both (InStep (Light us)) (eqb (before 93 us) (length us)) tt
    (closed-step (Light us) (before 93 us) (inside_of (take (before 93 us) us))
    (inside-form (λ (t : Token). Light us t (suc (before 93 us)))
    (λ n h. omega arith) (λ e n h. omega arith) (λ w h. omega arith) (take (before 93 us) us)))

abbrev is_light : Token → Bool
is_light t = leb (weight t) 1

by-light : (f : First) (u : ℕ) (us : List ℕ) → T (single_passes is_light f) → InStep (Light us) (step_by f u us)
unfolding step_by single_passes weight token_items
by-light quote u us s = quoted-light us
by-light backslash u us s = marked-light (λ (v : ℕ). token.literal (v ∷ [])) us (λ v. omega arith)
by-light underscore u us s = marked-light token.blank us (λ v. omega arith)
by-light asterisk u us s = marked-light token.fill us (λ v. omega arith)
by-light open_bracket u us s = bracketed-light us
by-light capital_g u us s = general-light us (u ∷ us)
by-light capital_a u us s = half-light us (u ∷ us)
by-light capital_e u us s = exponent-light us (u ∷ us)
by-light (letter l) u us s = run-light l u us
by-light (place_unit p) u us s =
    place-form (Light us) p us (omega arith) (λ h. omega arith) (λ v vs h none some. omega arith)
by-light (single t) u us s = light-one us t 0 (leb→le (weight t) 1 s)
by-light other u us s = cond_both (InStep (Light us)) (any (eqb u) bare_literals) (omega arith) tt

rows-light : T (every (λ (r : FirstRow). single_passes is_light r.first) first_rows)
unfolding every first_rows single_passes weight token_items
rows-light = tt

step-light : (u : ℕ) (us : List ℕ) → InStep (Light us) (step_at u us)
unfolding step_at single_passes
step-light u us = by-light (first_in first_rows u) u us (first_passes (single_passes is_light) first_rows u tt rows-light)

-- the tokens of a code weigh no more than its units
abbrev lex_weight : Lexed → ℕ
lex_weight l = weights (tokens_of (placed_of l))

onto-weight : (p : Placed) (l : Lexed) → lex_weight (onto p l) ≤ weight p.token + lex_weight l
unfolding onto placed_of tokens_of weights
onto-weight p (good ps) = omega arith
onto-weight p (bad k) = omega arith

after-weight : (k : ℕ) (us : List ℕ) (s : Step) (rest : ℕ → Lexed) → InStep (Light us) s
    → ((n : ℕ) → lex_weight (rest n) ≤ length us - n) → lex_weight (after_step k s rest) ≤ suc (length us)
unfolding after_step placed_of tokens_of weights
after-weight k us (read t more) rest h r = omega (arith, onto-weight (record { token = t; start = k }) (rest more), r more)
after-weight k us broken rest h r = omega arith

lex-weight : (k skip : ℕ) (us : List ℕ) → lex_weight (lex_from k skip us) ≤ length us - skip
unfolding lex_from placed_of tokens_of weights
lex-weight k skip [] = omega arith
lex-weight k (suc skip) (u ∷ us) = omega (arith, lex-weight (suc k) skip us)
lex-weight k zero (u ∷ us) =
    let h : lex_weight (after_step k (step_at u us) (λ (n : ℕ). lex_from (suc k) n us)) ≤ suc (length us)
    = after-weight k us (step_at u us) _ (step-light u us) (λ (n : ℕ). lex-weight (suc k) n us) in
    omega arith

pub tokens-weight : (code : List ℕ) → weights (tokens_of (placed_of (lex code))) ≤ length code
unfolding lex
tokens-weight code = omega (arith, lex-weight 0 0 code)

-- a section's items are no more than its tokens weigh
token-items : (t : Token) → length (token_items false t) ≤ weight t
unfolding token_items weight
token-items =
    by_token (λ (t : Token). length (token_items false t) ≤ weight t)
    (λ us. omega arith) (λ u. omega arith) (λ u. omega arith) (λ u. omega arith) (λ p. omega arith)
    (omega arith) (omega arith) (omega arith) (omega arith) (omega arith) (omega arith)
    (λ h. omega arith) (λ l n. omega arith) (λ e n. omega arith) (λ n. omega arith) (λ w. omega arith) (λ m. omega arith)
    (λ p. omega arith) (λ p n. omega arith)

plain-items : (ts : List Token) → length (plain_items ts) ≤ weights ts
unfolding plain_items weights
plain-items [] = omega arith
plain-items (t ∷ ts) =
    omega (arith, length-append (token_items false t) (plain_items ts), token-items t, plain-items ts)

-- a part of a second starts with a point
part-weight : (behind_seconds : Bool) (t : Token) (ts : List Token) → eqb (part_zeros behind_seconds t ts) 0 ≡ false → 1 ≤ weight t
unfolding weight token_items
part-weight b t ts e = point-case (λ (u : Token). 1 ≤ weight u) (omega arith) t (zeros-point b t ts e).1

pieces-items : (behind_seconds : Bool) (skip : ℕ) (ts : List Token) → length (date_items (pieces_from behind_seconds skip ts)) ≤ weights ts
unfolding pieces_from date_items piece_items weights weight
pieces-items b skip [] = omega arith
pieces-items b (suc skip) (t ∷ ts) = omega (arith, pieces-items false skip ts)
pieces-items b zero (t ∷ ts) =
    let n = part_zeros b t ts in
    let ps = pieces_from (is_seconds_token t) n ts in
    cond-case (λ (qs : List Piece). length (date_items qs) ≤ weight t + weights ts) (eqb n 0)
    (λ e. omega (arith, length-append (token_items true t) (date_items ps), pieces-items (is_seconds_token t) n ts))
    (λ e. omega (arith, part-weight b t ts e, pieces-items (is_seconds_token t) n ts))

body-items : (ts : List Token) → length (body_items ts) ≤ weights ts
unfolding body_items
body-items ts =
    cond_both (λ (is : List Item). length is ≤ weights ts) (same_kind (body_kind ts) date_kind) (pieces-items false 0 ts) (plain-items ts)

fill-length : (is : List Item) → length (last_fill is) ≤ length is
unfolding last_fill
fill-length [] = omega arith
fill-length (i ∷ is) =
    cond_both (λ (js : List Item). length js ≤ suc (length is)) (is_fill i && any is_fill is)
    (omega (arith, fill-length is)) (omega (arith, fill-length is))

pub settled-length : (earlier : Run) (is : List Item) → length (settled_from earlier is) ≡ length is
unfolding settled_from
settled-length earlier [] = refl
settled-length earlier (i ∷ is) = ap suc (settled-length (nearer (run_of i) earlier) is)

section-items : (p : Parts) → length (section_of p).items ≤ weights p.body
unfolding section_of settled
section-items p =
    omega (arith, settled-length no_run (last_fill (body_items p.body)), fill-length (body_items p.body), body-items p.body)

-- the parts of a section leave out tokens only
after-weights : (c : ℕ) (ts : List Token) → weights (after_colour c ts).body ≤ weights ts
unfolding after_colour weights
after-weights c [] = omega arith
after-weights c (t ∷ ts) =
    cond_both (λ (p : Parts). weights p.body ≤ weight t + weights ts) (is_condition t) (omega arith) (omega arith)

parts-weights : (ts : List Token) → weights (parts_of ts).body ≤ weights ts
unfolding parts_of weights
parts-weights [] = after-weights 0 []
parts-weights (t ∷ ts) =
    cond_both (λ (p : Parts). weights p.body ≤ weight t + weights ts) (is_colour t)
    (omega (arith, after-weights (colour_in t) ts)) (after-weights 0 (t ∷ ts))

sections-items : (ss : List (List Token)) → items_in_all (map section_of (map parts_of ss)) ≤ section_weights ss
unfolding items_in_all section_weights
sections-items [] = omega arith
sections-items (s ∷ ss) = omega (arith, section-items (parts_of s), parts-weights s, sections-items ss)

-- the split leaves out the semicolons
joined-weights : (t : Token) (ss : List (List Token)) → section_weights (joined t ss) ≡ weight t + section_weights ss
unfolding joined section_weights weights
joined-weights t [] = omega arith
joined-weights t (s ∷ ss) = omega arith

split-weights : (ts : List Token) → section_weights (split ts) ≤ weights ts
unfolding split section_weights weights
split-weights [] = omega arith
split-weights (t ∷ ts) =
    cond_both (λ (ss : List (List Token)). section_weights ss ≤ weight t + weights ts) (is_semicolon t)
    (omega (arith, split-weights ts)) (omega (arith, joined-weights t (split ts), split-weights ts))

pub items-most : (code : List ℕ) → items_in_all (sections_in code) ≤ length code
unfolding sections_in parts_in
items-most code =
    let ts = tokens_of (placed_of (lex code)) in
    omega (arith, sections-items (split ts), split-weights ts, tokens-weight code)

-- the sections and the semicolons
joined_length : (t : Token) (ss : List (List Token)) → 1 ≤ length ss → length (joined t ss) ≡ length ss
unfolding joined
joined_length t [] h = absurd (omega arith)
joined_length t (s ∷ ss) h = refl

pub split-length : (ts : List Token) → length (split ts) ≡ suc (count is_semicolon ts)
unfolding split count
split-length [] = refl
split-length (t ∷ ts) =
    let h : length (split ts) ≡ suc (count is_semicolon ts) = split-length ts in
    by_cases (is_semicolon t)
    (λ e. rw e (omega arith))
    (λ e. rw e (joined_length t (split ts) (omega arith) ∙ h))

pub semicolons-length : (ps : List Placed) → length (semicolons ps) ≡ count is_semicolon (tokens_of ps)
unfolding semicolons tokens_of count
semicolons-length [] = refl
semicolons-length (p ∷ ps) =
    by_cases (is_semicolon p.token) (λ e. rw e (ap suc (semicolons-length ps))) (λ e. rw e (semicolons-length ps))

pub section-count : (code : List ℕ) → length (sections_in code) ≡ suc (length (semicolons (placed_of (lex code))))
unfolding sections_in parts_in
section-count code =
    let ps = placed_of (lex code) in
    length-map (map parts_of (split (tokens_of ps))) section_of ∙ length-map (split (tokens_of ps)) parts_of
    ∙ split-length (tokens_of ps) ∙ ap suc (sym (semicolons-length ps))
