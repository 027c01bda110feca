-- Laws of lexing: what is skipped is dropped, what lexing gives at a token's start, that tokens end within the code, and lexing as
-- a relation of places.
-- Assumes nothing.
use Prim.Native.Nat.{ℕ, zero, suc, ◌+◌, ◌-◌, ◌*◌, ◌≤◌, ◌<◌}
use native.Mathlib.Omega.{arith}
use native.Mathlib.Nat.{add-zero}
use native.Mathlib.Numerals.{add-one}
use mathlib.Core.Path.{◌≡◌, refl, sym, ap, subst, ◌∙◌}
use mathlib.Core.Bool.{Bool, true, ◌||◌, true≢false}
use mathlib.Core.List.{List, [], ◌∷◌}
use mathlib.Core.Option.{Option, none, some}
use lib.ListN.{length, take, drop, length-drop}
use lib.Dec.{eqb}
use borrow.Author.Tests.{eqb-false}
use lib.Seq.{drop-drop, drop-nil}
use Rattle.calendar.specs.Names.{units}
use Rattle.lists.specs.Lists.{any}
use Rattle.lists.proofs.Bools.{by_cases, cond_both, cond-case, or-false}
use Rattle.formats.specs.Tokens.{Token, Step, read, broken, before, leading, starts_with, quoted, marked, general_word, half_day_word, run_allowed, run_step, number_from, inside_of, closed, bracketed, First, quote, backslash, underscore, asterisk, open_bracket, capital_g, capital_a, letter, single, other, first_rows, first_in, bare_literals, step_by, step_at, Placed, Lexed, good, bad, onto, after_step, lex_from, lex, exponent_word, capital_e, Place, is_digit, is_place_unit, over_step, place_step, place_unit}
use Rattle.formats.specs.Starts.{StepIs, TokenStart, begin, next}

-- what is skipped is dropped
pub lex-skip : (k skip : ℕ) (us : List ℕ) → lex_from k skip us ≡ lex_from (k + skip) 0 (drop skip us)
unfolding lex_from
lex-skip k skip [] = rw (drop-nil skip)
lex-skip k zero (u ∷ us) = rw (add-zero k)
lex-skip k (suc skip) (u ∷ us) = lex-skip (suc k) skip us ∙ ap (λ (n : ℕ). lex_from n 0 (drop skip us)) (omega arith)

-- more digits make no smaller number
pub number-grows : (v : ℕ) (ds : List ℕ) → v ≤ number_from v ds
unfolding number_from
number-grows v [] = omega arith
number-grows v (d ∷ ds) = omega (arith, number-grows (10 * v + d) ds)

-- a token that is read stands in front of what follows it
pub lex-read : (k u : ℕ) (us : List ℕ) (t : Token) (more : ℕ) → step_at u us ≡ read t more
    → lex_from k 0 (u ∷ us) ≡ onto (record { token = t; start = k }) (lex_from (k + suc more) 0 (drop more us))
unfolding lex_from after_step
lex-read k u us t more e =
    rw e (ap (onto (record { token = t; start = k })) (lex-skip (suc k) more us ∙ ap (λ (n : ℕ). lex_from n 0 (drop more us)) (omega arith)))

pub lex-broken : (k u : ℕ) (us : List ℕ) → step_at u us ≡ broken → lex_from k 0 (u ∷ us) ≡ bad k
unfolding lex_from after_step
lex-broken k u us e = rw e

-- ---- a token's units are units of the code

-- a token that is read has no more units behind its first than there are
abbrev Within : ℕ → Step → Type 0
Within m (read t more) = more ≤ m
Within m broken = Unit {0}

pub before-most : (u : ℕ) (us : List ℕ) → before u us ≤ length us
unfolding before
before-most u [] = omega arith
before-most u (v ∷ vs) = cond_both (λ (n : ℕ). n ≤ suc (length vs)) (eqb v u) (omega arith) (omega (arith, before-most u vs))

pub leading-most : (f : ℕ → Bool) (us : List ℕ) → leading f us ≤ length us
unfolding leading
leading-most f [] = omega arith
leading-most f (v ∷ vs) = cond_both (λ (n : ℕ). n ≤ suc (length vs)) (f v) (omega (arith, leading-most f vs)) (omega arith)

pub word-most : (ws us : List ℕ) → starts_with ws us ≡ true → length ws ≤ length us
unfolding starts_with
word-most [] us e = omega arith
word-most (w ∷ ws) [] e = absurd (true≢false (sym e))
word-most (w ∷ ws) (u ∷ us) e = by_cases (eqb w u)
    (λ t. omega (arith, word-most ws us (rw t at e)))
    (λ t. absurd (true≢false (sym (rw t at e))))

quoted-within : (us : List ℕ) → Within (length us) (quoted us)
unfolding quoted
quoted-within us = cond-case (Within (length us)) (eqb (before 34 us) 0 || eqb (before 34 us) (length us)) (λ e. tt)
    (λ e. let open-end = eqb-false (before 34 us) (length us) (or-false (eqb (before 34 us) 0) _ e).1 in
    let most = before-most 34 us in
    omega arith)

marked-within : (f : ℕ → Token) (us : List ℕ) → Within (length us) (marked f us)
unfolding marked
marked-within f [] = tt
marked-within f (u ∷ us) = omega arith

closed-within : (m n : ℕ) (o : Option Token) → n < m → Within m (closed n o)
unfolding closed
closed-within m n none h = tt
closed-within m n (some t) h = h

bracketed-within : (us : List ℕ) → Within (length us) (bracketed us)
unfolding bracketed
bracketed-within us = cond-case (Within (length us)) (eqb (before 93 us) (length us)) (λ e. tt)
    (λ e. let open-end = eqb-false (before 93 us) (length us) e in
    let most = before-most 93 us in
    closed-within (length us) (before 93 us) (inside_of (take (before 93 us) us)) (omega arith))

general-within : (u : ℕ) (us : List ℕ) → Within (length us) (general_word (u ∷ us))
unfolding general_word units
general-within u us = cond-case (Within (length us)) (starts_with (units "General") (u ∷ us))
    (λ e. omega (arith, word-most (units "General") (u ∷ us) e)) (λ e. tt)

half-within : (u : ℕ) (us : List ℕ) → Within (length us) (half_day_word (u ∷ us))
unfolding half_day_word units
half-within u us = cond-case (Within (length us)) (starts_with (units "AM/PM") (u ∷ us))
    (λ e. omega (arith, word-most (units "AM/PM") (u ∷ us) e))
    (λ e. cond-case (Within (length us)) (starts_with (units "A/P") (u ∷ us))
    (λ f. omega (arith, word-most (units "A/P") (u ∷ us) f)) (λ f. tt))

exponent-within : (u : ℕ) (us : List ℕ) → Within (length us) (exponent_word (u ∷ us))
unfolding exponent_word units
exponent-within u us = cond-case (Within (length us)) (starts_with (units "E+") (u ∷ us))
    (λ e. omega (arith, word-most (units "E+") (u ∷ us) e))
    (λ e. cond-case (Within (length us)) (starts_with (units "E-") (u ∷ us))
    (λ f. omega (arith, word-most (units "E-") (u ∷ us) f)) (λ f. tt))

place-within : (p : Place) (us : List ℕ) → Within (length us) (place_step p us)
unfolding place_step over_step
place-within p [] = omega arith
place-within p (s ∷ []) = cond_both (Within 1) (eqb s 47) (omega arith) (omega arith)
place-within p (s ∷ u ∷ us) =
    let m = suc (suc (length us)) in
    cond_both (Within m) (eqb s 47)
    (cond_both (Within m) (is_place_unit u) (omega arith) (cond_both (Within m) (is_digit u) (omega (arith, leading-most is_digit us)) (omega arith)))
    (omega arith)

by-within : (f : First) (u : ℕ) (us : List ℕ) → Within (length us) (step_by f u us)
unfolding step_by run_step
by-within quote u us = quoted-within us
by-within backslash u us = marked-within _ us
by-within underscore u us = marked-within _ us
by-within asterisk u us = marked-within _ us
by-within open_bracket u us = bracketed-within us
by-within capital_g u us = general-within u us
by-within capital_a u us = half-within u us
by-within capital_e u us = exponent-within u us
by-within (letter l) u us = cond_both (Within (length us)) (run_allowed l (suc (leading (eqb u) us))) (leading-most (eqb u) us) tt
by-within (place_unit p) u us = place-within p us
by-within (single t) u us = omega arith
by-within other u us = cond_both (Within (length us)) (any (eqb u) bare_literals) (omega arith) tt

pub step-within : (u : ℕ) (us : List ℕ) (t : Token) (more : ℕ) → step_at u us ≡ read t more → more ≤ length us
unfolding step_at
step-within u us t more e = subst (Within (length us)) e (by-within (first_in first_rows u) u us)

-- ---- at a place of a code

module _ (code : List ℕ) (k : ℕ) where
  -- what lexing gives at a token's start: its token in front of the lexing of what follows, or its place where it is broken
  pub lex-front : (t : Token) (more : ℕ) → StepIs code k (read t more)
      → lex_from k 0 (drop k code) ≡ onto (record { token = t; start = k }) (lex_from (k + suc more) 0 (drop (k + suc more) code))
  lex-front t more s =
      let rest : drop (suc more) (drop k code) ≡ drop (k + suc more) code = drop-drop (suc more) k code in
      rw (← rest, s.stands) (lex-read k s.unit s.behind t more s.step)

  pub lex-front-broken : StepIs code k broken → lex_from k 0 (drop k code) ≡ bad k
  lex-front-broken s = rw s.stands (lex-broken k s.unit s.behind s.step)

  units-left : (s : Step) (h : StepIs code k s) → suc (length h.behind) ≡ length code - k
  units-left s h = rw h.stands at (length-drop k code)

  -- a step is made from a unit of the code
  pub step-inside : (s : Step) → StepIs code k s → k < length code
  step-inside s h = omega (arith, units-left s h)

  -- a token that is read ends within the code
  pub read-inside : (t : Token) (more : ℕ) → StepIs code k (read t more) → k + suc more ≤ length code
  read-inside t more s = omega (arith, units-left (read t more) s, step-within s.unit s.behind t more s.step)

  drop-tail : (u : ℕ) (us : List ℕ) → drop k code ≡ u ∷ us → drop (suc k) code ≡ us
  drop-tail u us e =
      let one : drop 1 (drop k code) ≡ drop (suc k) code = drop-drop 1 k code ∙ rw (add-one k) in
      rw (← one, e)

-- every token starts within the code, or at its end
pub start-inside : (code : List ℕ) (k : ℕ) → TokenStart code k → k ≤ length code
start-inside code k begin = omega arith
start-inside code k (next j t more h s) = read-inside code j t more s

-- ---- lexing as a relation: from place k on, the units give this
pub data LexesTo (code : List ℕ) : ℕ → Lexed → Type 0 where
  ends : (k : ℕ) → drop k code ≡ [] → LexesTo code k (good [])
  breaks : (k : ℕ) → StepIs code k broken → LexesTo code k (bad k)
  reads : (k : ℕ) (t : Token) (more : ℕ) (l : Lexed) → StepIs code k (read t more) → LexesTo code (k + suc more) l
      → LexesTo code k (onto (record { token = t; start = k }) l)

module _ (code : List ℕ) where
  lexes-from : (us : List ℕ) (k skip : ℕ) → drop k code ≡ us → LexesTo code (k + skip) (lex_from k skip us)
  unfolding lex_from after_step
  lexes-from [] k skip e = ends (k + skip) (rw (← (drop-drop skip k code), e) (drop-nil skip))
  lexes-from (u ∷ us) k (suc skip) e =
      let same : k + suc skip ≡ suc k + skip = omega arith in
      rw same (lexes-from us (suc k) skip (drop-tail code k u us e))
  lexes-from (u ∷ us) k zero e = rw (add-zero k) (from (step_at u us) refl (λ more. lexes-from us (suc k) more (drop-tail code k u us e)))
    where
      from : (s : Step) → step_at u us ≡ s → ((more : ℕ) → LexesTo code (suc k + more) (lex_from (suc k) more us))
          → LexesTo code k (after_step k s (λ (more : ℕ). lex_from (suc k) more us))
      from (read t more) f rest =
          let same : k + suc more ≡ suc k + more = omega arith in
          reads k t more (lex_from (suc k) more us) (record { unit = u; behind = us; stands = e; step = f }) (rw same (rest more))
      from broken f rest = breaks k (record { unit = u; behind = us; stands = e; step = f })

  pub lexes-at : (k : ℕ) → LexesTo code k (lex_from k 0 (drop k code))
  lexes-at k = rw (add-zero k) at (lexes-from (drop k code) k 0 refl)

  pub lexes : LexesTo code 0 (lex code)
  unfolding lex
  lexes = lexes-at 0

  -- a property of the whole lexing that passes to what is behind a token holds at every token's start
  pub at-start : (P : Lexed → Type 0) → ((p : Placed) (l : Lexed) → P (onto p l) → P l) → P (lex code)
      → (k : ℕ) → TokenStart code k → P (lex_from k 0 (drop k code))
  unfolding lex
  at-start P pass whole k begin = whole
  at-start P pass whole k (next j t more h s) =
      pass (record { token = t; start = j }) (lex_from (j + suc more) 0 (drop (j + suc more) code))
      (rw (lex-front code j t more s) at (at-start P pass whole j h))
