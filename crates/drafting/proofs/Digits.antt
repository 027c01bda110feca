-- A condition that is read has a digit, a literal a unit; so the units of a condition's token write a condition.
-- Assumes nothing.
use Prim.Native.Nat.{ℕ, suc, ◌-◌}
use native.Mathlib.Omega.{arith}
use mathlib.Core.Path.{◌≡◌, refl, ◌∙◌}
use mathlib.Core.Bool.{Bool, true, not}
use mathlib.Core.List.{List, [], ◌∷◌}
use mathlib.Core.Option.{Option, none, some}
use lib.ListN.{length, take, drop, length-drop}
use lib.Seq.{take_all}
use lib.Dec.{T}
use Rattle.lists.specs.Lists.{every, is_empty, is_some}
use Rattle.lists.proofs.Bools.{and_left, and_right, and_in, every-head, every_take, every_drop}
use Rattle.lists.proofs.Counts.{every-weaker}
use Rattle.formats.specs.Tokens.{Token, Written, condition_inside, lex}
use Rattle.formats.specs.Kinds.{condition_in}
use Rattle.formats.specs.Accept.{placed_of, tokens_of}
use Rattle.formats.proofs.TokenRanges.{token_passes, written_in_range, condition_digits, condition-in, tokens-pass}
use Rattle.std.proofs.Common.{Some}
use Rattle.marks.specs.declared.Mark.{Mark}
use Rattle.marks.specs.Marks.{written_or, written_in, condition_of, mark_rows, mark_token, token_at, marked, tokens_in}
use Rattle.bodies.specs.declared.sections.Heading.{Heading}
use Rattle.bodies.specs.Sections.{HeadingOf}
use Rattle.marks.proofs.Buffer.{tokens-first, tokens-drop, tokens-take}
use Rattle.bodies.specs.Fraction.{has_units}
use Rattle.bodies.proofs.Callers.{units-passed}
use Rattle.drafting.specs.Draft.{writes_digit, is_read}

-- ---- the tokens of a code
abbrev any_unit : ℕ → Bool
any_unit u = true

any-units : (us : List ℕ) → T (every any_unit us)
unfolding every
any-units [] = tt
any-units (u ∷ us) = any-units us

written-digit : (o : Option Written) → T (condition_digits o) → T (writes_digit o)
unfolding condition_digits written_in_range writes_digit
written-digit none t = tt
written-digit (some w) t = search (and_left, and_right)

token-read : (t : Token) → T (token_passes any_unit t) → T (is_read t)
unfolding is_read
token-read t h = and_in (writes_digit (condition_in t)) (has_units t) (written-digit (condition_in t) (condition-in any_unit t h)) (units-passed any_unit t h)

pub read_all : (code : List ℕ) → T (every is_read (tokens_of (placed_of (lex code))))
read_all code = every-weaker (token_passes any_unit) is_read token-read _ (tokens-pass any_unit code (any-units code))

-- ---- a part of the tokens
pub read-drop : (code : List ℕ) (ms : List Mark) (k : ℕ) → T (every is_read (tokens_in code ms)) → T (every is_read (tokens_in code (drop k ms)))
read-drop code ms k t = rw (tokens-drop code ms k) (every_drop is_read k (tokens_in code ms) t)

pub read_take : (code : List ℕ) (ms : List Mark) (k : ℕ) → T (every is_read (tokens_in code ms)) → T (every is_read (tokens_in code (take k ms)))
read_take code ms k t = rw (tokens-take code ms k) (every_take is_read k (tokens_in code ms) t)

-- the literals of those behind a heading have units
read-units : (t : Token) → T (is_read t) → T (has_units t)
unfolding is_read
read-units t h = and_right (writes_digit (condition_in t)) (has_units t) h

pub units-behind : (code : List ℕ) (ms : List Mark) (k : ℕ) → T (every is_read (tokens_in code ms))
    → T (every has_units (tokens_in code (take (length ms - k) (drop k ms))))
units-behind code ms k t =
    rw (take_all (length ms - k) (drop k ms) (rw (length-drop k ms) (omega arith)))
    (every-weaker is_read has_units read-units _ (read-drop code ms k t))

-- ---- the units of a condition's token
written-some : (o : Option Token) → T (not (is_empty (written_or (written_in o)).whole)) → is_some o ≡ true
unfolding written_or written_in is_some is_empty
written-some none t = absurd t
written-some (some x) t = refl

digit-some : (us : List ℕ) → T (is_read (condition_of us)) → is_some (condition_inside us) ≡ true
unfolding is_read writes_digit condition_in condition_of
digit-some us t = written-some (condition_inside us) (and_left (writes_digit (condition_in (condition_of us))) (has_units (condition_of us)) t)

token-digit : (code : List ℕ) (m : Mark) → m.form ≡ 24 → T (is_read (marked code m)) → is_some (condition_inside (take m.argument (drop (suc m.start) code))) ≡ true
unfolding marked token_at mark_token mark_rows condition_of
token-digit code m e t = digit-some (take m.argument (drop (suc m.start) code)) (rw e at t)

pub heading-digit : (code : List ℕ) (ms : List Mark) (h : Heading) → HeadingOf ms h → T (every is_read (tokens_in code ms)) → (m : Mark) → h.condition ≡ Some m
    → (m.form ≡ 24) × (is_some (condition_inside (take m.argument (drop (suc m.start) code))) ≡ true)
heading-digit code ms h head t m e =
    let r = head.read m e in
    let k : ℕ = h.tokens - 1 in
    let later : List Token = tokens_in code (drop (suc k) ms) in
    let first : tokens_in code (drop k ms) ≡ marked code m ∷ later = tokens-first code ms k m (omega (arith, r.0, head.inside)) ∙ rw r.2 in
    (r.1, token-digit code m r.1 (every-head is_read (marked code m) later (rw first at (read-drop code ms k t))))
