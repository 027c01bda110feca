-- The published grammar (R116). Level 1, units to tokens (R14 to R27, R127, R132): the lexical rules of 004, from NFPartExponential to
-- INTL-AMPM, and how a code's units spell its tokens.
-- Assumes nothing.
use Rattle.std.specs.Prelude.{ℕ, ◌+◌, ◌*◌, ◌≤◌, Bool, true, false, List, [], ◌∷◌, ◌++◌, map, ◌≢◌, ◌≡◌, replicate, eqb}
use Prim.Native.Char.{code}
use Rattle.lists.specs.Lists.{any, All}
use Rattle.calendar.specs.Names.{units}
use Rattle.formats.specs.Tokens.{Token, literal, bare, blank, fill, place, point, comma, percent, at, semicolon, general, half, run, elapsed, colour, condition, exponent, over, over_fixed, Place, zero_place, hash_place, space_place, letter_y, letter_m, letter_d, letter_h, letter_s, hours, minutes, seconds, short, long, ExponentMark, e_plus, e_minus, Comparison, equal, less, greater, at_most, at_least, unequal, digit_of, fixed_number}

-- A constructor is a production. The comment above it says "004" where the production is from there, "narrowed" where 01 cuts it,
-- and "added" where it is 01's own, with 01's sentence. It holds for the constructors below it, up to the next comment. A token takes
-- the front of the units us and leaves vs; concatenation in the ABNF is `++` here.

-- ---- runs and brackets

-- added, "A whole run of another length is broken": what is left does not go on with the same letter
abbrev pub Ended : ℕ → List ℕ → Type 0
Ended u [] = Unit {0}
Ended u (v ∷ vs) = v ≢ u

-- a whole run of n units u
pub record WholeRun (u n : ℕ) (us vs : List ℕ) : Type 0 where
  pub stands : us ≡ replicate n u ++ vs
  pub ends : Ended u vs

-- ws in square brackets, ASCII-LEFT-SQUARE-BRACKET and ASCII-RIGHT-SQUARE-BRACKET
abbrev pub Bracketed : List ℕ → List ℕ → List ℕ → Type 0
Bracketed ws us vs = us ≡ code "[" ∷ (ws ++ code "]" ∷ vs)

-- ---- digits

-- 004: ASCII-DIGIT
abbrev pub ASCII-DIGIT : ℕ → Type 0
ASCII-DIGIT u = (code "0" ≤ u) × (u ≤ code "9")

-- 004: NFPartIntNum = 1*ASCII-DIGIT
pub data NFPartIntNum : List ℕ → Type 0 where
  int-num : (u : ℕ) (us : List ℕ) → All ASCII-DIGIT (u ∷ us) → NFPartIntNum (u ∷ us)

-- 004: NFPartNumber1To4, NFPartNumber1To6, NFPartNumber1To9
abbrev pub NFPartNumber1To4 : ℕ → Type 0
NFPartNumber1To4 u = (code "1" ≤ u) × (u ≤ code "4")

abbrev pub NFPartNumber1To6 : ℕ → Type 0
NFPartNumber1To6 u = (code "1" ≤ u) × (u ≤ code "6")

abbrev pub NFPartNumber1To9 : ℕ → Type 0
NFPartNumber1To9 u = (code "1" ≤ u) × (u ≤ code "9")

-- ---- rules inside brackets

-- 004: NFPartCompOper
pub data NFPartCompOper : Comparison → List ℕ → Type 0 where
  oper-less : NFPartCompOper less (code "<" ∷ [])
  oper-at-most : NFPartCompOper at_most (code "<" ∷ code "=" ∷ [])
  oper-unequal : NFPartCompOper unequal (code "<" ∷ code ">" ∷ [])
  oper-equal : NFPartCompOper equal (code "=" ∷ [])
  oper-greater : NFPartCompOper greater (code ">" ∷ [])
  oper-at-least : NFPartCompOper at_least (code ">" ∷ code "=" ∷ [])

-- NFPartCondNum = [ASCII-HYPHEN-MINUS] NFPartIntNum [INTL-CHAR-DECIMAL-SEP NFPartIntNum] [NFPartExponential NFPartIntNum]
-- 004, narrowed, "Not now: [..] exponents in conditions": whether it is negative, its digits before and after the point, its units
pub data NFPartCondNum : Bool → List ℕ → List ℕ → List ℕ → Type 0 where
  cond-num-whole : {ws : List ℕ} → NFPartIntNum ws → NFPartCondNum false ws [] ws
  cond-num-point : {ws ds : List ℕ} (us : List ℕ) → NFPartIntNum ws → NFPartIntNum ds → us ≡ ws ++ code "." ∷ ds → NFPartCondNum false ws ds us
  cond-num-minus : {ws ds us : List ℕ} → NFPartCondNum false ws ds us → NFPartCondNum true ws ds (code "-" ∷ us)

-- 004: NFPart1To56, a number and its units
pub data NFPart1To56 : ℕ → List ℕ → Type 0 where
  one-digit : (u : ℕ) → NFPartNumber1To9 u → NFPart1To56 (digit_of u) (u ∷ [])
  two_digits : (u v : ℕ) → NFPartNumber1To4 u → ASCII-DIGIT v → NFPart1To56 (10 * digit_of u + digit_of v) (u ∷ v ∷ [])
  fifty : NFPart1To56 50 (code "5" ∷ code "0" ∷ [])
  fifties : (v : ℕ) → NFPartNumber1To6 v → NFPart1To56 (50 + digit_of v) (code "5" ∷ v ∷ [])

-- 004: INTL-COLOR; the numbers are 01's, "Named colours are 1 Black, 2 White, .."
pub data INTL-COLOR : ℕ → List ℕ → Type 0 where
  black : INTL-COLOR 1 (units "Black")
  blue : INTL-COLOR 5 (units "Blue")
  cyan : INTL-COLOR 8 (units "Cyan")
  green : INTL-COLOR 4 (units "Green")
  magenta : INTL-COLOR 7 (units "Magenta")
  red : INTL-COLOR 3 (units "Red")
  white : INTL-COLOR 2 (units "White")
  yellow : INTL-COLOR 6 (units "Yellow")

-- ---- tokens

-- added, "Literals without quotes: `$ - + / ( ) : ! ^ & ' ~ { } < > =` and space"
abbrev pub bare_units : List ℕ
bare_units = units "$-+/():!^&'~{}<>= "

abbrev pub BareLiteral : ℕ → Type 0
BareLiteral u = any (eqb u) bare_units ≡ true

-- 004: NFPartSign = ASCII-PLUS-SIGN / ASCII-HYPHEN-MINUS
pub data NFPartSign : ExponentMark → ℕ → Type 0 where
  sign-plus : NFPartSign e_plus (code "+")
  sign-minus : NFPartSign e_minus (code "-")

-- 004: NFPartNumToken1 = ASCII-NUMBER-SIGN / ASCII-QUESTION-MARK / ASCII-DIGIT-ZERO, a place and its unit
pub data NFPartNumToken1 : Place → ℕ → Type 0 where
  number-sign : NFPartNumToken1 hash_place (code "#")
  question-mark : NFPartNumToken1 space_place (code "?")
  digit-zero : NFPartNumToken1 zero_place (code "0")

-- what stands directly behind the solidus of a fraction: a place, or the first digit of a fixed number
pub data Below : ℕ → Type 0 where
  place-below : {p : Place} {u : ℕ} → NFPartNumToken1 p u → Below u
  digit-below : {u : ℕ} → NFPartNumber1To9 u → Below u

-- what is left of the units does not begin with such a solidus
abbrev pub NoSolidus : List ℕ → Type 0
NoSolidus [] = Unit {0}
NoSolidus (u ∷ []) = Unit {0}
NoSolidus (u ∷ v ∷ vs) = u ≡ code "/" → Below v → ⊥

-- and does not go on with a digit
abbrev pub NoDigit : List ℕ → Type 0
NoDigit [] = Unit {0}
NoDigit (v ∷ vs) = ASCII-DIGIT v → ⊥

-- a token, the units that begin with it, the units that are left
pub data Spells : Token → List ℕ → List ℕ → Type 0 where
  -- 004: NFPartYear = 2(ASCII-SMALL-LETTER-Y) / 4(ASCII-SMALL-LETTER-Y), narrowed to whole runs
  NFPartYear-2 : {us vs : List ℕ} → WholeRun (code "y") 2 us vs → Spells (run letter_y 2) us vs
  NFPartYear-4 : {us vs : List ℕ} → WholeRun (code "y") 4 us vs → Spells (run letter_y 4) us vs
  -- 004: NFPartMonth = 1*5(ASCII-SMALL-LETTER-M), narrowed to whole runs
  NFPartMonth : {n : ℕ} {us vs : List ℕ} → 1 ≤ n → n ≤ 5 → WholeRun (code "m") n us vs → Spells (run letter_m n) us vs
  -- 004: NFPartDay = 1*4(ASCII-SMALL-LETTER-D), narrowed to whole runs
  NFPartDay : {n : ℕ} {us vs : List ℕ} → 1 ≤ n → n ≤ 4 → WholeRun (code "d") n us vs → Spells (run letter_d n) us vs
  -- 004: NFPartHour = 1*2(ASCII-SMALL-LETTER-H), narrowed to whole runs
  NFPartHour : {n : ℕ} {us vs : List ℕ} → 1 ≤ n → n ≤ 2 → WholeRun (code "h") n us vs → Spells (run letter_h n) us vs
  -- 004: NFPartAbsHour = "[" 1*ASCII-SMALL-LETTER-H "]"
  NFPartAbsHour : {n : ℕ} {us vs : List ℕ} → 1 ≤ n → Bracketed (replicate n (code "h")) us vs → Spells (elapsed hours n) us vs
  -- 004: NFPartMinute = 1*2(ASCII-SMALL-LETTER-M), narrowed to whole runs; whether m is a month or minutes, level 2 tells
  NFPartMinute : {n : ℕ} {us vs : List ℕ} → 1 ≤ n → n ≤ 2 → WholeRun (code "m") n us vs → Spells (run letter_m n) us vs
  -- 004: NFPartAbsMinute = "[" 1*ASCII-SMALL-LETTER-M "]"
  NFPartAbsMinute : {n : ℕ} {us vs : List ℕ} → 1 ≤ n → Bracketed (replicate n (code "m")) us vs → Spells (elapsed minutes n) us vs
  -- 004: NFPartSecond = 1*2(ASCII-SMALL-LETTER-S), narrowed to whole runs
  NFPartSecond : {n : ℕ} {us vs : List ℕ} → 1 ≤ n → n ≤ 2 → WholeRun (code "s") n us vs → Spells (run letter_s n) us vs
  -- 004: NFPartAbsSecond = "[" 1*ASCII-SMALL-LETTER-S "]"
  NFPartAbsSecond : {n : ℕ} {us vs : List ℕ} → 1 ≤ n → Bracketed (replicate n (code "s")) us vs → Spells (elapsed seconds n) us vs
  -- 004: NFPartCond = "[" NFPartCompOper NFPartCondNum "]"
  NFPartCond : {c : Comparison} {negative : Bool} {os ws ds ns us vs : List ℕ} → NFPartCompOper c os → NFPartCondNum negative ws ds ns
      → Bracketed (os ++ ns) us vs
      → Spells (condition (record { comparison = c; negative = negative; whole = map digit_of ws; decimals = map digit_of ds })) us vs
  -- 004: NFPartColor = "[" (INTL-COLOR / (NFPartStrColor NFPart1To56)) "]", whose inner brackets 004 forgets
  NFPartColor-name : {n : ℕ} {ws us vs : List ℕ} → INTL-COLOR n ws → Bracketed ws us vs → Spells (colour n) us vs
  NFPartColor-number : {n : ℕ} {ws us vs : List ℕ} → NFPart1To56 n ws → Bracketed (units "Color" ++ ws) us vs → Spells (colour n) us vs
  -- 004: NFPartExponential = ASCII-CAPITAL-LETTER-E NFPartSign
  NFPartExponential : {m : ExponentMark} {u : ℕ} {us vs : List ℕ} → NFPartSign m u → us ≡ code "E" ∷ u ∷ vs → Spells (exponent m) us vs
  -- 004: NFPartNumToken1, where no solidus of a fraction stands directly behind it
  NFPartNumToken1-alone : {p : Place} {u : ℕ} {us : List ℕ} → NFPartNumToken1 p u → NoSolidus us → Spells (place p) (u ∷ us) us
  -- 004: the ASCII-SOLIDUS of NFFraction, with the place before it. Narrowed, "an unbroken run of places, `/` directly after it, then directly
  -- another such run or a fixed whole number"
  ASCII-SOLIDUS-place : {p q : Place} {u v : ℕ} {us : List ℕ} → NFPartNumToken1 p u → NFPartNumToken1 q v
      → Spells (over p) (u ∷ code "/" ∷ v ∷ us) (v ∷ us)
  -- 004: the same with the NFPartIntNum of the NFPartFraction behind it. Narrowed, "A digit run that begins with 1 to 9 becomes a token
  -- directly after a `/` that directly follows a place", the whole run
  ASCII-SOLIDUS-number : {p : Place} {u v : ℕ} {ws us vs : List ℕ} → NFPartNumToken1 p u → NFPartNumber1To9 v → NFPartIntNum (v ∷ ws) → NoDigit vs
      → us ≡ u ∷ code "/" ∷ ((v ∷ ws) ++ vs) → Spells (over_fixed p (fixed_number (v ∷ ws))) us vs
  -- 004: ASCII-PERCENT-SIGN, ASCII-COMMERCIAL-AT and ASCII-SEMICOLON, which stand for themselves
  ASCII-PERCENT-SIGN : {us : List ℕ} → Spells percent (code "%" ∷ us) us
  ASCII-COMMERCIAL-AT : {us : List ℕ} → Spells at (code "@" ∷ us) us
  ASCII-SEMICOLON : {us : List ℕ} → Spells semicolon (code ";" ∷ us) us
  -- 004: LITERAL-CHAR = ASCII-REVERSE-SOLIDUS UTF16-ANY
  LITERAL-CHAR : {u : ℕ} {us : List ℕ} → Spells (literal (u ∷ [])) (code "\\" ∷ u ∷ us) us
  -- 004: LITERAL-CHAR-REPEAT = ASCII-ASTERISK UTF16-ANY
  LITERAL-CHAR-REPEAT : {u : ℕ} {us : List ℕ} → Spells (fill u) (code "*" ∷ u ∷ us) us
  -- 004: LITERAL-STRING = (ASCII-QUOTATION-MARK 1*UTF16-ANY-WITHOUT-QUOTE ASCII-QUOTATION-MARK) / 1*LITERAL-CHAR, where
  -- each LITERAL-CHAR is a token of its own
  LITERAL-STRING : {u : ℕ} {ws us vs : List ℕ} → All (λ (w : ℕ). w ≢ code "\"") (u ∷ ws)
      → us ≡ code "\"" ∷ ((u ∷ ws) ++ code "\"" ∷ vs) → Spells (literal (u ∷ ws)) us vs
  -- 004: LITERAL-CHAR-SPACE = ASCII-LOW-LINE UTF16-ANY
  LITERAL-CHAR-SPACE : {u : ℕ} {us : List ℕ} → Spells (blank u) (code "_" ∷ u ∷ us) us
  -- 004: INTL-CHAR-DECIMAL-SEP, INTL-CHAR-NUMGRP-SEP
  INTL-CHAR-DECIMAL-SEP : {us : List ℕ} → Spells point (code "." ∷ us) us
  INTL-CHAR-NUMGRP-SEP : {us : List ℕ} → Spells comma (code "," ∷ us) us
  -- added, "Literals without quotes"; INTL-CHAR-DATE-SEP and INTL-CHAR-TIME-SEP of 004 are two of them
  bare-literal : {u : ℕ} {us : List ℕ} → BareLiteral u → Spells (bare u) (u ∷ us) us
  -- 004: INTL-NUMFMT-GENERAL
  INTL-NUMFMT-GENERAL : {us vs : List ℕ} → us ≡ units "General" ++ vs → Spells general us vs
  -- 004: INTL-AMPM = "AM/PM" / "A/P", narrowed, "Letters are case-sensitive": as printed, "A/P" would take small letters too
  INTL-AMPM-long : {us vs : List ℕ} → us ≡ units "AM/PM" ++ vs → Spells (half long) us vs
  INTL-AMPM-short : {us vs : List ℕ} → us ≡ units "A/P" ++ vs → Spells (half short) us vs

-- 01, "Read left to right": a code's units and its tokens
pub data Spelled : List ℕ → List Token → Type 0 where
  done : Spelled [] []
  token : {t : Token} {us vs : List ℕ} {ts : List Token} → Spells t us vs → Spelled vs ts → Spelled us (t ∷ ts)
