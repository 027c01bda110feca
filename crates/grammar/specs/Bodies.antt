-- The published grammar (R116). Level 2, tokens to bodies (R31 to R42, R51, R53, R125, R127, R129, R130, R132, R134): the rules NFGeneral,
-- NFNumber, NFFraction, NFDateTime and NFText of 004, over the tokens that `Units` spells.
-- Assumes nothing.
use Rattle.std.specs.Prelude.{ℕ, suc, ◌≤◌, Bool, true, false, cond, ◌||◌, List, [], ◌∷◌, ◌≢◌, ◌≡◌, eqb}
use Rattle.std.proofs.Math.Option.{Option, some}
use Rattle.lists.specs.Lists.{count}
use Rattle.formats.specs.Tokens.{Token, literal, bare, blank, fill, place, point, comma, percent, at, general, half, run, elapsed, exponent, over, over_fixed, Place, zero_place, hash_place, HalfDay, ExponentMark, letter_y, letter_m, letter_d, letter_h, letter_s, Elapsed, hours, minutes, seconds}
use Rattle.formats.specs.Kinds.{form_of, is_place, is_point, is_seconds_token}

-- A constructor is a production. The comment above it says "004" where the production is from there, "narrowed" where 01 cuts it,
-- and "added" where it is 01's own, with 01's sentence. It holds for the constructors below it, up to the next comment. For scientific
-- numbers the sentences are those of 02, P1, for fractions those of 02, P4.

-- ---- what may stand anywhere

-- in every section. 004: "the following set of tokens can occur 0 to unbounded times: LITERAL-STRING, LITERAL-CHAR-REPEAT,
-- LITERAL-CHAR-SPACE"
pub data Free : Token → Type 0 where
  free-string : (us : List ℕ) → Free (literal us)
  free-repeat : (u : ℕ) → Free (fill u)
  free-space : (u : ℕ) → Free (blank u)
  -- added, "Literals without quotes"; INTL-CHAR-DATE-SEP and INTL-CHAR-TIME-SEP of 004 are among them
  free-bare : (u : ℕ) → Free (bare u)

-- in a date, beside its tokens
pub data Between : Token → Type 0 where
  -- 004, as everywhere; INTL-CHAR-DATE-SEP and INTL-CHAR-TIME-SEP are among them
  between-free : {t : Token} → Free t → Between t
  -- 004: INTL-AMPM
  between-AMPM : (h : HalfDay) → Between (half h)
  -- added, "comma is a literal [..] Other points are literals"
  between-comma : Between comma
  between-point : Between point

-- in a number, beside its places, point and commas
pub data Beside : Token → Type 0 where
  beside-free : {t : Token} → Free t → Beside t
  -- 004: ASCII-PERCENT-SIGN. Added, "Each `%` multiplies by 100 and shows itself": also at both ends, as in `%0%`, where
  -- NFPartNum of 004 has a NFPartNumToken2 at one end
  beside-percent : Beside percent

-- ---- literal sections

-- 004: [NFDateTime] [NFGeneral] [NFDateTime] with each of the three left out, which is 01's literal section
pub data Literals : List Token → Type 0 where
  literals_end : Literals []
  literals-free : {t : Token} {ts : List Token} → Free t → Literals ts → Literals (t ∷ ts)

-- ---- NFGeneral

-- 004: NFGeneral = INTL-NUMFMT-GENERAL
pub data NFGeneral : List Token → Type 0 where
  general-word : {ts : List Token} → Literals ts → NFGeneral (general ∷ ts)
  general-free : {t : Token} {ts : List Token} → Free t → NFGeneral ts → NFGeneral (t ∷ ts)

-- ---- NFNumber

-- Where in a number the tokens left stand: before its first place; behind an integer place; behind a grouping comma; behind a
-- dividing comma before the point; behind the point, with no place so far; behind the point; behind a dividing comma there.
pub data Part : Type 0 where
  leading wholes grouping dividing bared decimals trailing : Part

-- NFPartNum = (1*NFPartNumToken2 *(NFPartNumToken2 / ASCII-PERCENT-SIGN)) / (*(NFPartNumToken2 / ASCII-PERCENT-SIGN) 1*NFPartNumToken2)
-- NFPartNumToken2 = NFPartNumToken1 / INTL-CHAR-DECIMAL-SEP / INTL-CHAR-NUMGRP-SEP
-- in the order that 01, "Number", leaves of these; the number is that of the dividing commas
pub data NFPartNum : Part → ℕ → List Token → Type 0 where
  beside : {p : Part} {n : ℕ} {t : Token} {ts : List Token} → Beside t → NFPartNum p n ts → NFPartNum p n (t ∷ ts)
  -- 004: NFPartNumToken1
  leading-place : {n : ℕ} {q : Place} {ts : List Token} → NFPartNum wholes n ts → NFPartNum leading n (place q ∷ ts)
  wholes-place : {n : ℕ} {q : Place} {ts : List Token} → NFPartNum wholes n ts → NFPartNum wholes n (place q ∷ ts)
  grouping-place : {n : ℕ} {q : Place} {ts : List Token} → NFPartNum wholes n ts → NFPartNum grouping n (place q ∷ ts)
  bared-place : {n : ℕ} {q : Place} {ts : List Token} → NFPartNum decimals n ts → NFPartNum bared n (place q ∷ ts)
  decimals-place : {n : ℕ} {q : Place} {ts : List Token} → NFPartNum decimals n ts → NFPartNum decimals n (place q ∷ ts)
  -- 004: INTL-CHAR-DECIMAL-SEP, narrowed, "at most one point"
  leading-point : {n : ℕ} {ts : List Token} → NFPartNum bared n ts → NFPartNum leading n (point ∷ ts)
  wholes-point : {n : ℕ} {ts : List Token} → NFPartNum decimals n ts → NFPartNum wholes n (point ∷ ts)
  dividing-point : {n : ℕ} {ts : List Token} → NFPartNum decimals n ts → NFPartNum dividing n (point ∷ ts)
  -- 004: INTL-CHAR-NUMGRP-SEP, narrowed, "A comma with integer places on both sides of it asks for grouping."
  wholes-group : {n : ℕ} {ts : List Token} → NFPartNum grouping n ts → NFPartNum wholes n (comma ∷ ts)
  grouping-comma : {n : ℕ} {ts : List Token} → NFPartNum grouping n ts → NFPartNum grouping n (comma ∷ ts)
  -- 004: INTL-CHAR-NUMGRP-SEP, narrowed, "Commas between the last integer place and the point or end [..] each divide by 1,000."
  wholes-divide : {n : ℕ} {ts : List Token} → NFPartNum dividing n ts → NFPartNum wholes (suc n) (comma ∷ ts)
  dividing-comma : {n : ℕ} {ts : List Token} → NFPartNum dividing n ts → NFPartNum dividing (suc n) (comma ∷ ts)
  -- 004: INTL-CHAR-NUMGRP-SEP, narrowed, "or after the last place of all [..] Any other comma is 4."
  decimals-comma : {n : ℕ} {ts : List Token} → NFPartNum trailing n ts → NFPartNum decimals (suc n) (comma ∷ ts)
  trailing-comma : {n : ℕ} {ts : List Token} → NFPartNum trailing n ts → NFPartNum trailing (suc n) (comma ∷ ts)
  -- the end, narrowed, "with a place, number": not before the first place
  wholes-end : NFPartNum wholes 0 []
  dividing-end : NFPartNum dividing 0 []
  decimals-end : NFPartNum decimals 0 []
  trailing-end : NFPartNum trailing 0 []

abbrev pub is_percent : Token → Bool
is_percent t = eqb (form_of t) 9

-- the places before the point, and those behind it
unfoldable pub whole_places : List Token → ℕ
whole_places [] = 0
whole_places (t ∷ ts) = let r = whole_places ts in cond (is_point t) 0 (cond (is_place t) (suc r) r)

unfoldable pub decimal_places : List Token → ℕ
decimal_places [] = 0
decimal_places (t ∷ ts) = let r = decimal_places ts in cond (is_point t) (count is_place ts) r

-- NFNumber = NFPartNum [NFPartExponential NFPartNum] *INTL-CHAR-NUMGRP-SEP *INTL-AMPM
-- without its [NFPartExponential NFPartNum], which is 01's number section
pub record NFNumber (ts : List Token) : Type 0 where
  -- 004, narrowed, "Not now: [..] a half-day mark outside a date section"; the commas at its end are NFPartNum's
  pub divisions : ℕ
  pub num : NFPartNum leading divisions ts
  -- added, "Limits (6): 20 integer places, 15 decimal places, 5 percents, 5 dividing commas"
  pub wholes-most : whole_places ts ≤ 20
  pub decimals-most : decimal_places ts ≤ 15
  pub percents-most : count is_percent ts ≤ 5
  pub divisions-most : divisions ≤ 5

-- ---- NFNumber with its [NFPartExponential NFPartNum], which is 02's scientific section

-- Where in it the tokens left stand: before the point and the E; behind the point; behind the E.
pub data Side : Type 0 where
  before_point behind_point behind_e : Side

-- NFPartNum NFPartExponential NFPartNum, narrowed, "Refusals: comma, percent, a second E, a point or `?` behind the E"; the numbers are those
-- of the integer, the decimal and the exponent places
pub data NFPartScientific : Side → ℕ → ℕ → ℕ → List Token → Type 0 where
  -- 004, as everywhere
  scientific-free : {s : Side} {i d x : ℕ} {t : Token} {ts : List Token} → Free t → NFPartScientific s i d x ts → NFPartScientific s i d x (t ∷ ts)
  -- 004: NFPartNumToken1
  integer-place : {i d x : ℕ} {q : Place} {ts : List Token} → NFPartScientific before_point i d x ts → NFPartScientific before_point (suc i) d x (place q ∷ ts)
  decimal-place : {i d x : ℕ} {q : Place} {ts : List Token} → NFPartScientific behind_point i d x ts → NFPartScientific behind_point i (suc d) x (place q ∷ ts)
  -- 004: NFPartNumToken1, narrowed, "exponent places `0` or `#`"
  exponent-zero : {i d x : ℕ} {ts : List Token} → NFPartScientific behind_e i d x ts → NFPartScientific behind_e i d (suc x) (place zero_place ∷ ts)
  exponent-number-sign : {i d x : ℕ} {ts : List Token} → NFPartScientific behind_e i d x ts → NFPartScientific behind_e i d (suc x) (place hash_place ∷ ts)
  -- 004: INTL-CHAR-DECIMAL-SEP, narrowed as in a number, and not behind the E
  scientific-point : {i d x : ℕ} {ts : List Token} → NFPartScientific behind_point i d x ts → NFPartScientific before_point i d x (point ∷ ts)
  -- 004: NFPartExponential
  integers-E : {i d x : ℕ} {m : ExponentMark} {ts : List Token} → NFPartScientific behind_e i d x ts → NFPartScientific before_point i d x (exponent m ∷ ts)
  decimals-E : {i d x : ℕ} {m : ExponentMark} {ts : List Token} → NFPartScientific behind_e i d x ts → NFPartScientific behind_point i d x (exponent m ∷ ts)
  -- the end, narrowed, "one `E+` or `E-`": not before it
  scientific-end : NFPartScientific behind_e 0 0 0 []

pub record NFScientific (ts : List Token) : Type 0 where
  -- 004, narrowed as NFNumber is; no comma stands at its end
  pub integers : ℕ
  pub decimals : ℕ
  pub exponents : ℕ
  pub num : NFPartScientific before_point integers decimals exponents ts
  -- added, "no exponent place or no integer place in such a section is 4"
  pub integers-least : 1 ≤ integers
  pub exponents-least : 1 ≤ exponents
  -- added, the limits of a number, and "more than 3 exponent places is 6"
  pub integers-most : integers ≤ 20
  pub decimals-most : decimals ≤ 15
  pub exponents-most : exponents ≤ 3

-- ---- NFFraction

-- NFFraction = NFPartFraction ASCII-SOLIDUS NFPartFraction [NFPartNum] *INTL-AMPM
-- 004, narrowed, "optional integer places followed by at least one literal, then an unbroken run of places, `/` directly after it, then
-- directly another such run or a fixed whole number 1 to 999", "point, comma or percent in such a section is 4"

-- "literal": not a blank, not a fill
pub data Literal : Token → Type 0 where
  literal-string : (u : ℕ) (us : List ℕ) → Literal (literal (u ∷ us))
  literal-bare : (u : ℕ) → Literal (bare u)

-- behind the solidus: an unbroken run of so many places, and no place behind it
pub data Denominator : ℕ → List Token → Type 0 where
  below-place : {d : ℕ} {q : Place} {ts : List Token} → Denominator d ts → Denominator (suc d) (place q ∷ ts)
  below_end : {ts : List Token} → Literals ts → Denominator 0 ts

-- an unbroken run of so many places, whose last one has the solidus directly behind it
pub data Numerator : ℕ → List Token → Type 0 where
  above_place : {n : ℕ} {q : Place} {ts : List Token} → Numerator n ts → Numerator (suc n) (place q ∷ ts)
  -- added, "more than [..] 3 places below or a fixed number above 999 is 6"
  above-places : {d : ℕ} {q : Place} {ts : List Token} → 1 ≤ d → d ≤ 3 → Denominator d ts → Numerator 1 (over q ∷ ts)
  above-number : {n : ℕ} {q : Place} {ts : List Token} → n ≤ 999 → Literals ts → Numerator 1 (over_fixed q n ∷ ts)

-- Where before the numerator the tokens left stand: behind an integer place, with no literal since; or elsewhere.
pub data Gap : Type 0 where
  joined apart : Gap

-- the numbers are those of the integer places and of the numerator's
pub data NFPartFraction : Gap → ℕ → ℕ → List Token → Type 0 where
  -- 004, as everywhere
  fraction-free : {g : Gap} {i n : ℕ} {t : Token} {ts : List Token} → Free t → NFPartFraction g i n ts → NFPartFraction g i n (t ∷ ts)
  -- 004: NFPartNumToken1
  fraction-place : {g : Gap} {i n : ℕ} {q : Place} {ts : List Token} → NFPartFraction joined i n ts → NFPartFraction g (suc i) n (place q ∷ ts)
  -- added, "integer places followed by at least one literal"
  fraction-literal : {i n : ℕ} {t : Token} {ts : List Token} → Literal t → NFPartFraction apart i n ts → NFPartFraction joined i n (t ∷ ts)
  -- 004: the numerator, narrowed, not directly behind an integer place
  fraction-numerator : {n : ℕ} {ts : List Token} → Numerator n ts → NFPartFraction apart 0 n ts

pub record NFFraction (ts : List Token) : Type 0 where
  pub integers : ℕ
  pub numerators : ℕ
  pub num : NFPartFraction apart integers numerators ts
  -- added, the limit of a number, and "more than 20 numerator places [..] is 6"
  pub integers-most : integers ≤ 20
  pub numerators-most : numerators ≤ 20

-- ---- NFDateTime

-- What stands before a token of a date: seconds, directly; hours, as the nearest earlier run or elapsed token; or neither.
pub data Behind : Type 0 where
  behind_seconds behind_hours behind_other : Behind

-- the same once a token that is no date token has followed
abbrev pub past : Behind → Behind
past behind_seconds = behind_other
past behind_hours = behind_hours
past behind_other = behind_other

abbrev pub is_absolute : Token → Bool
is_absolute t = eqb (form_of t) 20

-- What stands behind a token of a date: seconds, as the nearest later run or elapsed token.
unfoldable pub before_seconds : List Token → Bool
before_seconds [] = false
before_seconds (t ∷ ts) = let r = before_seconds ts in cond (eqb (form_of t) 15 || is_absolute t) (is_seconds_token t) r

-- 004: NFAbsTimeToken = NFPartAbsHour / NFPartAbsSecond / NFPartAbsMinute. Added, "Limits (6): [..] elapsed runs of 9".
pub data NFAbsTimeToken : Elapsed → Token → Behind → Type 0 where
  NFPartAbsHour : {n : ℕ} → n ≤ 9 → NFAbsTimeToken hours (elapsed hours n) behind_hours
  NFPartAbsSecond : {n : ℕ} → n ≤ 9 → NFAbsTimeToken seconds (elapsed seconds n) behind_seconds
  NFPartAbsMinute : {n : ℕ} → n ≤ 9 → NFAbsTimeToken minutes (elapsed minutes n) behind_other

-- 004: NFDateTimeToken = NFPartYear / NFPartMonth / NFPartDay / NFPartHour / NFPartMinute / NFPartSecond / NFAbsTimeToken
-- abs is what the section's absolute time token counts, if it has one; `before`, whether seconds are next; then what stands before the
-- token, and before the next.
-- 004: "an absolute time token must not coexist with a non-absolute equivalent token in NFDateTime"; hence `abs ≢ some ..`.
pub data NFDateTimeToken (abs : Option Elapsed) (before : Bool) : Behind → Token → Behind → Type 0 where
  NFPartYear : {b : Behind} {n : ℕ} → NFDateTimeToken abs before b (run letter_y n) behind_other
  -- 004, with the rule that tells NFPartMonth from NFPartMinute, "m or mm is minutes when the nearest earlier date or time run or
  -- elapsed token is hours, or the nearest later one is s, ss or elapsed seconds", "else the month"
  NFPartMonth : {b : Behind} {n : ℕ} → b ≢ behind_hours → before ≡ false → NFDateTimeToken abs before b (run letter_m n) behind_other
  NFPartMonth-long : {b : Behind} {n : ℕ} → 3 ≤ n → NFDateTimeToken abs before b (run letter_m n) behind_other
  -- 004
  NFPartDay : {b : Behind} {n : ℕ} → NFDateTimeToken abs before b (run letter_d n) behind_other
  NFPartHour : {b : Behind} {n : ℕ} → abs ≢ some hours → NFDateTimeToken abs before b (run letter_h n) behind_hours
  -- 004, with the same rule
  NFPartMinute : {n : ℕ} → n ≤ 2 → abs ≢ some minutes → NFDateTimeToken abs before behind_hours (run letter_m n) behind_other
  NFPartMinute-seconds : {b : Behind} {n : ℕ} → n ≤ 2 → abs ≢ some minutes → before ≡ true → NFDateTimeToken abs before b (run letter_m n) behind_other
  -- 004
  NFPartSecond : {b : Behind} {n : ℕ} → abs ≢ some seconds → NFDateTimeToken abs before b (run letter_s n) behind_seconds
  absolute : {b c : Behind} {x : Elapsed} {t : Token} → abs ≡ some x → NFAbsTimeToken x t c → NFDateTimeToken abs before b t c

-- 004: NFPartSubSecond = INTL-CHAR-DECIMAL-SEP 1*3ASCII-DIGIT-ZERO. 004 forgets it among the elements that literals may not break
-- apart; 01 says "A point right after s, ss or an elapsed s, followed by one to three zeros".
pub data NFPartSubSecond : List Token → List Token → Type 0 where
  tenths : {ts : List Token} → NFPartSubSecond (point ∷ place zero_place ∷ ts) ts
  hundredths : {ts : List Token} → NFPartSubSecond (point ∷ place zero_place ∷ place zero_place ∷ ts) ts
  thousandths : {ts : List Token} → NFPartSubSecond (point ∷ place zero_place ∷ place zero_place ∷ place zero_place ∷ ts) ts

-- 004: NFDateTime = *INTL-AMPM (1*(NFDateTimeToken) *(NFDateTimeToken / NFPartSubSecond / INTL-CHAR-DATE-SEP / INTL-CHAR-TIME-SEP / INTL-AMPM))
-- first what follows its first date token
pub data DateTimeRest (abs : Option Elapsed) : Behind → List Token → Type 0 where
  rest_end : {b : Behind} → DateTimeRest abs b []
  rest-token : {b c : Behind} {t : Token} {ts : List Token} → NFDateTimeToken abs (before_seconds ts) b t c → DateTimeRest abs c ts
      → DateTimeRest abs b (t ∷ ts)
  -- 004, narrowed, "right after s, ss or an elapsed s [..] other places are 4"
  rest-sub-second : {ts us : List Token} → NFPartSubSecond ts us → DateTimeRest abs behind_other us → DateTimeRest abs behind_seconds ts
  -- 004
  rest-between : {b : Behind} {t : Token} {ts : List Token} → Between t → DateTimeRest abs (past b) ts → DateTimeRest abs b (t ∷ ts)

-- 004: *INTL-AMPM, and then the first date token
pub data DateTimeFrom (abs : Option Elapsed) : List Token → Type 0 where
  from-token : {b : Behind} {t : Token} {ts : List Token} → NFDateTimeToken abs (before_seconds ts) behind_other t b → DateTimeRest abs b ts
      → DateTimeFrom abs (t ∷ ts)
  from-between : {t : Token} {ts : List Token} → Between t → DateTimeFrom abs ts → DateTimeFrom abs (t ∷ ts)

pub record NFDateTime (ts : List Token) : Type 0 where
  pub abs : Option Elapsed
  pub tokens : DateTimeFrom abs ts
  -- 004: "NFAbsTimeToken must occur 0 or 1 times in NFDateTime."
  pub absolute-once : count is_absolute ts ≤ 1

-- ---- NFText

-- NFText = (1*ASCII-COMMERCIAL-AT *(ASCII-COMMERCIAL-AT / INTL-AMPM)) / (*(ASCII-COMMERCIAL-AT / INTL-AMPM) 1*ASCII-COMMERCIAL-AT)
-- 004, narrowed, "Not now: [..] a half-day mark outside a date section"; first what follows its first `@`
pub data TextRest : List Token → Type 0 where
  text-end : TextRest []
  text-more : {ts : List Token} → TextRest ts → TextRest (at ∷ ts)
  text-literal : {t : Token} {ts : List Token} → Free t → TextRest ts → TextRest (t ∷ ts)

pub data NFText : List Token → Type 0 where
  text_at : {ts : List Token} → TextRest ts → NFText (at ∷ ts)
  text-free : {t : Token} {ts : List Token} → Free t → NFText ts → NFText (t ∷ ts)
