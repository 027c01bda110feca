-- The published grammar (R116). Level 2, bodies to codes (R28, R29, R46 to R50, R52): the rules NFAny, NFAnyNoText, NFAnyNoCond,
-- NFAnyNoTextNoCond and All of 004, and what derives a code.
-- Assumes nothing.
use Rattle.std.specs.Prelude.{ℕ, ◌≤◌, Bool, true, false, List, ◌∷◌, ◌++◌, ◌≡◌, length}
use Rattle.formats.specs.Tokens.{Token, semicolon, colour, condition, Written}
use Rattle.grammar.specs.Units.{Spelled}
use Rattle.grammar.specs.Bodies.{Literals, NFGeneral, NFNumber, NFScientific, NFFraction, NFDateTime, NFText}

-- A constructor is a production; comments as in `Bodies`. A rule with two lists takes the front of the first and leaves the second.

-- ---- heads

-- 004: [NFPartColor], narrowed, "At most one colour, then at most one condition, then the body": no literal stands before it
pub data OptColor : List Token → List Token → Type 0 where
  no-color : {ts : List Token} → OptColor ts ts
  color : {n : ℕ} {ts : List Token} → OptColor (colour n ∷ ts) ts

-- 004: NFPartCond. Added, "Limits (6): [..] condition numbers of 9 digits before and 6 after the point".
pub data NFPartCond : List Token → List Token → Type 0 where
  cond : {w : Written} {ts : List Token} → length w.whole ≤ 9 → length w.decimals ≤ 6 → NFPartCond (condition w ∷ ts) ts

-- 004: [NFPartCond], narrowed as the colour is; in the rules that have it, `cond`
pub data OptCond (cond : Bool) : List Token → List Token → Type 0 where
  no-cond : {ts : List Token} → OptCond cond ts ts
  some-cond : {ts us : List Token} → cond ≡ true → NFPartCond ts us → OptCond cond ts us

-- ---- sections

-- The four rules are 004's, which differ in whether they have NFText, `text`, and [NFPartCond], `cond`; NFText never has a condition. In
-- each, NFNumber is two, without an exponent and with one, and [NFDateTime] [NFGeneral] [NFDateTime] is narrowed ("Not now: [..] date
-- tokens beside General") to NFDateTime, NFGeneral or neither of them.
pub data NFAnyBy (text cond : Bool) : List Token → Type 0 where
  any-number : {ts us vs : List Token} → OptColor ts us → OptCond cond us vs → NFNumber vs → NFAnyBy text cond ts
  any-scientific : {ts us vs : List Token} → OptColor ts us → OptCond cond us vs → NFScientific vs → NFAnyBy text cond ts
  any-fraction : {ts us vs : List Token} → OptColor ts us → OptCond cond us vs → NFFraction vs → NFAnyBy text cond ts
  any-text : {ts us : List Token} → text ≡ true → OptColor ts us → NFText us → NFAnyBy text cond ts
  any-date : {ts us vs : List Token} → OptColor ts us → OptCond cond us vs → NFDateTime vs → NFAnyBy text cond ts
  any-general : {ts us vs : List Token} → OptColor ts us → OptCond cond us vs → NFGeneral vs → NFAnyBy text cond ts
  any-literal : {ts us vs : List Token} → OptColor ts us → OptCond cond us vs → Literals vs → NFAnyBy text cond ts

-- NFAny = [NFPartColor] (([NFPartCond] NFNumber) / NFText / ([NFPartCond] NFFraction) / ([NFPartCond] [NFDateTime] [NFGeneral] [NFDateTime]))
abbrev pub NFAny : List Token → Type 0
NFAny ts = NFAnyBy true true ts

-- NFAnyNoText = [NFPartColor] [NFPartCond] (NFNumber / NFFraction / ([NFDateTime] [NFGeneral] [NFDateTime]))
abbrev pub NFAnyNoText : List Token → Type 0
NFAnyNoText ts = NFAnyBy false true ts

-- NFAnyNoCond = [NFPartColor] (NFNumber / NFText / NFFraction / ([NFDateTime] [NFGeneral] [NFDateTime]))
abbrev pub NFAnyNoCond : List Token → Type 0
NFAnyNoCond ts = NFAnyBy true false ts

-- NFAnyNoTextNoCond = [NFPartColor] (NFNumber / NFFraction / ([NFDateTime] [NFGeneral] [NFDateTime]))
abbrev pub NFAnyNoTextNoCond : List Token → Type 0
NFAnyNoTextNoCond ts = NFAnyBy false false ts

-- 004: [NFText / NFGeneral], the fourth section. 01 says the same, "The fourth is text, General or literal, without colour or
-- condition".
pub data Fourth : List Token → Type 0 where
  fourth-text : {ts : List Token} → NFText ts → Fourth ts
  fourth-general : {ts : List Token} → NFGeneral ts → Fourth ts
  fourth-literal : {ts : List Token} → Literals ts → Fourth ts

-- ---- codes

-- 004: All, its five alternatives. 01 says the same, "Where: text only last. A single section with a condition must be General. With two
-- sections either may have a condition, with three or four only the first two. A text section has no condition."
pub data All : List Token → Type 0 where
  -- [NFPartColor] NFPartCond NFGeneral
  all-condition : {ts us vs : List Token} → OptColor ts us → NFPartCond us vs → NFGeneral vs → All ts
  -- NFAnyNoCond
  all_one : {ts : List Token} → NFAnyNoCond ts → All ts
  -- NFAnyNoText ASCII-SEMICOLON NFAny
  all_two : (s t : List Token) {ts : List Token} → NFAnyNoText s → NFAny t
      → ts ≡ s ++ semicolon ∷ t → All ts
  -- NFAnyNoText ASCII-SEMICOLON NFAnyNoText ASCII-SEMICOLON NFAnyNoCond
  all_three : (s t u : List Token) {ts : List Token} → NFAnyNoText s → NFAnyNoText t → NFAnyNoCond u
      → ts ≡ s ++ semicolon ∷ (t ++ semicolon ∷ u) → All ts
  -- NFAnyNoText ASCII-SEMICOLON NFAnyNoText ASCII-SEMICOLON NFAnyNoTextNoCond ASCII-SEMICOLON [NFText / NFGeneral]
  all-four : (s t u v : List Token) {ts : List Token} → NFAnyNoText s → NFAnyNoText t → NFAnyNoTextNoCond u → Fourth v
      → ts ≡ s ++ semicolon ∷ (t ++ semicolon ∷ (u ++ semicolon ∷ v)) → All ts

-- A code is derived: its units spell tokens, and All derives these.
pub record Derives (code : List ℕ) : Type 0 where
  -- added, 01's answer 1, "code length is 0 or above 254"
  pub least : 1 ≤ length code
  -- 004: "It must be less than 255 characters in length."
  pub most : length code ≤ 254
  pub tokens : List Token
  pub spelled : Spelled code tokens
  pub derived : All tokens
