-- What is easily got wrong of a reason, computed: one list, and a single statement over its rows.
-- Assumes nothing.
use Prim.Native.Nat.{ℕ}
use Prim.Native.String.{String}
use mathlib.Core.List.{List, [], ◌∷◌}
use mathlib.Core.Path.{◌≡◌, refl}
use lib.IntN.{pos, negsuc}
use Rattle.std.specs.Prelude.{Result, Ok, Err}
use Rattle.answers.specs.declared.Refusal.{Refusal}
use Rattle.answers.specs.declared.Refusal.TheVariants as answer
use Rattle.values.specs.declared.Ask.{Ask}
use Rattle.calendar.specs.Names.{units}
use Rattle.lists.specs.Lists.{All}
use Rattle.formats.proofs.Cases.{all-equal, number, instant, a_text}
use Rattle.grounds.specs.declared.ChosenBy.{ChosenBy}
use Rattle.grounds.specs.declared.ChosenBy.TheVariants as by
use Rattle.grounds.specs.declared.Tried.{Tried}
use Rattle.grounds.specs.declared.Tried.TheVariants as tried
use Rattle.grounds.specs.declared.Minus.{Minus}
use Rattle.grounds.specs.declared.Minus.TheVariants as minus
use Rattle.grounds.specs.declared.Grounds.{Grounds}
use Rattle.grounds.specs.Why.{code_why}
use Rattle.grounds.proofs.Evaluate.{reasoned}

-- a code, what is asked of it with the text and the room's length, and its reason
pub record Case : Type 0 where
  pub code : String
  pub ask : Ask
  pub text : List ℕ
  pub room : ℕ
  pub answer : Result Grounds Refusal

abbrev pub because : ℕ → ChosenBy → Tried → Tried → Minus → ℕ → Result Grounds Refusal
because section choice first second held cut =
    Ok (record { section = section; choice = choice; first = first; second = second; minus = held; cut = cut })

-- without a text, in a room of 4,096 units
abbrev pub gives : String → Ask → Result Grounds Refusal → Case
gives code ask answer = record { code = code; ask = ask; text = []; room = 4096; answer = answer }

-- of the first section, without a fallback that failed, or behind one or two of them
abbrev pub alone : String → Ask → ChosenBy → Minus → ℕ → Case
alone code ask choice held cut = gives code ask (because 0 choice tried.NotTried tried.NotTried held cut)

abbrev pub behind_one : String → Ask → ChosenBy → Tried → Minus → ℕ → Case
behind_one code ask choice first held cut = gives code ask (because 1 choice first tried.NotTried held cut)

abbrev pub behind_two : String → Ask → ChosenBy → Tried → Tried → Minus → ℕ → Case
behind_two code ask choice first second held cut = gives code ask (because 2 choice first second held cut)

abbrev pub denies : String → Ask → Refusal → Case
denies code ask a = gives code ask (Err a)

-- a text of one unit
abbrev pub of_text : String → ℕ → ChosenBy → Case
of_text code section choice =
    record { code = code; ask = a_text; text = 120 ∷ []; room = 1; answer = because section choice tried.NotTried tried.NotTried minus.Text 0 }

abbrev pub told : Case → Result Grounds Refusal
told c = code_why (units c.code) c.ask c.text c.room

unfoldable pub cases : List Case
cases =
    -- one section, with a condition or without; two, three, none that count
    alone "0" (number (pos 5) 0) by.AllValues minus.NotBelow 0
    ∷ alone "[>5]General" (number (pos 7) 0) by.OwnCondition minus.NotBelow 0
    ∷ alone "0;0" (number (pos 0) 0) by.FirstOfTwo minus.NotBelow 0
    ∷ alone "0;0;0" (number (pos 5) 0) by.AboveZero minus.NotBelow 0
    ∷ alone "@" (number (negsuc 4) 0) by.General minus.Added 0
    ∷ alone "0;@" (number (negsuc 4) 0) by.AllValues minus.Added 0
    -- the section that a condition rejects is named, also before one of its own; so is each fallback that is false
    ∷ behind_one "[>100]0;0;@" (number (negsuc 4) 0) by.RestOfTwo tried.OwnFalse minus.Added 0
    ∷ behind_one "[>100]0;0;0" (number (negsuc 4) 0) by.BelowZero tried.OwnFalse minus.ForNegatives 0
    ∷ behind_one "0;[<0](0)" (number (negsuc 4) 0) by.OwnCondition tried.FallbackFalse minus.Added 0
    ∷ behind_two "0;[<-10]0;0" (number (negsuc 4) 0) by.RestOfThree tried.FallbackFalse tried.OwnFalse minus.Added 0
    ∷ behind_two "[>100]0;0;0" (number (pos 50) 0) by.RestOfThree tried.OwnFalse tried.FallbackFalse minus.NotBelow 0
    ∷ behind_two "0;0;0" (number (pos 0) 0) by.RestOfThree tried.FallbackFalse tried.FallbackFalse minus.NotBelow 0
    -- an instant, compared exactly
    ∷ behind_two "h;h;\"zero\"" (instant 0 0) by.RestOfThree tried.FallbackFalse tried.FallbackFalse minus.NotBelow 0
    ∷ behind_one "[>1.5]\"a\";\"b\"" (instant 1 43200000) by.RestOfTwo tried.OwnFalse minus.NotBelow 0
    ∷ alone "mm:ss.0" (instant 5 12345) by.AllValues minus.NotBelow 0
    -- a text: the fourth section, a text section, none
    ∷ of_text "0;0;0;General" 3 by.TextSection
    ∷ of_text "0;@" 1 by.TextSection
    ∷ of_text "0" 4 by.NoSection
    -- what holds the minus back first: not below 0, before no item; no item, before (a); (a), before (b); (b)
    ∷ behind_one "[<0];" (number (pos 5) 0) by.RestOfTwo tried.OwnFalse minus.NotBelow 0
    ∷ behind_one "0;;0" (number (negsuc 4) 0) by.BelowZero tried.FallbackFalse minus.NoItem 0
    ∷ behind_one "0;0" (number (negsuc 2) 1) by.RestOfTwo tried.FallbackFalse minus.ForNegatives 1
    ∷ alone "0" (number (negsuc 2) 1) by.AllValues minus.Nought 1
    ∷ alone "# ?/?" (number (negsuc 0) 2) by.AllValues minus.Nought 0
    ∷ alone "\"x\"" (number (negsuc 0) 3) by.AllValues minus.Added 0
    -- decimals of the number without its trailing zeros, after percents and dividing commas; kept ones do not count
    ∷ alone "0" (number (pos 1250) 2) by.AllValues minus.NotBelow 1
    ∷ alone "0.000" (number (pos 125) 2) by.AllValues minus.NotBelow 0
    ∷ alone "0,," (number (pos 1200) 0) by.AllValues minus.NotBelow 4
    ∷ alone "0%" (number (pos 12345) 4) by.AllValues minus.NotBelow 2
    ∷ alone "0,,,,," (number (negsuc 0) 15) by.AllValues minus.Nought 30
    -- General beyond its own decimals; x / 10^e with the exponent shown; no fraction
    ∷ alone "General" (number (pos 100000000004) 11) by.AllValues minus.NotBelow 2
    ∷ alone "@" (number (negsuc 0) 11) by.General minus.Nought 2
    ∷ alone "0E+0" (number (pos 96) 1) by.AllValues minus.NotBelow 2
    ∷ alone "##0.0E+0" (number (negsuc 1234566) 0) by.AllValues minus.Added 5
    ∷ alone "# ?/?" (number (pos 3) 1) by.AllValues minus.NotBelow 0
    -- the refusals of the show, in its order
    ∷ denies "0" (number (pos 1) 16) answer.Range
    ∷ denies "[>=10]0;[<0]0" (number (pos 5) 0) answer.NoSection
    ∷ denies "h" (number (pos 5) 0) answer.Sort
    ∷ denies "General" (number (pos 100000000000) 0) answer.General
    ∷ record { code = "0.00"; ask = number (negsuc 0) 0; text = []; room = 4; answer = Err answer.TextRoom }
    ∷ []

pub cases-right : All (λ (c : Case). told c ≡ c.answer) cases
unfolding cases reasoned
cases-right = all-equal told (λ (c : Case). c.answer) cases refl
