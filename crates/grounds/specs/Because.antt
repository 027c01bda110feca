-- What is promised of a reason (R140 to R144): "The facts named hold, and showing the value through the named section, with the minus as named, gives the
-- text on the wall."
-- Assumes nothing.
use Rattle.std.specs.Prelude.{◌≡◌, ℕ, zero, suc, ◌-◌, ◌≤◌, ◌<◌, Bool, true, false, not, List, [], ◌∷◌, ◌++◌, eqb, take, get_or, nat_abs, Result, Ok, Err}
use Rattle.std.proofs.Math.Option.{Option, none, some}
use Rattle.answers.specs.declared.Refusal.{Refusal}
use Rattle.values.specs.declared.Number.{Number}
use Rattle.values.specs.declared.Day.{Day}
use Rattle.values.specs.declared.Millisecond.{Millisecond}
use Rattle.values.specs.declared.Value.{Value}
use Rattle.values.specs.declared.Value.TheVariants as value
use Rattle.lists.specs.Lists.{every, count, is_empty}
use Rattle.figures.specs.Rounding.{Magnitude, scaled}
use Rattle.figures.specs.General.{general_decimals}
use Rattle.exponents.specs.Exponent.{divided_by}
use Rattle.cuts.specs.Beyond.{CutOf}
use Rattle.formats.specs.Items.{Condition, Section, literal_kind, number_kind, scientific_kind, fraction_kind, kind_of, is_percent, decimal_places}
use Rattle.formats.specs.Where.{is_text}
use Rattle.formats.specs.Choice.{Exact, number_exact, instant_exact, condition_exact, zero_exact, less_than, compared, counted, fallback, reason_holds}
use Rattle.formats.specs.Minus.{first_has_condition, exception_a}
use Rattle.formats.specs.Text.{section_units}
use Rattle.formats.specs.Reading.{Look, Reading, refused, shown, shows_general, section_exponent, instant_context, text_context, section_text, shows_nought}
use Rattle.grounds.specs.declared.ChosenBy.{ChosenBy}
use Rattle.grounds.specs.declared.ChosenBy.TheVariants as by
use Rattle.grounds.specs.declared.Tried.{Tried}
use Rattle.grounds.specs.declared.Tried.TheVariants as tried
use Rattle.grounds.specs.declared.Minus.{Minus}
use Rattle.grounds.specs.declared.Minus.TheVariants as held
use Rattle.grounds.specs.declared.Grounds.{Grounds}
use Rattle.grounds.specs.Numbers.{choice_number, minus_number}

-- the section at a place, where there is one
unfoldable pub section_named : List Section → ℕ → Option Section
section_named [] i = none
section_named (s ∷ ss) zero = some s
section_named (s ∷ ss) (suc i) = section_named ss i

-- ---- the text, told by section and minus alone
unfoldable pub minus_units : Minus → List ℕ
minus_units held.Added = 45 ∷ []
minus_units held.Text = []
minus_units held.NotBelow = []
minus_units held.NoItem = []
minus_units held.ForNegatives = []
minus_units held.Nought = []

-- a value through a section, without a minus; by no section the text itself is shown
unfoldable pub shown_through : Value → List ℕ → Option Section → List ℕ
shown_through v text none = text
shown_through (value.Number x) text (some s) = section_text s x
shown_through (value.Instant d m) text (some s) = section_units (instant_context s d m) s.items
shown_through value.Text text (some s) = section_units (text_context text) s.items

-- "the value through the named section, with the minus as named" (R144)
unfoldable pub named_text : List Section → Value → List ℕ → ℕ → Minus → List ℕ
named_text ss v text i m = minus_units m ++ shown_through v text (section_named ss i)

-- ---- the choice
-- Section s, at the place i, takes the number or instant x by the choice named (R140): its own condition, compared exactly; or it has none, and the
-- fallback holds that stands for its place where so many sections count.
pub data TakenBy (ss : List Section) (x : Exact) (i : ℕ) (s : Section) : ChosenBy → Type 0 where
  own : (c : Condition) → s.condition ≡ some c → compared c.comparison x (condition_exact c) ≡ true → TakenBy ss x i s by.OwnCondition
  all : counted ss ≡ 1 → i ≡ 0 → s.condition ≡ none → TakenBy ss x i s by.AllValues
  first_of_two : counted ss ≡ 2 → i ≡ 0 → s.condition ≡ none → less_than x zero_exact ≡ false → TakenBy ss x i s by.FirstOfTwo
  rest_of_two : counted ss ≡ 2 → i ≡ 1 → s.condition ≡ none → TakenBy ss x i s by.RestOfTwo
  above : counted ss ≡ 3 → i ≡ 0 → s.condition ≡ none → less_than zero_exact x ≡ true → TakenBy ss x i s by.AboveZero
  below : counted ss ≡ 3 → i ≡ 1 → s.condition ≡ none → less_than x zero_exact ≡ true → TakenBy ss x i s by.BelowZero
  rest_of_three : counted ss ≡ 3 → i ≡ 2 → s.condition ≡ none → TakenBy ss x i s by.RestOfThree
  general : counted ss ≡ 0 → i ≡ 0 → TakenBy ss x i s by.General

-- ---- the sections tried earlier
-- the section at the place k does not take x (R141): its own condition is false, or it has none and its fallback is false
pub data Rejects (ss : List Section) (x : Exact) (k : ℕ) : Tried → Type 0 where
  own_false : (s : Section) (c : Condition) → section_named ss k ≡ some s → s.condition ≡ some c
      → compared c.comparison x (condition_exact c) ≡ false → Rejects ss x k tried.OwnFalse
  fallback_false : (s : Section) → section_named ss k ≡ some s → s.condition ≡ none
      → reason_holds (fallback (counted ss) k) s x ≡ false → Rejects ss x k tried.FallbackFalse

-- all before the chosen one, at most two, and no other
pub record TriedEarlier (ss : List Section) (x : Exact) (g : Grounds) : Type 0 where
  pub few : g.section ≤ 2
  pub first : 0 < g.section → Rejects ss x 0 g.first
  pub second : 1 < g.section → Rejects ss x 1 g.second
  pub no_first : g.section ≡ 0 → g.first ≡ tried.NotTried
  pub no_second : g.section ≤ 1 → g.second ≡ tried.NotTried

-- the section named is the one shown, takes x by the choice named, and those before it do not
pub record ChosenBecause (ss : List Section) (x : Exact) (taker : Section) (look : Look) (g : Grounds) : Type 0 where
  pub shown : look.section ≡ g.section
  pub section : section_named ss g.section ≡ some taker
  pub choice : TakenBy ss x g.section taker g.choice
  pub earlier : TriedEarlier ss x g

-- ---- the minus
-- n is the number of the first reason of a list that applies, counted from 1: it does, and none before it; 0 where none does
pub record FirstOf (tests : List Bool) (n : ℕ) : Type 0 where
  pub applies : 0 < n → get_or tests (n - 1) false ≡ true
  pub not_earlier : every not (take (n - 1) tests) ≡ true
  pub none : n ≡ 0 → every not tests ≡ true

-- "a text or a value not below 0, an empty section, (a) or (b), the first that applies" (R142), of a number; (a) by the choice named
unfoldable pub minus_tests : List Section → Number → Section → Grounds → List Bool
minus_tests ss x s g =
    false
    ∷ not (less_than (number_exact x) zero_exact)
    ∷ is_empty s.items
    ∷ exception_a (counted ss) g.section (eqb (choice_number g.choice) 0) (first_has_condition ss)
    ∷ shows_nought s x
    ∷ []

-- ---- the decimals cut
-- they are those of m beyond the kept ones; "for number, scientific and General sections: exact when cut is 0" (R143)
pub record CutBecause (m : Magnitude) (kept : ℕ) (look : Look) (g : Grounds) : Type 0 where
  pub cut : CutOf m kept g.cut
  pub exact : look.exact ≡ eqb g.cut 0

-- ---- of each value
pub record NumberBecause (ss : List Section) (x : Number) (look : Look) (g : Grounds) : Type 0 where
  pub taker : Section
  pub chosen : ChosenBecause ss (number_exact x) taker look g
  pub minus : FirstOf (minus_tests ss x taker g) (minus_number g.minus)
  pub number : kind_of taker ≡ number_kind
      → CutBecause (scaled (nat_abs x.coefficient) x.scale (count is_percent taker.items) taker.thousands) (decimal_places taker.items) look g
  pub scientific : kind_of taker ≡ scientific_kind
      → CutBecause (divided_by (number_exact x).size (section_exponent taker x)) (decimal_places taker.items) look g
  pub general : shows_general (kind_of taker) ≡ true → CutBecause (number_exact x).size (general_decimals (number_exact x).size) look g
  pub literal : kind_of taker ≡ literal_kind → g.cut ≡ 0
  pub fraction : kind_of taker ≡ fraction_kind → g.cut ≡ 0

-- an instant is not below 0
pub record InstantBecause (ss : List Section) (d : Day) (m : Millisecond) (look : Look) (g : Grounds) : Type 0 where
  pub taker : Section
  pub chosen : ChosenBecause ss (instant_exact d m) taker look g
  pub minus : g.minus ≡ held.NotBelow
  pub not_below : less_than (instant_exact d m) zero_exact ≡ false
  pub cut : g.cut ≡ 0

-- "Text goes to the fourth section, else to a text section"; by no section where there is neither
pub data TextTakenBy (ss : List Section) : ℕ → ChosenBy → Type 0 where
  fourth : (s : Section) → section_named ss 3 ≡ some s → TextTakenBy ss 3 by.TextSection
  text : (i : ℕ) (s : Section) → section_named ss 3 ≡ none → section_named ss i ≡ some s → is_text s ≡ true → TextTakenBy ss i by.TextSection
  no_section : section_named ss 3 ≡ none → every (λ (s : Section). not (is_text s)) ss ≡ true → TextTakenBy ss 4 by.NoSection

pub record TextBecause (ss : List Section) (look : Look) (g : Grounds) : Type 0 where
  pub shown : look.section ≡ g.section
  pub choice : TextTakenBy ss g.section g.choice
  pub first : g.first ≡ tried.NotTried
  pub second : g.second ≡ tried.NotTried
  pub minus : g.minus ≡ held.Text
  pub cut : g.cut ≡ 0

abbrev pub ValueBecause : List Section → Value → Look → Grounds → Type 0
ValueBecause ss (value.Number x) look g = NumberBecause ss x look g
ValueBecause ss (value.Instant d m) look g = InstantBecause ss d m look g
ValueBecause ss value.Text look g = TextBecause ss look g

-- the reason g for what is seen where sections show a value, with the text that is lent beside it
pub record Because (ss : List Section) (v : Value) (lent : List ℕ) (look : Look) (g : Grounds) : Type 0 where
  pub text : look.text ≡ named_text ss v lent g.section g.minus
  pub facts : ValueBecause ss v look g

-- something is seen, and this is the reason for it
pub record ShownBecause (ss : List Section) (v : Value) (lent : List ℕ) (r : Reading) (g : Grounds) : Type 0 where
  pub look : Look
  pub seen : r ≡ shown look
  pub because : Because ss v lent look g

-- "A refused show gives the same refusal and no reason.": what is answered why of a reading holds
abbrev pub WhyHolds : List Section → Value → List ℕ → Reading → Result Grounds Refusal → Type 0
WhyHolds ss v lent r (Err a) = r ≡ refused a
WhyHolds ss v lent r (Ok g) = ShownBecause ss v lent r g
