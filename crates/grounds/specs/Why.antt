-- "Why does it say that?" (R140 to R143): the reason for what is shown, or the refusal of the show.
-- Assumes nothing.
use Rattle.std.specs.Prelude.{ℕ, cond, List, map, eqb, take, get_or, nat_abs, Result, Ok, Err}
use Rattle.answers.specs.declared.Refusal.{Refusal}
use Rattle.values.specs.declared.Number.{Number}
use Rattle.values.specs.declared.Value.{Value}
use Rattle.values.specs.declared.Value.TheVariants as value
use Rattle.values.specs.declared.Ask.{Ask}
use Rattle.lists.specs.Lists.{count}
use Rattle.figures.specs.Rounding.{scaled}
use Rattle.cuts.specs.Cut.{decimals_cut, general_cut, mantissa_cut}
use Rattle.formats.specs.Items.{Section, number_kind, scientific_kind, same_kind, kind_of, is_percent, integer_places, decimal_places}
use Rattle.formats.specs.Where.{has_condition}
use Rattle.formats.specs.Choice.{number_exact, instant_exact, counted, Reason, own_condition, only_section, not_below_zero, above_zero, below_zero, the_rest, as_general, Choice, nothing, chosen, choose, TextChoice, itself, text_in, choose_text}
use Rattle.formats.specs.Minus.{Sign, minus, not_negative, no_item, for_negatives, nought}
use Rattle.formats.specs.Accept.{Accepted, sections, refusal, accept}
use Rattle.formats.specs.Reading.{Reading, refused, shown, reading, shows_general, number_sign}
use Rattle.grounds.specs.declared.ChosenBy.{ChosenBy}
use Rattle.grounds.specs.declared.ChosenBy.TheVariants as by
use Rattle.grounds.specs.declared.Tried.{Tried}
use Rattle.grounds.specs.declared.Tried.TheVariants as tried
use Rattle.grounds.specs.declared.Minus.{Minus}
use Rattle.grounds.specs.declared.Minus.TheVariants as held
use Rattle.grounds.specs.declared.Grounds.{Grounds}

-- "the section chosen, whether by its own condition or which fallback" (R140), where n sections count
unfoldable pub choice_of : ℕ → Reason → ChosenBy
choice_of n own_condition = by.OwnCondition
choice_of n only_section = by.AllValues
choice_of n not_below_zero = by.FirstOfTwo
choice_of n above_zero = by.AboveZero
choice_of n below_zero = by.BelowZero
choice_of n the_rest = cond (eqb n 2) by.RestOfTwo by.RestOfThree
choice_of n as_general = by.General

-- "for each section tried earlier that its condition was false" (R141): its own one, or its fallback
unfoldable pub failure_of : Section → Tried
failure_of s = cond (has_condition s) tried.OwnFalse tried.FallbackFalse

-- what is said of section k where section i was chosen: all before it were tried
unfoldable pub tried_at : List Section → ℕ → ℕ → Tried
tried_at ss i k = get_or (map failure_of (take i ss)) k tried.NotTried

-- "whether a minus was added or what held it back" (R142)
unfoldable pub minus_of : Sign → Minus
minus_of minus = held.Added
minus_of not_negative = held.NotBelow
minus_of no_item = held.NoItem
minus_of for_negatives = held.ForNegatives
minus_of nought = held.Nought

-- "how many decimals were cut: the figures that the exact scaled number [..] has beyond those the rounding keeps; 0 for [..] literal sections and
-- fractions" (R143): of General beyond its own decimals, of a scientific section on x / 10^e, of a number section after percents and dividing commas
unfoldable pub number_cut : Section → Number → ℕ
number_cut s x =
    cond (shows_general (kind_of s)) (general_cut (number_exact x).size)
    (cond (same_kind (kind_of s) scientific_kind)
    (mantissa_cut (number_exact x).size (integer_places s.items) (decimal_places s.items))
    (cond (same_kind (kind_of s) number_kind)
    (decimals_cut (scaled (nat_abs x.coefficient) x.scale (count is_percent s.items) s.thousands) (decimal_places s.items))
    0))

-- section i, chosen for this reason
unfoldable pub chosen_grounds : List Section → ℕ → Reason → Minus → ℕ → Grounds
chosen_grounds ss i why m cut =
    record {
      section = i;
      choice = choice_of (counted ss) why;
      first = tried_at ss i 0;
      second = tried_at ss i 1;
      minus = m;
      cut = cut;
    }

-- no section is tried for a text, and it has no minus
unfoldable pub untried : ℕ → ChosenBy → Grounds
untried i choice =
    record { section = i; choice = choice; first = tried.NotTried; second = tried.NotTried; minus = held.Text; cut = 0 }

-- where no section is chosen the show is refused, and these are not told
unfoldable pub no_grounds : Grounds
no_grounds = untried 0 by.OwnCondition

unfoldable pub number_grounds : List Section → Number → Choice → Grounds
number_grounds ss x nothing = no_grounds
number_grounds ss x (chosen i s why) = chosen_grounds ss i why (minus_of (number_sign ss i s why x)) (number_cut s x)

-- an instant is not below 0
unfoldable pub instant_grounds : List Section → Choice → Grounds
instant_grounds ss nothing = no_grounds
instant_grounds ss (chosen i s why) = chosen_grounds ss i why held.NotBelow 0

unfoldable pub text_grounds : TextChoice → Grounds
text_grounds itself = untried 4 by.NoSection
text_grounds (text_in i s) = untried i by.TextSection

unfoldable pub grounds_of : List Section → Value → Grounds
grounds_of ss (value.Number x) = number_grounds ss x (choose ss (number_exact x))
grounds_of ss (value.Instant d m) = instant_grounds ss (choose ss (instant_exact d m))
grounds_of ss value.Text = text_grounds (choose_text ss)

-- "A refused show gives the same refusal and no reason." (R140)
unfoldable pub why_read : Reading → Grounds → Result Grounds Refusal
why_read (refused a) g = Err a
why_read (shown look) g = Ok g

-- "For a [..] value and the text room's length, give the reason" (R140)
unfoldable pub why_of : List Section → Ask → List ℕ → ℕ → Result Grounds Refusal
why_of ss ask text room = why_read (reading ss ask text room) (grounds_of ss ask.value)

-- of a code: a refused code gives its refusal
unfoldable pub why_accepted : Accepted → Ask → List ℕ → ℕ → Result Grounds Refusal
why_accepted (refusal a k) ask text room = Err a
why_accepted (sections ss) ask text room = why_of ss ask text room

unfoldable pub code_why : List ℕ → Ask → List ℕ → ℕ → Result Grounds Refusal
code_why code ask text room = why_accepted (accept code) ask text room
