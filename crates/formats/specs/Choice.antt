-- "Which section" (R54 to R60): the section that a value goes to, with the reason.
-- Assumes nothing.
use Rattle.std.specs.Prelude.{ℕ, suc, ◌*◌, ◌^◌, Bool, true, false, cond, not, ◌&&◌, ◌||◌, List, [], ◌∷◌, ltb, eqb, pos, nat_abs}
use Rattle.std.proofs.Math.Option.{Option, none, some}
use Rattle.std.specs.Int.Signed.{lt_z}
use Rattle.values.specs.declared.Number.{Number}
use Rattle.values.specs.declared.Day.{Day}
use Rattle.values.specs.declared.Millisecond.{Millisecond}
use Rattle.figures.specs.Rounding.{Magnitude}
use Rattle.calendar.specs.Clock.{since_day_zero}
use Rattle.formats.specs.Tokens.{Comparison, equal, less, greater, at_most, at_least, unequal}
use Rattle.formats.specs.Items.{Condition, Section}
use Rattle.formats.specs.Where.{has_condition, is_text}

-- an exact number: its sign, which is false at zero, and its magnitude
pub record Exact : Type 0 where
  pub negative : Bool
  pub size : Magnitude

-- coefficient / 10^scale
unfoldable pub number_exact : Number → Exact
number_exact x =
    record {
      negative = lt_z x.coefficient (pos 0);
      size = record { above = nat_abs x.coefficient; below = 10 ^ x.scale };
    }

-- "an instant as day + ms / 86,400,000" (R55)
unfoldable pub instant_exact : Day → Millisecond → Exact
instant_exact d m = record { negative = false; size = record { above = since_day_zero d.0 m.0; below = 86400000 } }

unfoldable pub condition_exact : Condition → Exact
condition_exact c = record { negative = c.negative; size = record { above = c.millionths; below = 10 ^ 6 } }

abbrev pub zero_exact : Exact
zero_exact = record { negative = false; size = record { above = 0; below = 1 } }

-- a fraction below another
unfoldable pub smaller : Magnitude → Magnitude → Bool
smaller x y = ltb (x.above * y.below) (y.above * x.below)

-- x below y
unfoldable pub less_than : Exact → Exact → Bool
less_than x y =
    cond x.negative (cond y.negative (smaller y.size x.size) true)
    (cond y.negative false (smaller x.size y.size))

-- "it is compared exactly" (R55, R56)
unfoldable pub compared : Comparison → Exact → Exact → Bool
compared equal x y = not (less_than x y) && not (less_than y x)
compared less x y = less_than x y
compared greater x y = less_than y x
compared at_most x y = not (less_than y x)
compared at_least x y = not (less_than x y)
compared unequal x y = less_than x y || less_than y x

-- "N counts the sections that are neither text nor fourth." (R54)
unfoldable pub counted_from : ℕ → List Section → ℕ
counted_from i [] = 0
counted_from i (s ∷ ss) = let r = counted_from (suc i) ss in cond (is_text s || eqb i 3) r (suc r)

unfoldable pub counted : List Section → ℕ
counted ss = counted_from 0 ss

-- why a section takes a value: its own condition, or which fallback; `as_general` where N = 0
pub data Reason : Type 0 where
  own_condition only_section not_below_zero above_zero below_zero the_rest as_general : Reason

-- "N=1, all values. N=2, first: at least 0; second: the rest. N=3, first: above 0; second: below 0; third: the rest." (R57)
unfoldable pub fallback : ℕ → ℕ → Reason
fallback n i =
    cond (eqb n 1) only_section
    (cond (eqb n 2) (cond (eqb i 0) not_below_zero the_rest)
    (cond (eqb i 0) above_zero (cond (eqb i 1) below_zero the_rest)))

-- "A section's own condition rules [..]. Without one [..]" the fallback does
unfoldable pub reason_for : ℕ → ℕ → Section → Reason
reason_for n i s = cond (has_condition s) own_condition (fallback n i)

unfoldable pub condition_holds : Option Condition → Exact → Bool
condition_holds none x = true
condition_holds (some c) x = compared c.comparison x (condition_exact c)

unfoldable pub reason_holds : Reason → Section → Exact → Bool
reason_holds own_condition s x = condition_holds s.condition x
reason_holds only_section s x = true
reason_holds not_below_zero s x = not (less_than x zero_exact)
reason_holds above_zero s x = less_than zero_exact x
reason_holds below_zero s x = less_than x zero_exact
reason_holds the_rest s x = true
reason_holds as_general s x = true

pub data Choice : Type 0 where
  nothing : Choice
  chosen : ℕ → Section → Reason → Choice

-- "First that holds wins" (R58), of the sections from the i-th on that are neither text nor fourth
unfoldable pub choose_from : ℕ → ℕ → List Section → Exact → Choice
choose_from n i [] x = nothing
choose_from n i (s ∷ ss) x =
    let r = choose_from n (suc i) ss x in
    cond (not (is_text s || eqb i 3) && reason_holds (reason_for n i s) s x) (chosen i s (reason_for n i s)) r

-- "N=0" (R59): the first section
unfoldable pub choose_first : List Section → Choice
choose_first [] = nothing
choose_first (s ∷ ss) = chosen 0 s as_general

-- the section of a number or an instant
unfoldable pub choose : List Section → Exact → Choice
choose ss x = let n = counted ss in cond (eqb n 0) (choose_first ss) (choose_from n 0 ss x)

-- "Text goes to the fourth section, else to a text section" (R60)
pub data TextChoice : Type 0 where
  itself : TextChoice
  text_in : ℕ → Section → TextChoice

unfoldable pub fourth_from : ℕ → List Section → TextChoice → TextChoice
fourth_from i [] other = other
fourth_from i (s ∷ ss) other = let r = fourth_from (suc i) ss other in cond (eqb i 3) (text_in i s) r

unfoldable pub text_from : ℕ → List Section → TextChoice
text_from i [] = itself
text_from i (s ∷ ss) = let r = text_from (suc i) ss in cond (is_text s) (text_in i s) r

unfoldable pub choose_text : List Section → TextChoice
choose_text ss = fourth_from 0 ss (text_from 0 ss)
