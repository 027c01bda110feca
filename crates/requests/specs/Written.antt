-- Kinds and values as they are written (R119 to R122).
-- "kind is number, instant or text; instant as `day/ms`; a number as an optional minus, digits, and optionally a point and
-- digits, whose count is the scale". "A well-formed value too large is 9": that is the answer of its reading, since it is out of
-- range. A number that is written larger than any range is read as a limit that is out of range too.
-- Assumes nothing.
use Rattle.std.specs.Prelude.{ℕ, suc, ◌^◌, min, Bool, true, false, cond, not, ◌&&◌, ◌||◌, List, [], ◌++◌, map, length, take, drop, eqb, ℤ, pos, neg_ℤ, Option, Some, None}
use Rattle.values.specs.declared.Value.{Value}
use Rattle.values.specs.declared.Value.TheVariants as value
use Rattle.lists.specs.Lists.{every, is_empty}
use Rattle.calendar.specs.Names.{units}
use Rattle.formats.specs.Tokens.{before, starts_with, same, is_digit, digit_of, number_from}
use Rattle.requests.specs.declared.written.Sort.{Sort}
use Rattle.requests.specs.declared.written.Sort.TheVariants as sort

-- "kind is number, instant or text"
unfoldable pub sort_of : List ℕ → Option Sort
sort_of us =
    cond (same (units "number") us) (Some sort.Number)
    (cond (same (units "instant") us) (Some sort.Instant)
    (cond (same (units "text") us) (Some sort.Text) None))

abbrev pub point : ℕ
point = 46

abbrev pub solidus : ℕ
solidus = 47

-- "digits": one or more
unfoldable pub is_digits : List ℕ → Bool
is_digits us = not (is_empty us) && every is_digit us

-- the number that digits write, or the limit where it is larger; zeros in front do not count
unfoldable pub numeral_up_to : ℕ → List ℕ → ℕ
numeral_up_to limit us = min (number_from 0 (map digit_of us)) limit

-- a coefficient of the first limit is out of range, and a day and a millisecond of the second (`limits-out`), as all that are larger are
abbrev pub coefficient_limit : ℕ
coefficient_limit = 10 ^ 15

abbrev pub count_limit : ℕ
count_limit = 10 ^ 9

-- `-0` is the number 0
unfoldable pub signed_by : Bool → ℕ → ℤ
signed_by negative n = cond negative (neg_ℤ (pos n)) (pos n)

-- "digits, and optionally a point and digits, whose count is the scale", with the sign in front
unfoldable pub unsigned_of : Bool → List ℕ → Option Value
unsigned_of negative us =
    let n = before point us in
    let whole = take n us in
    let decimals = drop (suc n) us in
    cond (is_digits whole && (eqb n (length us) || is_digits decimals))
    (Some (value.Number (record {
      coefficient = signed_by negative (numeral_up_to coefficient_limit (whole ++ decimals));
      scale = length decimals;
    })))
    None

-- "an optional minus"
unfoldable pub number_of : List ℕ → Option Value
number_of us = cond (starts_with (units "-") us) (unsigned_of true (drop 1 us)) (unsigned_of false us)

-- "instant as `day/ms`"
unfoldable pub instant_of : List ℕ → Option Value
instant_of us =
    let n = before solidus us in
    let day = take n us in
    let millisecond = drop (suc n) us in
    cond (is_digits day && is_digits millisecond)
    (Some (value.Instant (record { 0 = numeral_up_to count_limit day }) (record { 0 = numeral_up_to count_limit millisecond })))
    None

-- the value that a line of this kind writes, where it is well formed; any text is
unfoldable pub value_of : Sort → List ℕ → Option Value
value_of sort.Number us = number_of us
value_of sort.Instant us = instant_of us
value_of sort.Text us = Some value.Text

-- the text beside the value
unfoldable pub text_of : Sort → List ℕ → List ℕ
text_of sort.Number us = []
text_of sort.Instant us = []
text_of sort.Text us = us
