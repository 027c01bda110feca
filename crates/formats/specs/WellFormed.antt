-- What holds of the sections that a code is accepted as, and of those that a table which passes stands for: the table rules that speak
-- of sections (R96 to R100, R102, R103, R106).
-- Assumes nothing.
use Rattle.std.specs.Prelude.{ℕ, ◌+◌, ◌^◌, Bool, true, false, not, ◌&&◌, ◌||◌, List, [], ◌∷◌, length, leb, ltb, eqb}
use Rattle.std.proofs.Math.Option.{Option, none, some}
use Rattle.values.specs.Ranges.{between}
use Rattle.lists.specs.Lists.{every, count, first_failing, is_some}
use Rattle.formats.specs.Tokens.{seconds}
use Rattle.formats.specs.Items.{Item, Condition, Section, number_kind, same_kind, kind_of, item_number, is_fill, is_second, is_part, is_elapsed_of, item_in_range, items_fit, integer_places, Run, no_run, run_of, nearer, first_run, settled_item}
use Rattle.formats.specs.Where.{implies, stands_at}
use Rattle.formats.specs.Limits.{section_within}

-- a whole part to 999,999,999 and six decimals; the sign is false at zero
unfoldable pub condition_in_range : Option Condition → Bool
condition_in_range none = true
condition_in_range (some c) = ltb c.millionths (10 ^ 15) && implies c.negative (ltb 0 c.millionths)

-- "at most one fill a section" (R99)
unfoldable pub one_fill : List Item → Bool
one_fill is = leb (count is_fill is) 1

-- seconds, elapsed or not
unfoldable pub is_seconds : Item → Bool
is_seconds i = is_second i || is_elapsed_of seconds i

-- a part of a second stands directly behind seconds (R99); behind_seconds: the item just before is seconds
unfoldable pub parts_from : Bool → List Item → Bool
parts_from behind_seconds [] = true
parts_from behind_seconds (i ∷ is) = let r = parts_from (is_seconds i) is in implies (is_part i) behind_seconds && r

unfoldable pub parts_follow : List Item → Bool
parts_follow is = parts_from false is

-- every m run of 1 or 2 is a month or minutes as the rule for m says (R103): the rule changes no item's number
unfoldable pub settled_test : Run → List Item → Bool
settled_test earlier [] = true
settled_test earlier (i ∷ is) =
    let r = settled_test (nearer (run_of i) earlier) is in
    eqb (item_number (settled_item earlier (first_run is) i)) (item_number i) && r

unfoldable pub is_settled : List Item → Bool
is_settled is = settled_test no_run is

-- "grouping only with two integer places" (R102), and only of a number section (R131)
unfoldable pub grouping_fits : Section → Bool
grouping_fits s = implies s.grouped (same_kind (kind_of s) number_kind && leb 2 (integer_places s.items))

-- only a number section divides
unfoldable pub dividing_fits : Section → Bool
dividing_fits s = same_kind (kind_of s) number_kind || eqb s.thousands 0

-- the rules for one section that do not speak of where it stands, whether a code or a table gives it: "items, kinds, [..] places and
-- limits as above, at most one fill a section; [..] grouping only with two integer places; m runs of 1 or 2 are item 12 or 15 as the rule
-- for m says" (R99, R100, R102, R103)
unfoldable pub section_fits : Section → Bool
section_fits s =
    items_fit s.items
    && parts_follow s.items
    && one_fill s.items
    && is_settled s.items
    && grouping_fits s
    && section_within s

-- a section that fits, with its numbers in range
unfoldable pub section_formed : Section → Bool
section_formed s =
    leb s.colour 56
    && condition_in_range s.condition
    && every item_in_range s.items
    && dividing_fits s
    && section_fits s

unfoldable pub items_in_all : List Section → ℕ
items_in_all [] = 0
items_in_all (s ∷ ss) = length s.items + items_in_all ss

unfoldable pub all_stand : List Section → Bool
all_stand ss = not (is_some (first_failing (stands_at (length ss)) 0 ss))

-- the rules for all sections together, whether a code or a table gives them: "at most 254 items in all; [..] where sections may stand" (R96, R100)
abbrev pub sections_stand : List Section → Bool
sections_stand ss = leb (items_in_all ss) 254 && all_stand ss

-- one to four sections, each formed (R95)
unfoldable pub well_formed : List Section → Bool
well_formed ss = between 1 4 (length ss) && every section_formed ss && sections_stand ss
