-- How two numbers stand to each other, and what a comparison makes of it.
-- Assumes nothing.
use Rattle.std.specs.Prelude.{ℕ, ◌+◌, ◌*◌, ◌^◌, Bool, true, false, cond}
use Rattle.std.specs.Ordering.{is_eq, is_ne, is_lt, is_gt, is_le, is_ge, ordering_reverse, ordering_then, nat_cmp}
use Rattle.std.specs.declared.cmp.Ordering.{Ordering}
use Rattle.std.specs.declared.cmp.Ordering.TheVariants.{Less, Equal, Greater}
use Rattle.figures.specs.Rounding.{Magnitude}
use Rattle.formats.specs.Tokens.{Comparison, equal, less, greater, at_most, at_least, unequal}
use Rattle.formats.specs.Choice.{smaller}

-- of two fractions
unfoldable pub order_of : Magnitude → Magnitude → Ordering
order_of x y = cond (smaller x y) Less (cond (smaller y x) Greater Equal)

-- by the whole parts, and by the rests where these are the same
unfoldable pub parts_order : ℕ → ℕ → ℕ → ℕ → Ordering
parts_order whole rest other_whole other_rest = ordering_then (nat_cmp whole other_whole) (nat_cmp rest other_rest)

abbrev pub fraction : ℕ → ℕ → Magnitude
fraction above below = record { above = above; below = below }

-- a whole number and millionths
abbrev pub millionths_size : ℕ → ℕ → Magnitude
millionths_size whole millionths = fraction (whole * 10 ^ 6 + millionths) (10 ^ 6)

-- with the signs, from how the magnitudes stand
abbrev pub signed_order : Bool → Bool → Ordering → Ordering
signed_order true true o = ordering_reverse o
signed_order true false o = Less
signed_order false true o = Greater
signed_order false false o = o

-- whether a comparison holds
unfoldable pub holds_for : Comparison → Ordering → Bool
holds_for equal o = is_eq o
holds_for less o = is_lt o
holds_for greater o = is_gt o
holds_for at_most o = is_le o
holds_for at_least o = is_ge o
holds_for unequal o = is_ne o
