-- Fraction sections (R133, R137): the nearest fraction, the nearest numerator over a fixed number, and the carry.
-- Assumes nothing.
use Rattle.std.specs.Prelude.{ℕ, zero, suc, ◌+◌, ◌-◌, ◌*◌, ◌/◌, ◌%◌, ◌^◌, Bool, cond, ltb, eqb}
use Rattle.figures.specs.Rounding.{Magnitude, nearest}
use Rattle.fractions.specs.declared.Fraction.{Fraction}
use Rattle.fractions.specs.declared.Mixed.{Mixed}

-- the fraction over d: "With a fixed number, the nearest numerator, halves away from zero", which is up, since the sign stands apart
unfoldable pub over : ℕ → Magnitude → Fraction
over d x = record { above = nearest (x.above * d) x.below; below = d }

-- how far f is from x, times both denominators
unfoldable pub apart : Magnitude → Fraction → ℕ
apart x f = (f.above * x.below - x.above * f.below) + (x.above * f.below - f.above * x.below)

-- f is nearer to x than g
unfoldable pub nearer : Magnitude → Fraction → Fraction → Bool
nearer x f g = ltb (apart x f * g.below) (apart x g * f.below)

-- the denominators from 1 on are tried in rising order, and one is taken where it is nearer than the best before it
unfoldable pub nearest_up_to : ℕ → Magnitude → Fraction
nearest_up_to zero x = over 1 x
nearest_up_to (suc k) x = let r = nearest_up_to k x in cond (nearer x (over (suc k) x) r) (over (suc k) x) r

-- "With q places below the denominator is any number from 1 to 10^q - 1, and the shown fraction is a nearest one; of equally near ones the smaller
-- denominator."
unfoldable pub nearest_fraction : ℕ → Magnitude → Fraction
nearest_fraction places x = nearest_up_to (10 ^ places - 1) x

-- the part of x behind the point
unfoldable pub behind_point : Magnitude → Magnitude
behind_point x = record { above = x.above % x.below; below = x.below }

-- "If the fraction rounds to 1 it is carried into the integer part, where there is one": nothing is left above
unfoldable pub carried : ℕ → Fraction → Mixed
carried whole f =
    cond (eqb f.above f.below) (record { whole = whole + 1; above = 0; below = f.below })
    (record { whole = whole; above = f.above; below = f.below })

-- without integer places nothing stands before the fraction
unfoldable pub unparted : Fraction → Mixed
unparted f = record { whole = 0; above = f.above; below = f.below }

-- x as its whole number and the fraction picked for the part behind the point, or as the fraction picked for x whole
unfoldable pub fraction_of : Bool → (Magnitude → Fraction) → Magnitude → Mixed
fraction_of parted pick x = cond parted (carried (x.above / x.below) (pick (behind_point x))) (unparted (pick x))

-- "a fraction is exact when it and the integer part shown make up the number, sign aside" (R137)
unfoldable pub mixed_exactly : Magnitude → Mixed → Bool
mixed_exactly x f = eqb ((f.whole * f.below + f.above) * x.below) (x.above * f.below)
