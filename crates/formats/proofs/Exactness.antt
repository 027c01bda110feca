-- Exact or not: by which rounding a section of each kind tells it; the number read off the units of a number is the exact one where the rounded one is;
-- the finest span of items, and that they show nothing finer.
-- Assumes nothing.
use mathlib.Core.Path.{◌≡◌, refl, sym, ap, ap₂, ◌∙◌}
use Prim.Native.Nat.{ℕ, zero, suc, ◌+◌, ◌-◌, ◌*◌, ◌/◌, ◌%◌, ◌^◌, ◌≤◌, ◌<◌, min}
use native.Mathlib.Nat.{div-add-mod', mul_right_comm}
use native.Mathlib.Omega.{arith}
use mathlib.Core.Bool.{Bool, true, false, cond, ◌&&◌, ◌||◌, true≢false}
use mathlib.Core.List.{List, [], ◌∷◌}
use borrow.Author.Tests.{eq-eqb, leb-true, leb-false}
use lib.Dec.{eqb, leb}
use lib.IntN.{nat_abs}
use Rattle.values.specs.declared.Number.{Number}
use Rattle.values.specs.declared.Day.{Day}
use Rattle.values.specs.declared.Millisecond.{Millisecond}
use Rattle.lists.specs.Lists.{any, count, All}
use Rattle.lists.proofs.Bools.{by_cases, cond_both}
use Rattle.figures.specs.Digits.{digit_units, numeral}
use Rattle.figures.specs.Rounding.{Magnitude, scaled, rounded, rounds_exactly}
use Rattle.figures.specs.General.{general_exactly}
use Rattle.figures.proofs.Tens.{ten-pos}
use Rattle.figures.proofs.Exactly.{eqb_same, eqb-scale}
use Rattle.exponents.specs.Exponent.{mantissa_exactly}
use Rattle.fractions.specs.Fractions.{mixed_exactly}
use Rattle.calendar.specs.Clock.{clock_of, since_day_zero, elapsed_hours, elapsed_minutes, elapsed_seconds}
use Rattle.formats.specs.Tokens.{Elapsed, hours, minutes, seconds, is_digit, digit_of}
use Rattle.formats.specs.Items.{Item, elapsed, is_half, Section, scientific_kind, fraction_kind, number_kind, literal_kind, kind_of, is_percent, integer_places, decimal_places}
use Rattle.formats.specs.Choice.{number_exact}
use Rattle.formats.specs.Text.{hour_shown, place_units, point_units, part_units, elapsed_count, item_units}
use Rattle.formats.specs.Reading.{instant_context, shows_general, section_fraction, number_exactly, item_span, finest_span}
use Rattle.formats.specs.Figures.{read_from, units_read, Counts, same_number, FinestOf}
use Rattle.formats.proofs.Each.{by-item}

-- units are read as no fraction over 0
read_pos : (behind : Bool) (v w : ℕ) (us : List ℕ) → 0 < w → 0 < (read_from behind v w us).below
unfolding read_from
read_pos behind v w [] pos = pos
read_pos behind v w (u ∷ us) pos =
    read_pos (behind || eqb u 46) (cond (is_digit u) (v * 10 + digit_of u) v) (cond (is_digit u && behind) (w * 10) w) us
    (cond_both (λ (n : ℕ). 0 < n) (is_digit u && behind) (omega arith) pos)

pub read-exactly : (m : Magnitude) (d : ℕ) (us : List ℕ) → Counts (units_read us) (rounded m d) → rounds_exactly m d ≡ same_number (units_read us) m
unfolding rounds_exactly units_read
read-exactly m d us e =
    let r : Magnitude = units_read us in
    let n : ℕ = rounded m d in
    let t : ℕ = 10 ^ 15 in
    sym (eqb-scale (n * m.below) (m.above * t) r.below (read_pos false 0 1 us (omega arith)))
    ∙ ap₂ eqb
    (mul_right_comm n m.below r.below ∙ ap (λ (k : ℕ). k * m.below) (sym e) ∙ mul_right_comm r.above t m.below)
    (mul_right_comm m.above t r.below)
    ∙ eqb-scale (r.above * m.below) (m.above * r.below) t (ten-pos 15)

-- by the kind of the section
module _ (s : Section) (x : Number) where
  pub exactly-general : shows_general (kind_of s) ≡ true → number_exactly s x ≡ general_exactly (number_exact x).size
  unfolding number_exactly
  exactly-general shows = rw shows

  pub exactly-scientific : kind_of s ≡ scientific_kind
      → number_exactly s x ≡ mantissa_exactly (number_exact x).size (integer_places s.items) (decimal_places s.items)
  unfolding number_exactly shows_general
  exactly-scientific kind = rw kind

  pub exactly-fraction : kind_of s ≡ fraction_kind → number_exactly s x ≡ mixed_exactly (number_exact x).size (section_fraction s x)
  unfolding number_exactly shows_general
  exactly-fraction kind = rw kind

  pub exactly-number : kind_of s ≡ number_kind
      → number_exactly s x
      ≡ rounds_exactly (scaled (nat_abs x.coefficient) x.scale (count is_percent s.items) s.thousands) (decimal_places s.items)
  unfolding number_exactly shows_general
  exactly-number kind = rw kind

  pub exactly-literal : kind_of s ≡ literal_kind → number_exactly s x ≡ true
  unfolding number_exactly shows_general
  exactly-literal kind = rw kind

-- what is not below a bound is not below a lower one
all_above : (f g : ℕ) → f ≤ g → (is : List Item) → All (λ (i : Item). g ≤ item_span i) is → All (λ (i : Item). f ≤ item_span i) is
all_above f g h [] t = tt
all_above f g h (i ∷ is) (a, t) = (omega arith, all_above f g h is t)

-- one more item is finer than those behind it, or not
finer-in : (i : Item) (is : List Item) (f : ℕ) → FinestOf is f → FinestOf (i ∷ is) (min (item_span i) f)
unfolding any
finer-in i is f r =
    let a : ℕ = item_span i in
    by_cases (leb a f)
    (λ h.
    let le : a ≤ f = leb-true a f h in
    let e : min a f ≡ a = omega arith in
    rw e (record { least = (omega arith, all_above a f le is r.least); up_to_day = omega (arith, r.up_to_day); one = rw (eq-eqb a a refl) }))
    (λ h.
    let lt : f < a = leb-false a f h in
    let e : min a f ≡ f = omega arith in
    rw e (record { least = (omega arith, r.least); up_to_day = r.up_to_day; one = by_cases (eqb f a) (λ t. rw t) (λ t. rw t r.one) }))

pub finest-of : (is : List Item) → FinestOf is (finest_span is)
unfolding finest_span any
finest-of [] = record { least = tt; up_to_day = omega arith; one = refl }
finest-of (i ∷ is) = finer-in i is (finest_span is) (finest-of is)

-- nothing is left behind whole units where cutting to them changes nothing
pub cut-exactly : (m span : ℕ) → eqb (m % span) 0 ≡ eqb (m / span * span) m
cut-exactly m span =
    let whole = div-add-mod' m span in
    eqb_same {a = m % span} {b = 0} {c = m / span * span} {d = m} (λ e. omega (arith, whole)) (λ e. omega (arith, whole))

-- a millisecond cut to whole units
abbrev pub cut_to : ℕ → Millisecond → Millisecond
cut_to span m = record { 0 = m.0 / span * span }

-- the thousandths without their last k digits
part_cut : (k m : ℕ) → k ≤ 3 → m % 1000 / 10 ^ k ≡ m / 10 ^ k * 10 ^ k % 1000 / 10 ^ k
part_cut zero m h = omega arith
part_cut (suc zero) m h = omega arith
part_cut (suc (suc zero)) m h = omega arith
part_cut (suc (suc (suc zero))) m h = omega arith
part_cut (suc (suc (suc (suc k)))) m h = absurd (omega arith)

elapsed-cut : (e : Elapsed) (n d m : ℕ)
    → elapsed_count e (since_day_zero d m) ≡ elapsed_count e (since_day_zero d (m / item_span (elapsed e n) * item_span (elapsed e n)))
unfolding elapsed_count since_day_zero item_span elapsed_hours elapsed_minutes elapsed_seconds
elapsed-cut hours n d m = omega arith
elapsed-cut minutes n d m = omega arith
elapsed-cut seconds n d m = omega arith

-- no item but a half-day mark shows a part finer than its span
pub nothing-finer : (s : Section) (d : Day) (m : Millisecond) (q : ℕ) (i : Item) → is_half i ≡ false
    → item_units (instant_context s d m) q i ≡ item_units (instant_context s d (cut_to (item_span i) m)) q i
unfolding item_units place_units point_units part_units instant_context clock_of item_span
nothing-finer s d m q =
    by-item (λ (i : Item). is_half i ≡ false → item_units (instant_context s d m) q i ≡ item_units (instant_context s d (cut_to (item_span i) m)) q i)
    (λ u e. refl) (λ u e. refl) (λ u e. refl) (λ p e. refl) (λ e. refl) (λ e. refl) (λ e. refl) (λ e. refl) (λ n e. refl) (λ n e. refl) (λ n e. refl)
    (λ n e. ap (λ (h : ℕ). numeral n (hour_shown (any is_half s.items) h)) (omega arith))
    (λ n e. ap (numeral n) (omega arith))
    (λ n e. ap (numeral n) (omega arith))
    (λ n e. ap (λ (k : ℕ). 46 ∷ digit_units n k) (part_cut (3 - n) m.0 (omega arith)))
    (λ el n e. ap (numeral n) (elapsed-cut el n d.0 m.0))
    (λ h e. absurd (true≢false e))
    (λ x e. refl) (λ e. refl) (λ n e. refl)
