-- The search: one side moves towards the other and stays a neighbour; its numbers are small, and each turn raises the denominators.
-- Assumes nothing.
use mathlib.Core.Path.{◌≡◌}
use mathlib.Core.Logic.{⊎_elim}
use Prim.Native.Nat.{ℕ, ◌+◌, ◌-◌, ◌*◌, ◌/◌, ◌^◌, ◌≤◌, ◌<◌, min}
use native.Mathlib.Nat.{le_trans, mul-le-mul_left, mul-le-mul_right, mul-lt-mul_of_pos_right, lt_of_mul-lt-mul_right, le_of_mul-le-mul_left, min-le_left, min-le_right, le-min, div-mul-le_self, div-lt_iff_lt-mul, le-div_iff_mul-le}
use native.Mathlib.Omega.{arith}
use Rattle.figures.specs.Rounding.{Magnitude}
use Rattle.figures.proofs.Filling.{lt-or-le}
use Rattle.fractions.specs.declared.Fraction.{Fraction}
use Rattle.fractions.specs.declared.Side.{Side}
use Rattle.fractions.specs.Fractions.{nearest_up_to}
use Rattle.fractions.specs.Nearest.{NearestFraction}
use Rattle.fractions.specs.Moves.{Between, steps_to, stepped, moved_to, Movable}
use Rattle.fractions.proofs.Scan.{nearest-fraction}
use Rattle.fractions.proofs.Unique.{nearest-unique}
use Rattle.fractions.proofs.Between.{rests, low-stepped, high-stepped}

-- the nearest fraction, however it is found, is that of the scan
pub is-nearest : {x : Magnitude} {most : ℕ} {f : Fraction} → 0 < x.below → 2 ≤ most → NearestFraction x most f → f ≡ nearest_up_to most x
is-nearest {x} {most} pos two n = nearest-unique pos two n (nearest-fraction x pos most (omega arith))

-- the steps as the code finds them
module _ (wanted room step : ℕ) (one : 1 ≤ step) where
  pub steps-wanted : wanted * step ≤ room → wanted ≡ min wanted (room / step)
  steps-wanted h = omega (arith, (le-div_iff_mul-le {k = step} {x = wanted} {y = room} one).1 h)

  pub steps-room : room < wanted * step → room / step ≡ min wanted (room / step)
  steps-room h = omega (arith, (div-lt_iff_lt-mul {k = step} {x = room} {y = wanted} one).1 h)

module _ (near far : Side) (most : ℕ) where
  steps-rest : steps_to near far most * far.rest ≤ near.rest
  unfolding steps_to
  steps-rest =
      le_trans (mul-le-mul_right far.rest (min-le_left (near.rest / far.rest) ((most - near.below) / far.below))) (div-mul-le_self near.rest far.rest)

  steps-below : near.below ≤ most → near.below + steps_to near far most * far.below ≤ most
  unfolding steps_to
  steps-below h =
      omega (
        arith,
        mul-le-mul_right far.below (min-le_right (near.rest / far.rest) ((most - near.below) / far.below)),
        div-mul-le_self (most - near.below) far.below,
      )

  steps-some : 1 ≤ far.rest → 1 ≤ far.below → far.rest ≤ near.rest → near.below + far.below ≤ most → 1 ≤ steps_to near far most
  unfolding steps_to
  steps-some rest one h g =
      le-min ((le-div_iff_mul-le {k = far.rest} {x = 1} {y = near.rest} rest).1 (omega arith))
      ((le-div_iff_mul-le {k = far.below} {x = 1} {y = most - near.below} one).1 (omega arith))

-- the numbers of a move
pub record Small (near far : Side) (k : ℕ) : Type 0 where
  pub above : near.above + k * far.above ≤ 999
  pub below : near.below + k * far.below ≤ 999
  pub rest : k * far.rest ≤ near.rest
  pub less : near.rest ≤ 10 ^ 15

pub moved-small : {near far : Side} {most k : ℕ} → Movable near far most → k ≡ steps_to near far most → Small near far k
moved-small {near} {far} {most} {k} m e =
    let below : near.below + k * far.below ≤ most = rw e (steps-below near far most m.near_up_to) in
    let rest : k * far.rest ≤ near.rest = rw e (steps-rest near far most) in
    omega (arith, mul-le-mul_left k m.far_proper)

module _ {x : Magnitude} {most : ℕ} {low high : Side} (b : Between x most low high) where
  low-moved : Between x most (moved_to low high most) high
  unfolding moved_to
  low-moved = low-stepped b (steps_to low high most) (steps-rest low high most) (steps-below low high most b.low_up_to)

  high-moved : Between x most low (moved_to high low most)
  unfolding moved_to
  high-moved = high-stepped b (steps_to high low most) (steps-rest high low most) (steps-below high low most b.high_up_to)

  pub rests-small : x.below ≤ 10 ^ 15 → (low.rest * high.below ≤ 10 ^ 15) × (high.rest * low.below ≤ 10 ^ 15)
  rests-small h = omega (arith, rests b)

  module _ (part : x.above < x.below) (small : x.below ≤ 10 ^ 15) (few : most ≤ 999) where
    low-proper : low.above < low.below
    low-proper = lt_of_mul-lt-mul_right x.below {m = low.above} {n = low.below} (omega (arith, b.low_rest, mul-lt-mul_of_pos_right part b.low_from))

    high-proper : high.above ≤ high.below
    high-proper =
        le_of_mul-le-mul_left {m = high.above} {n = high.below} {k = low.below}
        (omega (arith, b.unit, b.high_from, mul-le-mul_right high.below low-proper)) b.low_from

    pub low-movable : 1 ≤ high.rest → Movable low high most
    low-movable rest = omega (arith, low-proper, high-proper, rests b, mul-le-mul_left low.rest b.high_from)

    pub high-movable : 1 ≤ low.rest → Movable high low most
    high-movable rest = omega (arith, low-proper, high-proper, rests b, mul-le-mul_left high.rest b.low_from)

-- a move never lowers the denominator, and raises it where a step is taken
moved-rises : (near far : Side) (most : ℕ) → 1 ≤ far.below → near.below + steps_to near far most ≤ (moved_to near far most).below
unfolding moved_to stepped
moved-rises near far most one = omega (arith, mul-le-mul_left (steps_to near far most) one)

moved-rest : (near far : Side) (most : ℕ) → (moved_to near far most).rest ≤ near.rest
unfolding moved_to stepped
moved-rest near far most = omega arith

-- the search begins between 0 and 1
pub start_between : {r s most : ℕ} → r < s → 1 ≤ most
    → Between (record { above = r; below = s }) most (record { above = 0; below = 1; rest = r }) (record { above = 1; below = 1; rest = s - r })
start_between h one = omega arith

-- a turn: low moves, then high
module _ {x : Magnitude} {most : ℕ} {low high next : Side} (b : Between x most low high) (e : next ≡ moved_to low high most) where
  pub next-between : Between x most next high
  next-between = rw e (low-moved b)

  module _ {last : Side} (f : last ≡ moved_to high next most) where
    pub turn-between : Between x most next last
    turn-between = rw f (high-moved next-between)

    -- one of the two moves
    pub turn-rises : low.below + high.below ≤ most → 1 ≤ high.rest → 1 ≤ next.rest → low.below + high.below < next.below + last.below
    turn-rises room rest left =
        let first : low.below + steps_to low high most ≤ next.below = rw e (moved-rises low high most b.high_from) in
        let second : high.below + steps_to high next most ≤ last.below = rw f (moved-rises high next most next-between.low_from) in
        let fell : next.rest ≤ low.rest = rw e (moved-rest low high most) in
        ⊎_elim
        (λ (less : low.rest < high.rest).
        ⊎_elim (λ (h : most < high.below + next.below). omega arith)
        (λ (h : high.below + next.below ≤ most). omega (arith, steps-some high next most left next-between.low_from (omega arith) h))
        (lt-or-le most (high.below + next.below)))
        (λ (h : high.rest ≤ low.rest). omega (arith, steps-some low high most rest b.high_from h room))
        (lt-or-le low.rest high.rest)
