-- A value by its range and its sort.
-- Assumes nothing.
use Prim.Native.Nat.{ℕ, ◌<◌, ◌≤◌, ◌^◌}
use native.Mathlib.Omega.{arith}
use mathlib.Core.Path.{◌≡◌, ap, ◌∙◌}
use mathlib.Core.Bool.{true, false}
use mathlib.Core.List.{List}
use lib.ListN.{get_or}
use borrow.Author.Tests.{le-leb, lt-leb}
use Rattle.values.specs.declared.Number.{Number}
use Rattle.values.specs.declared.Day.{Day}
use Rattle.values.specs.declared.Millisecond.{Millisecond}
use Rattle.values.specs.declared.Value.{Value}
use Rattle.values.specs.declared.Ask.{Ask}
use Rattle.values.specs.Ranges.{day_greatest, millisecond_greatest, instant_in_range}
use Rattle.figures.specs.declared.Signed.{Signed}
use Rattle.figures.specs.Sign.{signed_of, taken_of}
use Rattle.figures.proofs.Sign.{in-says, range-says}
use Rattle.formats.specs.Choice.{Exact, number_exact, instant_exact, Reason, nothing, chosen, choose}
use Rattle.formats.specs.Reading.{Reading, reading}
use Rattle.tables.specs.Decode.{decode}
use Rattle.table_words.specs.declared.TableSection.{TableSection}
use Rattle.table_words.specs.Tabled.{sections_of, section_of}
use Rattle.choosing.specs.declared.sought.Sought.{Sought}
use Rattle.std.specs.Prelude.{Some, None}
use Rattle.choosing.specs.Seeking.{parts_of_one, exact_of, AsksInstant, found_of}
use Rattle.choosing.proofs.Asking.{instant-exact}
use Rattle.choosing.proofs.Finding.{found_nothing, found_at}
use Rattle.planning.specs.Plan.{value_reading}
use Rattle.planning.specs.Number.{AsksNumber}

-- what is asked for is read by its value
pub value-reading : (ws text : List ℕ) (v : Value) (ask : Ask) → ask.value ≡ v → reading (decode ws) ask text ≡ value_reading ws v text
unfolding reading
value-reading ws text v ask e = ap {B = ℕ → Reading} (λ (u : Value) size. value_reading ws u text size) e

-- the range of an instant
module _ (d : Day) (m : Millisecond) where
  pub day-beyond : day_greatest < d.0 → instant_in_range d m ≡ false
  day-beyond h = rw (le-leb 0 d.0 (omega arith), lt-leb d.0 day_greatest h)

  pub millisecond-beyond : d.0 ≤ day_greatest → millisecond_greatest < m.0 → instant_in_range d m ≡ false
  millisecond-beyond h k = rw (le-leb 0 d.0 (omega arith), le-leb d.0 day_greatest h, le-leb 0 m.0 (omega arith), lt-leb m.0 millisecond_greatest k)

  pub instant-within : d.0 ≤ day_greatest → m.0 ≤ millisecond_greatest → instant_in_range d m ≡ true
  instant-within h k = rw (le-leb 0 d.0 (omega arith), le-leb d.0 day_greatest h, le-leb 0 m.0 (omega arith), le-leb m.0 millisecond_greatest k)

-- the section that was found for a number or an instant
pub found_within : (ws : List ℕ) (x : Exact) (i : ℕ) → Some i ≡ found_of (choose (decode ws) x) → i < get_or ws 0 0
found_within ws x i e = found_at ws x i e (λ why h l. l)

module _ (ws : List ℕ) {x y : Exact} (e : x ≡ y) where
  pub none_found : None ≡ found_of (choose (decode ws) y) → choose (decode ws) x ≡ nothing
  none_found h = ap (choose (decode ws)) e ∙ found_nothing ws y h

pub some-found : {P : Type 0} (z : TableSection) {x y : Exact} → x ≡ y → Some z.place ≡ found_of (choose (sections_of z.table) y)
    → ((why : Reason) → choose (sections_of z.table) x ≡ chosen z.place (section_of z) why → P) → P
some-found z e h f = found_at _ _ z.place h (λ why g l. f why (ap (choose (sections_of z.table)) e ∙ g))

pub number-exact : {s : Sought} (v : Signed) (x : Number) → AsksNumber v s → v ≡ signed_of x → number_exact x ≡ exact_of s
unfolding number_exact exact_of parts_of_one signed_of
number-exact v x a ev =
    let n : v.negative ≡ (signed_of x).negative = ap (λ (w : Signed). w.negative) ev in
    let m : v.magnitude ≡ (signed_of x).magnitude = ap (λ (w : Signed). w.magnitude) ev in
    let k : v.scale ≡ (signed_of x).scale = ap (λ (w : Signed). w.scale) ev in
    rw (a.negative, a.instant, a.above, a.scale, n, m, k)

pub sought-exact : {s : Sought} (d : Day) (m : Millisecond) → AsksInstant d m s → instant_exact d m ≡ exact_of s
sought-exact d m a = instant-exact d m a

pub taken-small : (x : Number) (v : Signed) → taken_of x ≡ Some v → (v.magnitude < 10 ^ 15) × (v.scale ≤ 15)
taken-small x v e = let s = in-says x v e in rw s.1 (range-says x s.0)
