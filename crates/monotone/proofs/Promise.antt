-- More fish never looks like fewer (R147): the theorems, of what is read off a plain code.
-- Callers have them by their contracts: `preview` returns what `code_reading` gives, `show` what `table_reading` gives, and for the table of a code the two are
-- one (`table-of-code`); the calls for C and Rust return what these do.
-- Assumes nothing.
use mathlib.Core.Path.{◌≡◌, refl, sym, ap, subst, ◌∙◌}
use Prim.Native.Nat.{ℕ, ◌-◌, ◌*◌, ◌^◌, ◌≤◌, ◌<◌}
use native.Mathlib.Nat.{mul-le-mul_right}
use native.Mathlib.Omega.{arith}
use mathlib.Core.Bool.{cond}
use mathlib.Core.List.{List}
use lib.Dec.{T, leb}
use lib.IntN.{nat_abs}
use lib.ListN.{length}
use Rattle.answers.specs.declared.Refusal.TheVariants as answer
use Rattle.values.specs.declared.Number.{Number}
use Rattle.values.specs.declared.Value.TheVariants as value
use Rattle.values.specs.declared.Ask.{Ask}
use Rattle.values.specs.Ranges.{number_in_range, asked}
use Rattle.lists.proofs.Bools.{by_cases, true-T, T_true}
use Rattle.figures.specs.Rounding.{Magnitude, scaled, nearest, rounded}
use Rattle.figures.proofs.Tens.{ten-pos}
use Rattle.formats.specs.Tokens.{at_most}
use Rattle.formats.specs.Items.{Section, decimal_places}
use Rattle.formats.specs.Accept.{sections_in}
use Rattle.formats.specs.Choice.{Exact, number_exact, compared}
use Rattle.formats.specs.Reading.{Look, refused, shown, within, reading, read_accepted, code_reading}
use Rattle.formats.specs.Figures.{Counts}
use Rattle.formats.proofs.Shown.{scaled-pos}
use Rattle.monotone.specs.Codes.{plain_code, section_unit, first_unit, last_unit}
use Rattle.monotone.specs.Seen.{signed, Shows, NeverFewer, differ_within, AlwaysShown}
use Rattle.monotone.proofs.Plain.{PlainCode, plain_code_lem}
use Rattle.monotone.proofs.Order.{rounded-monotone, same-factor, counts_same, counts-above, signs-same, scaled-parts, figures-order, RoundsTo, rounds-to, unit-apart}
use Rattle.monotone.proofs.Texts.{plain_look, reading-plain, SeenAs, number-seen}

-- what is shown is the look itself
within-look : (room : ℕ) (l look : Look) → within room l ≡ shown look → l ≡ look
unfolding within
within-look room l look e =
    by_cases (leb (length l.text) room) (λ h. let f : shown l ≡ shown look = rw h at e in cc)
    (λ h. let f : refused answer.TextRoom ≡ shown look = rw h at e in let z : ◌≡◌ {A = ℕ} 0 1 = cc in absurd (omega arith))

module _ (code : List ℕ) (c : PlainCode code) where
  read_plain : (ask : Ask) (x : Number) (text : List ℕ) (room : ℕ) → ask.value ≡ value.Number x
      → code_reading code ask text room
      ≡ cond (number_in_range x) (within room (plain_look c.section c.plain x)) (refused answer.Range)
  unfolding code_reading read_accepted
  read_plain ask x text room is_number = rw c.accepted (reading-plain c.section c.plain ask x text room is_number)

  -- what is seen of a number that is shown
  number-shown : {x : Number} {text : List ℕ} → Shows code x text → SeenAs c.section x text
  number-shown {x} h =
      let f = sym (read_plain h.ask x h.lent h.room h.asks_for) ∙ h.gives in
      by_cases (number_in_range x)
      (λ r.
      subst (SeenAs c.section x)
      (ap (λ (l : Look). l.text) (within-look h.room (plain_look c.section c.plain x) h.look (rw r at f)) ∙ h.seen)
      (number-seen c.section c.plain c.formed x (true-T r)))
      (λ r. let g : refused answer.Range ≡ shown h.look = rw r at f in let z : ◌≡◌ {A = ℕ} 0 1 = cc in absurd (omega arith))

-- numbers in order round in order
seen-order : (s : Section) (x y : Number) (t u : List ℕ) (a : SeenAs s x t) (b : SeenAs s y u)
    → nat_abs x.coefficient * 10 ^ y.scale ≤ nat_abs y.coefficient * 10 ^ x.scale → a.number ≤ b.number
unfolding scaled
seen-order s x y t u a b le =
    let d : ℕ = decimal_places s.items in
    let first : Magnitude = scaled (nat_abs x.coefficient) x.scale 0 s.thousands in
    let second : Magnitude = scaled (nat_abs y.coefficient) y.scale 0 s.thousands in
    let order : rounded first d ≤ rounded second d =
    rounded-monotone first second d (scaled-pos (nat_abs x.coefficient) x.scale 0 s.thousands) (scaled-pos (nat_abs y.coefficient) y.scale 0 s.thousands)
    (omega (arith, mul-le-mul_right (1000 ^ s.thousands) le)) in
    omega (arith, a.rounds, b.rounds)

-- "if one number is at most another, the figure read off the first text is at most that read off the second"
pub never-fewer : (code : List ℕ) (x y : Number) (first second : List ℕ) → T (plain_code code) → Shows code x first → Shows code y second
    → T (compared at_most (number_exact x) (number_exact y)) → NeverFewer first second
unfolding number_exact
never-fewer code x y first second plain h g le =
    let c : PlainCode code = plain_code_lem code plain in
    let a : SeenAs c.section x first = number-shown code c h in
    let b : SeenAs c.section y second = number-shown code c g in
    record {
      low = signed (number_exact x).negative a.size;
      high = signed (number_exact y).negative b.size;
      of_first = a.figure;
      of_second = b.figure;
      order =
          figures-order (number_exact x).size (number_exact y).size a.size b.size a.number b.number a.counts b.counts a.pos b.pos
          (seen-order c.section x y _ _ a b) (seen-order c.section y x _ _ b a) (number_exact x).negative (number_exact y).negative le;
    }

-- numbers with the same figure round to the same, and have the same sign unless that is nought
module _ (s : Section) (x y : Number) (t : List ℕ) (a : SeenAs s x t) (b : SeenAs s y t) where
  same-figure : signed (number_exact x).negative a.size ≡ signed (number_exact y).negative b.size
  same-figure = let e = sym a.figure ∙ b.figure in cc

  same_number_lem : a.number ≡ b.number
  unfolding signed
  same_number_lem =
      counts_same a.size a.number b.number a.pos a.counts
      (subst (λ (m : Magnitude). Counts m b.number) (sym (ap (λ (f : Exact). f.size) same-figure)) b.counts)

  same_sign : (a.number ≡ 0 → ⊥) → (number_exact x).negative ≡ (number_exact y).negative
  same_sign more =
      signs-same (number_exact x).negative (number_exact y).negative a.size b.size (counts-above a.size a.number a.pos a.counts more)
      same-figure

  seen_apart : T (differ_within (section_unit s) (number_exact x) (number_exact y))
  unfolding section_unit number_exact
  seen_apart =
      let d : ℕ = decimal_places s.items in
      let K : ℕ = 1000 ^ s.thousands in
      let m : ℕ = nat_abs x.coefficient in
      let n : ℕ = nat_abs y.coefficient in
      let r : ℕ = nearest (m * 10 ^ d) (10 ^ x.scale * K) in
      let q : ℕ = nearest (n * 10 ^ d) (10 ^ y.scale * K) in
      let first : a.number ≡ r * 10 ^ (15 - d) = a.rounds ∙ scaled-parts m x.scale s.thousands d in
      let second : b.number ≡ q * 10 ^ (15 - d) = b.rounds ∙ scaled-parts n y.scale s.thousands d in
      let same : q ≡ r = same-factor q r (10 ^ (15 - d)) (ten-pos (15 - d)) (sym second ∙ sym same_number_lem ∙ first) in
      let xpos : 0 < 10 ^ x.scale * K = unfold scaled in scaled-pos m x.scale 0 s.thousands in
      let ypos : 0 < 10 ^ y.scale * K = unfold scaled in scaled-pos n y.scale 0 s.thousands in
      unit-apart m (10 ^ x.scale) n (10 ^ y.scale) K (10 ^ d) r (rounds-to m (10 ^ x.scale) K (10 ^ d) xpos)
      (subst (RoundsTo n (10 ^ y.scale) K (10 ^ d)) same (rounds-to n (10 ^ y.scale) K (10 ^ d) ypos))
      (section_unit s).above (section_unit s).below (omega arith) (omega arith) (number_exact x).negative (number_exact y).negative
      (λ h. same_sign (λ z. h (same-factor r 0 (10 ^ (15 - d)) (ten-pos (15 - d)) (omega arith))))

-- "two numbers with the same text differ by at most one unit of the code's last place, times 1,000 for each dividing comma"
pub one_unit : (code : List ℕ) (x y : Number) (text : List ℕ) → T (plain_code code) → Shows code x text → Shows code y text
    → T (differ_within (last_unit code) (number_exact x) (number_exact y))
unfolding last_unit first_unit
one_unit code x y text plain h g =
    let c : PlainCode code = plain_code_lem code plain in
    rw c.only (seen_apart c.section x y text (number-shown code c h) (number-shown code c g))

-- every plain code shows every number in range: there is no refusal but 13
pub always-shown : (code : List ℕ) (x : Number) (lent : List ℕ) → T (plain_code code) → T (number_in_range x) → AlwaysShown code x lent
always-shown code x lent plain range =
    let c : PlainCode code = plain_code_lem code plain in
    record {
      look = plain_look c.section c.plain x;
      gives = λ room. read_plain code c (asked (value.Number x)) x lent room refl ∙ rw (T_true (number_in_range x) range);
    }

-- what is read off a plain code is the reading of its sections, so that the three hold of that too
pub sections-read : (code : List ℕ) (ask : Ask) (lent : List ℕ) (room : ℕ) → T (plain_code code)
    → code_reading code ask lent room ≡ reading (sections_in code) ask lent room
unfolding code_reading read_accepted
sections-read code ask lent room plain = let c : PlainCode code = plain_code_lem code plain in rw (c.accepted, c.only)
