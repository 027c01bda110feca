-- What is seen of a number under a plain code: the figure read off its text is the rounded number with the number's sign.
-- Assumes nothing.
use mathlib.Core.Path.{◌≡◌, refl, sym, ap, ◌∙◌}
use Prim.Native.Nat.{ℕ, ◌*◌, ◌^◌, ◌<◌}
use native.Mathlib.Omega.{arith}
use mathlib.Core.Bool.{Bool, true, false, cond, not, ◌&&◌, or-false}
use mathlib.Core.List.{List, [], ◌∷◌, ◌++◌, flatten}
use mathlib.Core.Option.{some}
use borrow.Author.Tests.{ltb-true, le-ltb, ne_eqb}
use lib.Dec.{T, ltb, eqb}
use lib.IntN.{nat_abs}
use Rattle.answers.specs.declared.Refusal.TheVariants as answer
use Rattle.values.specs.declared.Number.{Number}
use Rattle.values.specs.declared.Value.TheVariants as value
use Rattle.values.specs.declared.Ask.{Ask}
use Rattle.values.specs.Ranges.{number_in_range}
use Rattle.lists.specs.Lists.{every, any, count, is_empty, is_some}
use Rattle.lists.proofs.Bools.{no, cond-self}
use Rattle.lists.proofs.Counts.{none-count}
use Rattle.figures.specs.Rounding.{Magnitude, scaled, rounded}
use Rattle.formats.specs.Items.{Item, Section, is_percent, integer_places, decimal_places}
use Rattle.formats.specs.WellFormed.{well_formed}
use Rattle.formats.specs.Choice.{Exact, number_exact, zero_exact, smaller, less_than, counted_from, counted, only_section, fallback, reason_for, reason_holds, chosen, choose_from, choose}
use Rattle.formats.specs.Minus.{minus, not_negative, nought, exception_a, sign_for, sign_units}
use Rattle.formats.specs.Text.{first_of, item_units, item_pieces, items_units, section_units}
use Rattle.formats.specs.Reading.{Look, refused, look_of, within, takes_number, shows_general, section_rounded, number_context, section_text, places_nought, shows_nought, number_sign, number_units, number_exactly, read_number, read_value, reading}
use Rattle.formats.specs.Figures.{Counts, units_read, figure_pieces}
use Rattle.formats.proofs.Cutting.{none_passes}
use Rattle.formats.proofs.Pieces.{along-length, units-all}
use Rattle.formats.proofs.Shown.{Rules, rules, rounded-scaled, is_minus, sign-units, section-figures}
use Rattle.monotone.specs.Seen.{signed, figure_of}
use Rattle.monotone.proofs.Plain.{is_piece, is_zero_place, PlainSection}
use Rattle.monotone.proofs.Items.{piece-case, items-decimal}
use Rattle.monotone.proofs.Read.{Decimal, figure-read, units-pos}

-- a sign in front of figures of nought says nothing
nought-unsigned : (b z p : Bool) → (p ≡ true → z ≡ false) → (b && not z && p) ≡ (b && p)
nought-unsigned false z p h = refl
nought-unsigned true z true h = rw (h refl)
nought-unsigned true true false h = refl
nought-unsigned true false false h = refl

signed_same : (b : Bool) (m : Magnitude) (n : ℕ) → Counts m n → signed (b && not (eqb n 0)) m ≡ signed b m
unfolding signed
signed_same b m n e =
    ap (λ (negative : Bool). record { negative = negative; size = m })
    (nought-unsigned b (eqb n 0) (ltb 0 m.above)
    (λ h.
    let above : 0 < m.above = ltb-true 0 m.above h in
    ne_eqb n 0 (λ z. omega (arith, ap (λ (k : ℕ). k * m.below) z))))

-- a minus is added exactly where the number is below zero and its figures are not nought
by_sign : (below b : Bool) → is_minus (cond (not below) not_negative (cond b nought minus)) ≡ (below && not b)
unfolding is_minus sign_units is_empty
by_sign true true = refl
by_sign true false = refl
by_sign false b = refl

minus-added : (x : Exact) (s : Section) (b : Bool) → is_empty s.items ≡ false → is_minus (sign_for x s false b) ≡ (less_than x zero_exact && not b)
unfolding is_minus sign_for sign_units is_empty
minus-added x s b item = rw item (by_sign (less_than x zero_exact) b)

below-zero : (x : Number) → less_than (number_exact x) zero_exact ≡ (number_exact x).negative
unfolding less_than smaller number_exact
below-zero x =
    let m : ℕ = nat_abs x.coefficient in
    let b : ℕ = 10 ^ x.scale in
    rw (le-ltb (m * 1) (0 * b) (omega arith)) (cond-self (number_exact x).negative)

module _ (s : Section) (plain : PlainSection s) where
  -- the one section takes every number
  choose-plain : (x : Exact) → choose (s ∷ []) x ≡ chosen 0 s only_section
  unfolding choose counted counted_from choose_from reason_for fallback reason_holds is_some
  choose-plain x = rw (plain.kind, plain.bare)

  abbrev pub plain_look : Number → Look
  plain_look x = look_of (number_units (s ∷ []) 0 s only_section x) s.colour 0 (number_exactly s x)

  pub reading-plain : (ask : Ask) (x : Number) (text : List ℕ) (room : ℕ) → ask.value ≡ value.Number x
      → reading (s ∷ []) ask text room ≡ cond (number_in_range x) (within room (plain_look x)) (refused answer.Range)
  unfolding reading read_value read_number takes_number shows_general
  reading-plain ask x text room is_number = rw (is_number, choose-plain (number_exact x), plain.kind)

-- Of the number x the text is seen: the figure read off it has the number's sign, and is the rounded number, a count of 10^-15.
pub record SeenAs (s : Section) (x : Number) (text : List ℕ) : Type 0 where
  pub size : Magnitude
  pub number : ℕ
  pub figure : figure_of text ≡ some (signed (number_exact x).negative size)
  pub counts : Counts size number
  pub pos : 0 < size.below
  pub rounds : number ≡ rounded (scaled (nat_abs x.coefficient) x.scale 0 s.thousands) (decimal_places s.items)

-- places and the point are no percents, and there is one of them
no-percent : (is : List Item) → T (every is_piece is) → count is_percent is ≡ 0
no-percent is t =
    none-count is_percent is (none_passes is_percent is_piece (piece-case (λ (i : Item). is_percent i ≡ false) (λ p. refl) refl) is t)

not-empty : (is : List Item) → any is_zero_place is ≡ true → is_empty is ≡ false
unfolding any is_empty
not-empty [] e = no e
not-empty (i ∷ is) e = refl

module _ (s : Section) (plain : PlainSection s) (formed : T (well_formed (s ∷ []))) (x : Number) (range : T (number_in_range x)) where
  pieces : List (List ℕ)
  pieces = item_pieces (number_context s x) (first_of (integer_places s.items)) s.items

  -- the added minus
  minus-plain : is_minus (number_sign (s ∷ []) 0 s only_section x) ≡ ((number_exact x).negative && not (eqb (section_rounded s x) 0))
  unfolding number_sign exception_a shows_nought places_nought shows_general
  minus-plain =
      let nought : Bool = eqb (section_rounded s x) 0 in
      rw (plain.kind, or-false nought, minus-added (number_exact x) s nought (not-empty s.items plain.nought), below-zero x)

  text-plain : number_units (s ∷ []) 0 s only_section x ≡ cond (is_minus (number_sign (s ∷ []) 0 s only_section x)) (45 ∷ []) [] ++ flatten pieces
  unfolding number_units section_text section_units items_units number_context pieces
  text-plain = rw (sign-units (number_sign (s ∷ []) 0 s only_section x), plain.kind)

  -- the figure with the sign of its text is the figure with that of the number
  figure-seen : (us : List ℕ) (n : ℕ) → Decimal us → Counts (units_read us) n → section_rounded s x ≡ n
      → figure_of (cond (is_minus (number_sign (s ∷ []) 0 s only_section x)) (45 ∷ []) [] ++ us) ≡ some (signed (number_exact x).negative (units_read us))
  figure-seen us n d e same =
      figure-read (is_minus (number_sign (s ∷ []) 0 s only_section x)) us d
      ∙ ap some (rw (minus-plain, same) (signed_same (number_exact x).negative (units_read us) n e))

  pub number-seen : SeenAs s x (number_units (s ∷ []) 0 s only_section x)
  unfolding pieces number_context
  number-seen =
      let is : List Item = s.items in
      let r : Rules s = rules (s ∷ []) (number_exact x) 0 s only_section formed (choose-plain s plain (number_exact x)) in
      let figures = section-figures (s ∷ []) 0 s only_section x r range (unfold takes_number in rw plain.kind refl) plain.kind in
      let q : ℕ = first_of (integer_places is) in
      let all : figure_pieces is pieces ≡ flatten pieces = units-all is_piece is pieces plain.pieces (along-length (item_units (number_context s x)) q q is) in
      let counts : Counts (units_read (flatten pieces)) figures.number = rw (← all) figures.read in
      record {
        size = units_read (flatten pieces);
        number = figures.number;
        figure =
            rw text-plain
            (figure-seen (flatten pieces) figures.number (items-decimal (number_context s x) q is plain.pieces plain.nought r.one_point) counts
            (rounded-scaled s x plain.kind ∙ sym figures.rounds));
        counts = counts;
        pos = units-pos (flatten pieces);
        rounds = figures.rounds ∙ ap (λ (p : ℕ). rounded (scaled (nat_abs x.coefficient) x.scale p s.thousands) (decimal_places is)) (no-percent is plain.pieces);
      }
