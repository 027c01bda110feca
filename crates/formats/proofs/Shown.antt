-- What is promised of the units that a number is shown as holds, and of when an instant and a text are exact.
-- Assumes nothing.
use mathlib.Core.Path.{◌≡◌, refl, sym, ap, subst, ◌∙◌}
use Prim.Native.Nat.{ℕ, ◌+◌, ◌*◌, ◌^◌, ◌≤◌, ◌<◌}
use native.Mathlib.Omega.{arith}
use mathlib.Core.Bool.{Bool, true, false, cond, not, ◌&&◌, or-true, true≢false}
use mathlib.Core.List.{List, [], ◌∷◌}
use borrow.Author.Tests.{eq-eqb}
use lib.ListN.{length}
use lib.Dec.{T, leb, eqb, leb→le, ltb→lt}
use lib.IntN.{nat_abs}
use Rattle.values.specs.declared.Number.{Number}
use Rattle.values.specs.declared.Day.{Day}
use Rattle.values.specs.declared.Millisecond.{Millisecond}
use Rattle.values.specs.declared.Value.TheVariants as value
use Rattle.values.specs.declared.Ask.{Ask}
use Rattle.values.specs.Ranges.{number_in_range, in_range}
use Rattle.lists.specs.Lists.{every, any, count, is_empty}
use Rattle.lists.proofs.Bools.{no, by_cases, cond_both, cond-case, and_left, and_right, every-head, every-tail, true-T, not-false, or-false}
use Rattle.lists.proofs.Counts.{any-either}
use Rattle.figures.specs.Rounding.{Magnitude, scaled, rounded, rounds_exactly}
use Rattle.figures.specs.Powers.{powered}
use Rattle.figures.specs.General.{general_decimals, general_rounded, general_exactly, general_too_wide, general_units}
use Rattle.figures.proofs.Tens.{ten-pos}
use Rattle.figures.proofs.Rounding.{half-unit, scaled-powered, scaled_small, rounded-small}
use Rattle.calendar.specs.Names.{units}
use Rattle.fractions.specs.declared.Mixed.{Mixed}
use Rattle.formats.specs.Items.{Item, is_unit, Section, Kind, shows_places, text_kind, general_kind, date_kind, scientific_kind, fraction_kind, number_kind, same_kind, kind_of, item_allowed, is_point, is_percent, is_exponent, is_solidus, is_cut, items_fit, main_items, before_cut, from_cut, integer_places, decimal_places, places_behind}
use Rattle.formats.specs.Limits.{section_within}
use Rattle.formats.specs.WellFormed.{section_formed, well_formed, section_fits}
use Rattle.formats.specs.Choice.{Exact, number_exact, instant_exact, zero_exact, less_than, counted, Reason, Choice, nothing, chosen, choose, TextChoice, itself, text_in, choose_text}
use Rattle.formats.specs.Minus.{Sign, minus, not_negative, no_item, for_negatives, nought, is_own, first_has_condition, exception_a, sign_for, sign_units}
use Rattle.formats.specs.Text.{Context, place_units, point_units, item_units, digit_after, along, first_of, item_pieces, items_units, section_units}
use Rattle.formats.specs.Accept.{sections_in, Accepted, sections, refusal, accept}
use Rattle.formats.specs.Reading.{Look, Reading, refused, shown, look_of, within, takes_number, takes_instant, shows_general, section_exponent, section_rounded, standing_rounded, section_fraction, number_context, whole_context, exponent_context, instant_context, text_context, section_text, places_nought, shows_nought, number_sign, number_units, number_exactly, finest_span, instant_exactly, read_number, read_instant, read_text, read_value, reading, read_accepted, code_reading}
use Rattle.formats.specs.Figures.{units_read, Counts, FiguresOf, GeneralFigures, PieceOf, of_literal, of_blank, of_fill, of_percent, of_place, of_point, of_general, of_at, of_exponent, of_solidus, of_fixed, PiecesOf, empty, more, figure_pieces, NumberShown, InstantShown}
use Rattle.formats.proofs.FigureUnits.{place-plain, beyond-plain}
use Rattle.formats.proofs.FigureItems.{number-place, figures-read}
use Rattle.formats.proofs.Cutting.{cut-joins, before-bare, every-before, every-from, main-all, no-solidus, held-bare}
use Rattle.formats.proofs.Pieces.{flatten-joins, pieces-join}
use Rattle.formats.proofs.Exactness.{read-exactly, exactly-number, exactly-general, exactly-fraction, exactly-literal, finest-of, cut-exactly}
use Rattle.formats.proofs.Scientific.{scientific_pieces, scientific-of}
use Rattle.formats.proofs.FractionParts.{FractionItems, fraction-items}
use Rattle.formats.proofs.FractionPieces.{fraction_pieces, fraction-text, fraction-each}
use Rattle.formats.proofs.FractionFigures.{fraction-of}
use Rattle.formats.proofs.GeneralFigures.{general-read}
use Rattle.formats.proofs.Chosen.{chosen-passes}
use Rattle.formats.proofs.Accepted.{accepted-sections, accepted-formed}
use Rattle.formats.proofs.Each.{by-item, by_kind}

-- no exact scaled number is divided by 0
pub scaled-pos : (m s p t : ℕ) → 0 < (scaled m s p t).below
unfolding powered
scaled-pos m s p t = rw (scaled-powered m s p t) (ten-pos (s + 3 * t))

-- what a number section rounds
pub rounded-scaled : (s : Section) (x : Number) → kind_of s ≡ number_kind
    → section_rounded s x
    ≡ rounded (scaled (nat_abs x.coefficient) x.scale (count is_percent s.items) s.thousands) (decimal_places s.items)
unfolding section_rounded
rounded-scaled s x kind = rw kind

-- the rules that figures need
pub record Rules (s : Section) : Type 0 where
  formed : T (section_formed s)
  allowed : T (every (item_allowed (kind_of s)) s.items)
  pub one_point : count is_point s.items ≤ 1
  integers : integer_places (main_items s.items) ≤ 20
  decimals : decimal_places s.items ≤ 15
  percents : count is_percent s.items ≤ 5

pub rules : (ss : List Section) (x : Exact) (i : ℕ) (s : Section) (why : Reason) → T (well_formed ss) → choose ss x ≡ chosen i s why → Rules s
unfolding well_formed section_formed section_fits section_within items_fit kind_of
rules ss x i s why formed e =
    let all : T (every section_formed ss) = search (and_left, and_right) in
    let one : T (section_formed s) = chosen-passes section_formed ss x i s why all e in
    search (and_left, and_right, leb→le) depth 16

-- a sign is one minus or nothing
unfoldable pub is_minus : Sign → Bool
is_minus g = not (is_empty (sign_units g))

pub sign-units : (g : Sign) → sign_units g ≡ cond (is_minus g) (45 ∷ []) []
unfolding is_minus is_empty sign_units
sign-units minus = refl
sign-units not_negative = refl
sign-units no_item = refl
sign-units for_negatives = refl
sign-units nought = refl

-- figures that are nought have no added minus
nought-unsigned : (x : Exact) (s : Section) (a : Bool) → is_minus (sign_for x s a true) ≡ false
unfolding sign_for sign_units is_minus is_empty
nought-unsigned x s a =
    let Unsigned : Sign → Type 0 = λ g. is_minus g ≡ false in
    cond_both Unsigned (not (less_than x zero_exact)) refl (cond_both Unsigned (is_empty s.items) refl (cond_both Unsigned a refl refl))

-- units that are read as the rounded number are its figures
figures-of : (m : Magnitude) (d : ℕ) (added exact : Bool) (us : List ℕ) → 0 < m.below → d ≤ 15
    → Counts (units_read us) (rounded m d) → (rounded m d ≡ 0 → added ≡ false) → exact ≡ rounds_exactly m d → FiguresOf m d added exact us
figures-of m d added exact us pos most e unsigned told =
    record {
      number = rounded m d;
      read = e;
      rounds = refl;
      near = half-unit m d pos most;
      no_minus_at_nought = unsigned;
      exactly = told ∙ read-exactly m d us e;
    }

-- General's rounded number has forty digits
standing-fits : (x : Number) → T (number_in_range x) → standing_rounded x < 10 ^ 40
unfolding standing_rounded general_rounded general_decimals number_exact
standing-fits x range =
    let m : ℕ = nat_abs x.coefficient in
    let small : m < 10 ^ 15 = search (and_left, ltb→lt) in
    let size : ◌≡◌ {A = Magnitude} (record { above = m; below = 10 ^ x.scale }) (powered m 0 x.scale) =
    unfold powered in ap {B = Magnitude} (λ (a : ℕ). record { above = a; below = 10 ^ x.scale }) (omega arith) in
    rw size (rounded-small m 0 x.scale _ small (omega arith) (omega arith))

general-shown : (k : Kind) → T (same_kind general_kind k) → shows_general k ≡ true
unfolding shows_general
general-shown = by_kind (λ k. T (same_kind general_kind k) → shows_general k ≡ true) absurd (λ t. refl) absurd absurd absurd absurd absurd

text-shows : (k : Kind) → T (same_kind text_kind k) → shows_general k ≡ true
unfolding shows_general
text-shows = by_kind (λ k. T (same_kind text_kind k) → shows_general k ≡ true) (λ t. refl) absurd absurd absurd absurd absurd absurd

no-date : (k : Kind) → takes_number k ≡ true → T (same_kind date_kind k) → ⊥
unfolding takes_number
no-date =
    by_kind (λ (k : Kind). takes_number k ≡ true → T (same_kind date_kind k) → ⊥) (λ e t. t) (λ e t. t) (λ e t. true≢false (sym e)) (λ e t. t) (λ e t. t)
    (λ e t. t) (λ e t. t)

-- the one kind that has scientific's number, and the one that has a fraction's
same-scientific : (k : Kind) → same_kind k scientific_kind ≡ true → k ≡ scientific_kind
same-scientific = by_kind (λ (k : Kind). same_kind k scientific_kind ≡ true → k ≡ scientific_kind) no no no no no (λ e. refl) no

same-fraction : (k : Kind) → same_kind k fraction_kind ≡ true → k ≡ fraction_kind
same-fraction = by_kind (λ (k : Kind). same_kind k fraction_kind ≡ true → k ≡ fraction_kind) no no no no no no (λ e. refl)

-- a number that went to section i and is taken by it
module _ (ss : List Section) (i : ℕ) (s : Section) (why : Reason) (x : Number)
    (r : Rules s) (range : T (number_in_range x)) (takes : takes_number (kind_of s) ≡ true) where
  abbrev pub added : Bool
  added = is_minus (number_sign ss i s why x)

  abbrev pub exactly : Bool
  exactly = number_exactly s x

  unsigned : shows_nought s x ≡ true → added ≡ false
  unfolding number_sign
  unsigned e = rw e (nought-unsigned (number_exact x) s (exception_a (counted ss) i (is_own why) (first_has_condition ss)))

  unsigned-places : shows_places (kind_of s) ≡ true → places_nought s x ≡ true → added ≡ false
  unfolding shows_nought
  unsigned-places shows z = unsigned (rw (shows, z))

  -- where one rounded number is shown
  unsigned-rounded : shows_places (kind_of s) ≡ true → same_kind (kind_of s) fraction_kind ≡ false → section_rounded s x ≡ 0 → added ≡ false
  unfolding places_nought
  unsigned-rounded shows other z = unsigned-places shows (rw (other, eq-eqb (section_rounded s x) 0 z))

  abbrev pub number_pieces : List (List ℕ)
  number_pieces = item_pieces (number_context s x) (first_of (integer_places s.items)) s.items

  pub section-figures : kind_of s ≡ number_kind
      → FiguresOf (scaled (nat_abs x.coefficient) x.scale (count is_percent s.items) s.thousands)
      (decimal_places s.items) added exactly (figure_pieces s.items number_pieces)
  unfolding number_context kind_of
  section-figures kind =
      let m : ℕ = nat_abs x.coefficient in
      let p : ℕ = count is_percent s.items in
      let d : ℕ = decimal_places s.items in
      let exact : Magnitude = scaled m x.scale p s.thousands in
      let pos : 0 < exact.below = scaled-pos m x.scale p s.thousands in
      let small : m < 10 ^ 15 = search (and_left, ltb→lt) in
      let e : section_rounded s x ≡ rounded exact d = rounded-scaled s x kind in
      let bare : any is_cut s.items ≡ false = held-bare (kind_of s) s.items (rw kind refl) (rw kind refl) r.allowed in
      let integers : integer_places s.items ≤ 20 = rw (main-all s.items (no-solidus (kind_of s) s.items (rw kind refl) r.allowed)) at r.integers in
      figures-of exact d added exactly (figure_pieces s.items number_pieces) pos r.decimals
      (subst (Counts (units_read (figure_pieces s.items number_pieces))) e
      (figures-read (number_context s x) s.items (rw e (scaled_small m x.scale p s.thousands d small r.percents r.decimals)) refl
      integers r.decimals r.one_point bare (number-place s.items kind) (rw e (half-unit exact d pos r.decimals).whole)))
      (λ z. unsigned-rounded (rw kind refl) (rw kind refl) (e ∙ z)) (exactly-number s x kind)

  general-figures : shows_general (kind_of s) ≡ true → GeneralFigures x added exactly (general_units (standing_rounded x))
  unfolding standing_rounded general_rounded number_exact
  general-figures shows =
      let size : Magnitude = (number_exact x).size in
      record {
        units = refl;
        figures =
            figures-of size (general_decimals size) added exactly (general_units (standing_rounded x)) (ten-pos x.scale) (unfold general_decimals in omega arith)
            (general-read (standing_rounded x) (standing-fits x range))
            (λ z. unsigned (unfold shows_nought in rw (shows, eq-eqb (standing_rounded x) 0 z, or-true))) (unfold general_exactly in exactly-general s x shows);
      }

  dated : {P : Type 0} → T (same_kind date_kind (kind_of s)) → P
  dated a = absurd (no-date (kind_of s) takes a)

  -- the pieces of items by a context that shows General's figures where the section shows them, and the exponent's sign where there is an E
  module _ (c : Context) (below : Bool) (standing : shows_general (kind_of s) ≡ true → c.standing ≡ general_units (standing_rounded x)) where
    piece : (q : ℕ) (j : Item) → (is_exponent j ≡ true → c.below ≡ below) → T (item_allowed (kind_of s) j)
        → PieceOf x added below exactly j (item_units c q j)
    unfolding item_allowed item_units point_units units
    piece q =
        by-item (λ (j : Item). (is_exponent j ≡ true → c.below ≡ below) → T (item_allowed (kind_of s) j) → PieceOf x added below exactly j (item_units c q j))
        (λ u e a. of_literal u) (λ u e a. of_blank u) (λ u e a. of_fill u) (λ p e a. of_place p (place_units c p q) (place-plain c p q))
        (λ e a. of_point _ (beyond-plain c (eqb c.integer_places 0) 14)) (λ e a. of_percent)
        (λ e a. let shows = general-shown (kind_of s) a in rw (standing shows) (of_general _ (general-figures shows)))
        (λ e a. let shows = text-shows (kind_of s) a in rw (standing shows) (of_at _ (general-figures shows)))
        (λ n e. dated) (λ n e. dated) (λ n e. dated) (λ n e. dated) (λ n e. dated) (λ n e. dated) (λ n e. dated) (λ a n e. dated) (λ h e. dated)
        (λ m e a. rw (e refl) (of_exponent m)) (λ e a. of_solidus false) (λ n e a. of_fixed false n)

    each-piece : (q : ℕ) (is : List Item) → (any is_exponent is ≡ true → c.below ≡ below) → T (every (item_allowed (kind_of s)) is)
        → PiecesOf x added below exactly is (item_pieces c q is)
    unfolding along any
    each-piece q [] sign t = empty
    each-piece q (j ∷ is) sign t =
        let next : ℕ = digit_after (first_of c.integer_places) q j in
        more j (item_units c q j) is (item_pieces c next is)
        (piece q j (λ e. sign (rw e)) (every-head (item_allowed (kind_of s)) j is t))
        (each-piece next is (λ e. sign (rw e (cond_both (λ (b : Bool). b ≡ true) (is_exponent j) refl refl))) (every-tail (item_allowed (kind_of s)) j is t))

  -- a section that is neither scientific nor a fraction
  plain-shown : same_kind (kind_of s) scientific_kind ≡ false → same_kind (kind_of s) fraction_kind ≡ false → choose ss (number_exact x) ≡ chosen i s why
      → NumberShown ss x (look_of (number_units ss i s why x) s.colour i exactly)
  unfolding number_units section_text section_units items_units number_context
  plain-shown other another e =
      record {
        taker = s;
        why = why;
        minus = added;
        below = false;
        pieces = number_pieces;
        goes = e;
        coloured = refl;
        text = rw (sign-units (number_sign ss i s why x), other, another);
        each = each-piece (number_context s x) false (λ h. refl) (first_of (integer_places s.items)) s.items (λ h. refl) r.allowed;
        figures = section-figures;
        scientific = λ k. absurd (true≢false (rw k at other));
        fraction = λ k. absurd (true≢false (rw k at another));
        literal = exactly-literal s x;
      }

  -- the pieces before the E are the mantissa's, those from it on the exponent's
  scientific-pieces : kind_of s ≡ scientific_kind → PiecesOf x added (section_exponent s x).below exactly s.items (scientific_pieces s x)
  unfolding shows_general exponent_context whole_context number_context
  scientific-pieces kind =
      let is : List Item = s.items in
      let below : Bool = (section_exponent s x).below in
      let allowed : Item → Bool = item_allowed (kind_of s) in
      subst (λ (js : List Item). PiecesOf x added below exactly js (scientific_pieces s x)) (cut-joins is)
      (pieces-join x added below exactly
      (each-piece (number_context s x) below (λ h. refl) (first_of (integer_places is)) (before_cut is)
      (λ e. absurd (true≢false (sym e ∙ (or-false _ _ (sym (any-either is_exponent is_solidus (before_cut is)) ∙ before-bare is)).0))) (every-before allowed is r.allowed))
      (each-piece (exponent_context s x) below (λ h. absurd (true≢false (sym (rw kind at h)))) (first_of (places_behind is)) (from_cut is)
      (λ e. refl) (every-from allowed is r.allowed)))

  scientific-shown : same_kind (kind_of s) scientific_kind ≡ true → choose ss (number_exact x) ≡ chosen i s why
      → NumberShown ss x (look_of (number_units ss i s why x) s.colour i exactly)
  unfolding number_units section_text section_units items_units number_context exponent_context whole_context
  scientific-shown same e =
      let kind : kind_of s ≡ scientific_kind = same-scientific (kind_of s) same in
      let mantissas = item_pieces (number_context s x) (first_of (integer_places s.items)) (before_cut s.items) in
      let exponents = item_pieces (exponent_context s x) (first_of (places_behind s.items)) (from_cut s.items) in
      record {
        taker = s;
        why = why;
        minus = added;
        below = (section_exponent s x).below;
        pieces = scientific_pieces s x;
        goes = e;
        coloured = refl;
        text = rw (sign-units (number_sign ss i s why x), same, flatten-joins mantissas exponents);
        each = scientific-pieces kind;
        figures = λ k. absurd (true≢false (sym (rw k at same)));
        scientific = λ k. scientific-of s x kind r.formed range added (unsigned-rounded (rw kind refl) (rw kind refl));
        fraction = λ k. absurd (true≢false (sym (rw k at same)));
        literal = exactly-literal s x;
      }

  fraction-shown : same_kind (kind_of s) scientific_kind ≡ false → same_kind (kind_of s) fraction_kind ≡ true → choose ss (number_exact x) ≡ chosen i s why
      → NumberShown ss x (look_of (number_units ss i s why x) s.colour i exactly)
  unfolding number_units section_text shows_general whole_context places_nought
  fraction-shown other same e =
      let kind : kind_of s ≡ fraction_kind = same-fraction (kind_of s) same in
      let rules : FractionItems s.items = fraction-items s kind r.formed in
      let f : Mixed = section_fraction s x in
      record {
        taker = s;
        why = why;
        minus = added;
        below = false;
        pieces = fraction_pieces f s.items;
        goes = e;
        coloured = refl;
        text = rw (sign-units (number_sign ss i s why x), other, same, fraction-text f s.items rules);
        each = fraction-each f s.items rules x added false exactly
            (λ n js t.
            each-piece (whole_context n (integer_places js) false) false (λ h. absurd (true≢false (sym (rw kind at h)))) (first_of (integer_places js)) js (λ h. refl)
            (rw (sym kind) at t));
        figures = λ k. absurd (true≢false (sym (rw k at same)));
        scientific = λ k. absurd (true≢false (rw k at other));
        fraction = λ k. rw (exactly-fraction s x kind)
            (fraction-of s x rules range added (λ w a. unsigned-places (rw kind refl) (rw (same, eq-eqb f.whole 0 w, eq-eqb f.above 0 a))));
        literal = exactly-literal s x;
      }

  text-shown : choose ss (number_exact x) ≡ chosen i s why → NumberShown ss x (look_of (number_units ss i s why x) s.colour i exactly)
  text-shown e =
      by_cases (same_kind (kind_of s) scientific_kind) (λ h. scientific-shown h e)
      (λ h. by_cases (same_kind (kind_of s) fraction_kind) (λ k. fraction-shown h k e) (λ k. plain-shown h k e))

-- of a reading that shows a text
abbrev WhereShown : (Look → Type 0) → Reading → Type 0
WhereShown P (refused a) = Unit {0}
WhereShown P (shown look) = P look

choice-shown : (ss : List Section) (x : Number) (room : ℕ) → T (well_formed ss) → T (number_in_range x) → (c : Choice) → choose ss (number_exact x) ≡ c
    → WhereShown (NumberShown ss x) (read_number ss x room c)
unfolding read_number within
choice-shown ss x room formed range nothing e = tt
choice-shown ss x room formed range (chosen i s why) e =
    let P : Reading → Type 0 = WhereShown (NumberShown ss x) in
    cond-case P (not (takes_number (kind_of s))) (λ h. tt)
    (λ h.
    cond_both P (shows_general (kind_of s) && general_too_wide (number_exact x).size) tt
    (cond_both P (leb (length (number_units ss i s why x)) room)
    (text-shown ss i s why x (rules ss (number_exact x) i s why formed e) range (not-false (takes_number (kind_of s)) h) e) tt))

reading-shown : (ss : List Section) (ask : Ask) (x : Number) (text : List ℕ) (room : ℕ) → T (well_formed ss) → ask.value ≡ value.Number x
    → WhereShown (NumberShown ss x) (reading ss ask text room)
unfolding reading read_value
reading-shown ss ask x text room formed is_number =
    let P : Reading → Type 0 = WhereShown (NumberShown ss x) in
    rw is_number (cond-case P (number_in_range x) (λ h. choice-shown ss x room formed (true-T h) (choose ss (number_exact x)) refl) (λ h. tt))

-- the section that an instant goes to, and when it is exact there
dated-shown : (ss : List Section) (d : Day) (m : Millisecond) (room : ℕ) (c : Choice) → choose ss (instant_exact d m) ≡ c
    → WhereShown (InstantShown ss d m) (read_instant d m room c)
unfolding read_instant within instant_exactly
dated-shown ss d m room nothing e = tt
dated-shown ss d m room (chosen i s why) e =
    let P : Reading → Type 0 = WhereShown (InstantShown ss d m) in
    cond_both P (not (takes_instant (kind_of s))) tt
    (cond_both P (leb (length (section_units (instant_context s d m) s.items)) room)
    (record {
      taker = s;
      why = why;
      goes = e;
      span = finest_span s.items;
      finest = finest-of s.items;
      dated = λ k. rw k (cut-exactly m.0 (finest_span s.items));
      literal = λ k. rw k;
    }) tt)

instant-reading : (ss : List Section) (ask : Ask) (d : Day) (m : Millisecond) (text : List ℕ) (room : ℕ) → ask.value ≡ value.Instant d m
    → WhereShown (InstantShown ss d m) (reading ss ask text room)
unfolding reading read_value
instant-reading ss ask d m text room is_instant =
    cond_both (WhereShown (InstantShown ss d m)) (in_range ask text) (rw is_instant (dated-shown ss d m room (choose ss (instant_exact d m)) refl)) tt

abbrev IsExact : Look → Type 0
IsExact look = look.exact ≡ true

written-exact : (text : List ℕ) (room : ℕ) (c : TextChoice) → WhereShown IsExact (read_text text room c)
unfolding read_text within
written-exact text room itself = cond_both (WhereShown IsExact) (leb (length text) room) refl tt
written-exact text room (text_in i s) = cond_both (WhereShown IsExact) (leb (length (section_units (text_context text) s.items)) room) refl tt

text-reading : (ss : List Section) (ask : Ask) (text : List ℕ) (room : ℕ) → ask.value ≡ value.Text → WhereShown IsExact (reading ss ask text room)
unfolding reading read_value
text-reading ss ask text room is_text =
    cond_both (WhereShown IsExact) (in_range ask text) (rw is_text (written-exact text room (choose_text ss))) tt

-- what is seen of the sections of a code is seen of the code
accepted-shown : (P : List Section → Look → Type 0) (code : List ℕ) (ask : Ask) (text : List ℕ) (room : ℕ)
    → ((ss : List Section) → accept code ≡ sections ss → WhereShown (P ss) (reading ss ask text room))
    → (a : Accepted) → accept code ≡ a → WhereShown (P (sections_in code)) (read_accepted a ask text room)
unfolding read_accepted
accepted-shown P code ask text room law (refusal a k) h = tt
accepted-shown P code ask text room law (sections ss) h = rw (accepted-sections code ss h).1 (law ss h)

-- the law of a number that sections show
pub number-shown : (ss : List Section) (ask : Ask) (x : Number) (text : List ℕ) (room : ℕ) (look : Look)
    → T (well_formed ss) → ask.value ≡ value.Number x → reading ss ask text room ≡ shown look
    → NumberShown ss x look
number-shown ss ask x text room look formed is_number e =
    subst (WhereShown (NumberShown ss x)) e (reading-shown ss ask x text room formed is_number)

-- and of one that a code shows
pub code-number-shown : (code : List ℕ) (ask : Ask) (x : Number) (text : List ℕ) (room : ℕ) (look : Look)
    → T (every is_unit code) → ask.value ≡ value.Number x → code_reading code ask text room ≡ shown look
    → NumberShown (sections_in code) x look
unfolding code_reading
code-number-shown code ask x text room look known is_number e =
    subst (WhereShown (NumberShown (sections_in code) x)) e
    (accepted-shown (λ (ss : List Section). NumberShown ss x) code ask text room
    (λ ss h. reading-shown ss ask x text room (accepted-formed code ss known h) is_number) (accept code) refl)

-- the law of an instant that sections show
pub instant-shown : (ss : List Section) (ask : Ask) (d : Day) (m : Millisecond) (text : List ℕ) (room : ℕ) (look : Look)
    → ask.value ≡ value.Instant d m → reading ss ask text room ≡ shown look
    → InstantShown ss d m look
instant-shown ss ask d m text room look is_instant e =
    subst (WhereShown (InstantShown ss d m)) e (instant-reading ss ask d m text room is_instant)

-- and of one that a code shows
pub code-instant-shown : (code : List ℕ) (ask : Ask) (d : Day) (m : Millisecond) (text : List ℕ) (room : ℕ) (look : Look)
    → ask.value ≡ value.Instant d m → code_reading code ask text room ≡ shown look
    → InstantShown (sections_in code) d m look
unfolding code_reading
code-instant-shown code ask d m text room look is_instant e =
    subst (WhereShown (InstantShown (sections_in code) d m)) e
    (accepted-shown (λ (ss : List Section). InstantShown ss d m) code ask text room (λ ss h. instant-reading ss ask d m text room is_instant) (accept code) refl)

-- "Text values [..] are exact", by sections and by a code
pub text-exact : (ss : List Section) (ask : Ask) (text : List ℕ) (room : ℕ) (look : Look)
    → ask.value ≡ value.Text → reading ss ask text room ≡ shown look
    → look.exact ≡ true
text-exact ss ask text room look is_text e = subst (WhereShown IsExact) e (text-reading ss ask text room is_text)

pub code-text-exact : (code : List ℕ) (ask : Ask) (text : List ℕ) (room : ℕ) (look : Look)
    → ask.value ≡ value.Text → code_reading code ask text room ≡ shown look
    → look.exact ≡ true
unfolding code_reading
code-text-exact code ask text room look is_text e =
    subst (WhereShown IsExact) e
    (accepted-shown (λ (ss : List Section). IsExact) code ask text room (λ ss h. text-reading ss ask text room is_text) (accept code) refl)
