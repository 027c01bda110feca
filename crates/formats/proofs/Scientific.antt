-- What a scientific section shows (R126, R128): the figures before the E are the mantissa's, those behind it the exponent's, and a number that is
-- not zero keeps its minus.
-- Assumes nothing.
use mathlib.Core.Path.{◌≡◌, refl, sym, ◌∙◌, subst}
use Prim.Native.Nat.{ℕ, ◌+◌, ◌*◌, ◌^◌, ◌≤◌, ◌<◌}
use native.Mathlib.Nat.{lt_of_lt_of_le}
use native.Mathlib.Omega.{arith}
use borrow.Author.Tests.{ne_eqb}
use mathlib.Core.Bool.{Bool, true, false, ◌||◌}
use mathlib.Core.List.{List, [], ◌∷◌, ◌++◌}
use lib.Dec.{T, leb→le, ltb→lt}
use lib.IntN.{nat_abs}
use lib.ListN.{length}
use Rattle.values.specs.declared.Number.{Number}
use Rattle.values.specs.Ranges.{number_in_range}
use Rattle.lists.specs.Lists.{every, any, count}
use Rattle.lists.proofs.Bools.{by_cases, and_left, and_right}
use Rattle.figures.specs.Rounding.{Magnitude}
use Rattle.figures.specs.Bounds.{Near}
use Rattle.figures.proofs.Tens.{ten-pos, ten-le}
use Rattle.exponents.specs.Exponent.{divided_by, mantissa_at, exponent_of, mantissa_of, mantissa_exactly}
use Rattle.exponents.specs.Least.{LeastExponent}
use Rattle.exponents.proofs.Search.{exponent-least, mantissa-digits}
use Rattle.exponents.proofs.Mantissa.{exponent-nought, mantissa-near, mantissa-small, exponent-most}
use Rattle.formats.specs.Tokens.{is_digit}
use Rattle.formats.specs.Items.{Item, Section, scientific_kind, kind_of, items_kind, item_allowed, items_fit, is_place, is_point, is_exponent, is_solidus, is_cut, main_items, before_cut, from_cut, integer_places, decimal_places, places_behind, exponent_fits}
use Rattle.formats.specs.Limits.{section_within}
use Rattle.formats.specs.WellFormed.{section_formed, section_fits}
use Rattle.formats.specs.Choice.{number_exact}
use Rattle.formats.specs.Text.{item_units, digit_after, along, first_of, item_pieces}
use Rattle.formats.specs.Reading.{shows_general, section_exponent, section_rounded, number_context, whole_context, exponent_context, places_nought, shows_nought, number_exactly}
use Rattle.formats.specs.Figures.{units_read, Counts, units_of, figure_pieces, ScientificOf}
use Rattle.formats.proofs.Cutting.{before-bare, cut-count, integers-before, decimals-before, Cut, cut, ExponentRules, exponent-rules, no-solidus, main-all, behind-bare, behind-pointless, behind-integers, scientific-some}
use Rattle.formats.proofs.FigureItems.{figures-read, whole-read}
use Rattle.formats.proofs.Pieces.{along-length, drop-front, units-front}
use Rattle.formats.proofs.ExponentUnits.{items-digits}
use Rattle.formats.proofs.Exactness.{read-exactly, exactly-scientific}

-- where there is an integer place there is a place
some-place : (is : List Item) → 1 ≤ integer_places is → any is_place is ≡ true
unfolding integer_places any
some-place [] h = absurd (omega arith)
some-place (i ∷ is) h =
    by_cases (is_place i) (λ e. rw e)
    (λ e.
    by_cases (is_point i || is_cut i) (λ f. absurd (omega (arith, rw f at h))) (λ f. rw e (some-place is (rw (f, e) at h))))

module _ (s : Section) (x : Number) where
  abbrev n : ℕ
  n = integer_places s.items

  abbrev d : ℕ
  d = decimal_places s.items

  abbrev exact : Magnitude
  exact = (number_exact x).size

  -- the text of each item: before the E by the number, from it on by the exponent
  abbrev pub scientific_pieces : List (List ℕ)
  scientific_pieces =
      item_pieces (number_context s x) (first_of n) (before_cut s.items)
      ++ item_pieces (exponent_context s x) (first_of (places_behind s.items)) (from_cut s.items)

  -- a scientific section and a number in range
  module _ (kind : kind_of s ≡ scientific_kind) (formed : T (section_formed s)) (range : T (number_in_range x)) where
    -- the section's rules
    record Rules : Type 0 where
      pub bare : any is_solidus s.items ≡ false
      pub parts : Cut s.items
      pub exponents : ExponentRules s.items
      pub one_point : count is_point s.items ≤ 1
      pub integers : n ≤ 20
      pub decimals : d ≤ 15
      pub few : places_behind s.items ≤ 3
      pub coefficient : nat_abs x.coefficient < 10 ^ 15
      pub scale : x.scale ≤ 15

    rules : Rules
    unfolding section_formed section_fits section_within items_fit kind_of
    rules =
        let some : any is_exponent s.items ≡ true = scientific-some s.items kind in
        let fits : T (exponent_fits s.items) = search (and_left, and_right) depth 16 in
        let held : T (every (item_allowed (items_kind s.items)) s.items) = search (and_left, and_right) depth 16 in
        let none : any is_solidus s.items ≡ false = no-solidus scientific_kind s.items refl (rw kind at held) in
        let most : integer_places (main_items s.items) ≤ 20 = search (and_left, and_right, leb→le) depth 16 in
        record {
          bare = none;
          parts = cut s.items none some;
          exponents = exponent-rules s.items some fits;
          one_point = search (and_left, and_right, leb→le) depth 16;
          integers = rw (main-all s.items none) at most;
          decimals = search (and_left, and_right, leb→le) depth 16;
          few = search (and_left, and_right, leb→le) depth 16;
          coefficient = search (and_left, ltb→lt);
          scale = search (and_right, leb→le);
        }

    rounded-mantissa : section_rounded s x ≡ mantissa_of exact n d
    unfolding section_rounded
    rounded-mantissa = rw kind

    mantissa-fits : mantissa_of exact n d < 10 ^ 40
    unfolding number_exact
    mantissa-fits =
        let r : Rules = rules in
        lt_of_lt_of_le
        (mantissa-small (nat_abs x.coefficient) x.scale n d r.coefficient r.scale r.exponents.integer r.integers r.decimals)
        (ten-le 35 40 (omega arith))

    -- the mantissa is near to the number divided by 10^exponent
    near : Near (divided_by exact (section_exponent s x)) d (mantissa_of exact n d)
    unfolding number_exact section_exponent
    near = mantissa-near exact n d (ten-pos x.scale) rules.decimals

    -- the figures before the E are the mantissa's
    mantissa-read :
        Counts (units_read (figure_pieces (before_cut s.items) (item_pieces (number_context s x) (first_of n) (before_cut s.items)))) (mantissa_of exact n d)
    unfolding number_context
    mantissa-read =
        let is : List Item = s.items in
        let r : Rules = rules in
        subst (Counts (units_read (figure_pieces (before_cut is) (item_pieces (number_context s x) (first_of n) (before_cut is))))) rounded-mantissa
        (figures-read (number_context s x) (before_cut is) (rw rounded-mantissa mantissa-fits) (sym (integers-before is)) (rw (integers-before is) r.integers)
        (rw (decimals-before is) r.decimals) (omega (arith, r.one_point, cut-count is_point is)) (before-bare is)
        (some-place (before_cut is) (rw (integers-before is) r.exponents.integer))
        (rw (rounded-mantissa, decimals-before is) near.whole))

    exponent-fits : (section_exponent s x).size < 10 ^ 25
    unfolding section_exponent
    exponent-fits =
        let small : (exponent_of exact n d).size < 10 ^ 3 = omega (arith, exponent-most exact n d, rules.integers) in
        lt_of_lt_of_le small (ten-le 3 25 (omega arith))

    -- those behind it are the exponent's, and digits alone
    exponent-read : (q : ℕ)
        → Counts (units_read (figure_pieces (from_cut s.items) (item_pieces (exponent_context s x) q (from_cut s.items)))) ((section_exponent s x).size * 10 ^ 15)
    unfolding exponent_context whole_context along digit_after units_of
    exponent-read q =
        let r : Rules = rules in
        let e : ExponentRules s.items = r.exponents in
        let c : Cut s.items = r.parts in
        let integers : integer_places c.behind ≡ places_behind s.items = behind-integers c r.bare e.one e.no_point in
        rw c.from
        (whole-read (section_exponent s x).size (places_behind s.items) (section_exponent s x).below c.behind exponent-fits (sym integers)
        (omega (arith, r.few)) (behind-pointless c e.no_point) (behind-bare c r.bare e.one) (some-place c.behind (omega (arith, integers, e.places))))

    exponent-digits : (q : ℕ) → T (every is_digit (figure_pieces (from_cut s.items) (item_pieces (exponent_context s x) q (from_cut s.items))))
    unfolding exponent_context whole_context
    exponent-digits q = items-digits (exponent_context s x) refl q (from_cut s.items) rules.exponents.no_point rules.exponents.no_space

    -- "1 to n integer digits"
    digits : 0 < nat_abs x.coefficient → (10 ^ 15 ≤ mantissa_of exact n d) × (mantissa_of exact n d < 10 ^ (15 + n))
    unfolding number_exact
    digits pos =
        let r : Rules = rules in
        mantissa-digits (nat_abs x.coefficient) x.scale n d pos r.coefficient r.scale r.exponents.integer r.decimals

    -- "a number below 0 keeps a mantissa of at least 1": (b) holds back the minus of zero alone
    pub scientific-minus : 0 < nat_abs x.coefficient → shows_nought s x ≡ false
    unfolding shows_nought places_nought shows_general
    scientific-minus pos = rw (kind, ne_eqb (section_rounded s x) 0 (λ z. omega (arith, rounded-mantissa, (digits pos).0)))

    -- "the least multiple of n"
    least : 0 < nat_abs x.coefficient → LeastExponent exact n d (section_exponent s x)
    unfolding number_exact section_exponent
    least pos =
        let r : Rules = rules in
        exponent-least (nat_abs x.coefficient) x.scale n d pos r.coefficient r.scale r.exponents.integer r.decimals

    -- what the pieces show, where nought has no added minus
    pub scientific-of : (added : Bool) → (section_rounded s x ≡ 0 → added ≡ false)
        → ScientificOf exact s.items added (section_exponent s x).below (number_exactly s x) scientific_pieces
    unfolding number_exact section_exponent mantissa_of mantissa_at mantissa_exactly
    scientific-of added unsigned =
        let is : List Item = s.items in
        let ps : List (List ℕ) = item_pieces (exponent_context s x) (first_of (places_behind is)) (from_cut is) in
        let qs : List (List ℕ) = item_pieces (number_context s x) (first_of n) (before_cut is) in
        let all : length qs ≡ length (before_cut is) = along-length (item_units (number_context s x)) _ (first_of n) (before_cut is) in
        let front = units-front (λ (i : Item). is_place i || is_point i) (before_cut is) qs ps all in
        let behind = drop-front (length (before_cut is)) qs ps all in
        record {
          exponent = section_exponent s x;
          least = least;
          nought = exponent-nought exact n d;
          mantissa = record {
            number = mantissa_of exact n d;
            read = rw front mantissa-read;
            rounds = refl;
            near = near;
            no_minus_at_nought = λ z. unsigned (rounded-mantissa ∙ z);
            exactly = exactly-scientific s x kind ∙ read-exactly (divided_by exact (section_exponent s x)) d _ (rw front mantissa-read);
          };
          digits = digits;
          sign = refl;
          shown = rw behind (exponent-read (first_of (places_behind is)));
          plain = rw behind (exponent-digits (first_of (places_behind is)));
        }
