-- The header words made from a section: they read back, are in range, and fit each other.
-- Assumes nothing.
use Prim.Native.Nat.{ℕ, ◌+◌, ◌-◌, ◌*◌, ◌/◌, ◌%◌, ◌^◌, ◌≤◌, ◌<◌}
use native.Mathlib.Omega.{arith}
use mathlib.Core.Path.{◌≡◌, refl}
use mathlib.Core.Bool.{Bool, true, false, not, ◌&&◌}
use mathlib.Core.Option.{Option, none, some}
use lib.ListN.{length}
use lib.Dec.{T, leb, ltb, eqb, leb→le, le→leb, ltb→lt, eqb→eq, eqb_refl}
use Rattle.lists.specs.Lists.{every, count, is_some}
use Rattle.lists.proofs.Bools.{and_left, and_right, and_in, true-T, by_cases}
use Rattle.formats.specs.Tokens.{Comparison}
use Rattle.formats.specs.Items.{Condition, Section, number_kind, same_kind, kind_of, is_percent, integer_places, whole_items, main_items, decimal_places, item_in_range, shows_places, places_behind}
use Rattle.formats.specs.Where.{implies}
use Rattle.formats.specs.Limits.{section_within}
use Rattle.formats.specs.WellFormed.{condition_in_range, dividing_fits, section_formed, section_fits}
use Rattle.tables.specs.Words.{Head}
use Rattle.tables.specs.Encode.{comparison_word, operator_word, bit, negative_word, whole_part, millionths_part, low_word, high_word, shift_word, flags_word, no_minus, has_half, decimals_word, head_of}
use Rattle.tables.specs.Decode.{comparison_at, two_words, whole_at, millionths_at, condition_at, grouped_at, thousands_at}
use Rattle.tables.specs.Rules.{head_in_range, condition_fits, shift_tells}
use Rattle.formats.proofs.Each.{by-comparison}
use Rattle.tables.proofs.Ranges.{head-in-ranges}
use Rattle.tables.proofs.Standing.{kind-most}

-- what a section that is formed keeps to
pub record Formed (s : Section) : Type 0 where
  pub colour-most : s.colour ≤ 56
  pub condition : T (condition_in_range s.condition)
  pub items-in-range : T (every item_in_range s.items)
  pub dividing : T (dividing_fits s)
  pub fits : T (section_fits s)
  pub within : T (section_within s)

pub formed : (s : Section) → T (section_formed s) → Formed s
unfolding section_formed section_fits
formed s t = search (and_left, and_right, leb→le) depth 12

pub record Within (s : Section) : Type 0 where
  pub wholes-most : integer_places (whole_items s.items) ≤ 20
  pub integers-most : integer_places (main_items s.items) ≤ 20
  pub decimals-most : decimal_places s.items ≤ 15
  pub exponents-most : places_behind s.items ≤ 3
  pub percents-most : count is_percent s.items ≤ 5
  pub thousands-most : s.thousands ≤ 5

pub within-limits : (s : Section) → T (section_within s) → Within s
unfolding section_within
within-limits s t = search (and_left, and_right, leb→le) depth 8

-- two words
pub words_back : (n : ℕ) → two_words (low_word n) (high_word n) ≡ n
unfolding two_words low_word high_word
words_back n = omega arith

low-word : (n : ℕ) → low_word n < 65536
unfolding low_word
low-word n = omega arith

high-word : (n : ℕ) → n ≤ 999999999 → high_word n < 65536
unfolding high_word
high-word n h = omega arith

-- the condition
comparison-back : (c : Comparison) → comparison_at (comparison_word c) ≡ c
unfolding comparison_at comparison_word
comparison-back = by-comparison (λ c. comparison_at (comparison_word c) ≡ c) refl refl refl refl refl refl

comparison-some : (c : Comparison) → eqb (comparison_word c) 0 ≡ false
unfolding comparison_word
comparison-some = by-comparison (λ c. eqb (comparison_word c) 0 ≡ false) refl refl refl refl refl refl

-- the operator word tells whether there is a condition
pub operator-some : (o : Option Condition) → not (eqb (operator_word o) 0) ≡ is_some o
unfolding operator_word is_some
operator-some none = refl
operator-some (some c) = rw (comparison-some c.comparison)

comparison-most : (c : Comparison) → comparison_word c ≤ 6
unfolding comparison_word
comparison-most =
    by-comparison (λ c. comparison_word c ≤ 6) (omega arith) (omega arith) (omega arith) (omega arith) (omega arith) (omega arith)

pub bit-most : (b : Bool) → bit b ≤ 1
unfolding bit
bit-most true = omega arith
bit-most false = omega arith

pub bit-back : (b : Bool) → eqb (bit b) 1 ≡ b
unfolding bit
bit-back true = refl
bit-back false = refl

-- the words of a header that are those of a condition, or of none
pub record Says (h : Head) (o : Option Condition) : Type 0 where
  pub operator : h.operator ≡ operator_word o
  pub negative : h.negative ≡ negative_word o
  pub whole : whole_at h ≡ whole_part o
  pub millionths : millionths_at h ≡ millionths_part o

pub says : (n i : ℕ) (first_has : Bool) (s : Section) → Says (head_of n i first_has s) s.condition
unfolding head_of whole_at millionths_at
says n i first_has s =
    record {
      operator = refl;
      negative = refl;
      whole = words_back (whole_part s.condition);
      millionths = words_back (millionths_part s.condition);
    }

pub condition-back : (h : Head) (o : Option Condition) → Says h o → condition_at h ≡ o
unfolding condition_at operator_word negative_word whole_part millionths_part
condition-back h none e = rw e.operator
condition-back h (some c) e =
    let m : c.millionths / 10 ^ 6 * 10 ^ 6 + c.millionths % 10 ^ 6 ≡ c.millionths = omega arith in
    rw (
      e.whole,
      e.millionths,
      e.operator,
      e.negative,
      comparison-some c.comparison,
      comparison-back c.comparison,
      bit-back c.negative,
      m,
    )

-- the flags
pub grouped-back : (grouping minus twelve : Bool) → grouped_at (flags_word grouping minus twelve) ≡ grouping
unfolding grouped_at flags_word
grouped-back g m t =
    let e : (bit g + 2 * bit m + 4 * bit t) % 2 ≡ bit g = omega (arith, bit-most g) in
    rw e (bit-back g)

flags-most : (grouping minus twelve : Bool) → flags_word grouping minus twelve ≤ 7
unfolding flags_word
flags-most g m t = omega (arith, bit-most g, bit-most m, bit-most t)

-- the shift
pub thousands-back : (p t : ℕ) → t ≤ 5 → thousands_at (15 + 2 * p - 3 * t) p ≡ t
unfolding thousands_at
thousands-back p t h = omega arith

pub shift-tells : (p t : ℕ) → t ≤ 5 → T (shift_tells (15 + 2 * p - 3 * t) p)
unfolding shift_tells
shift-tells p t h =
    let a : T (leb t 5) = le→leb t 5 h in
    let e : 15 + 2 * p - 3 * t + 3 * t ≡ 15 + 2 * p = omega arith in
    rw (thousands-back p t h, e) (and_in (leb t 5) (eqb (15 + 2 * p) (15 + 2 * p)) a (eqb_refl (15 + 2 * p)))

shift-most : (s : Section) → Within s → shift_word s ≤ 25
unfolding shift_word
shift-most s w = by_cases (same_kind (kind_of s) number_kind) (λ e. rw e (omega arith)) (λ e. rw e (omega arith))

decimals-most : (s : Section) → Within s → decimals_word s ≤ 15
unfolding decimals_word
decimals-most s w = by_cases (shows_places (kind_of s)) (λ e. rw e (omega arith)) (λ e. rw e (omega arith))

-- the words of a condition in range
record Ranges (o : Option Condition) : Type 0 where
  operator-most : operator_word o ≤ 6
  negative-most : negative_word o ≤ 1
  whole-most : whole_part o ≤ 999999999
  millionths-most : millionths_part o ≤ 999999

ranges : (o : Option Condition) → T (condition_in_range o) → Ranges o
unfolding condition_in_range operator_word negative_word whole_part millionths_part
ranges none t = omega arith
ranges (some c) t =
    let h : c.millionths < 10 ^ 15 = search (and_left, ltb→lt) in
    omega (arith, comparison-most c.comparison, bit-most c.negative)

pub head-in-range : (n i : ℕ) (first_has : Bool) (s : Section) → T (section_formed s) → length s.items ≤ 254
    → T (head_in_range (head_of n i first_has s))
unfolding head_of
head-in-range n i first_has s t h =
    let f = formed s t in
    let w = within-limits s f.within in
    let r = ranges s.condition f.condition in
    let e = says n i first_has s in
    head-in-ranges (head_of n i first_has s) record {
      kind = kind-most (kind_of s);
      colour = f.colour-most;
      operator = r.operator-most;
      negative = r.negative-most;
      whole_low = low-word (whole_part s.condition);
      whole_high = high-word (whole_part s.condition) r.whole-most;
      whole = rw e.whole r.whole-most;
      millionths_low = low-word (millionths_part s.condition);
      millionths_high = high-word (millionths_part s.condition) (omega arith);
      millionths = rw e.millionths r.millionths-most;
      shift = shift-most s w;
      flags = flags-most s.grouped (no_minus n i first_has s) (has_half s.items);
      decimals = decimals-most s w;
      items = h;
    }

not-zero : (m : ℕ) → 0 < m → T (eqb (m / 10 ^ 6) 0 && eqb (m % 10 ^ 6) 0) → ⊥
not-zero m h t =
    let whole : m / 10 ^ 6 ≡ 0 = search (and_left, eqb→eq) in
    let millionths : m % 10 ^ 6 ≡ 0 = search (and_left, and_right, eqb→eq) in
    omega arith

-- "(0 none, condition words 0 [..]), negative 0/1 (0 at zero)"
sign_fits : (negative : Bool) (m : ℕ) → T (implies negative (ltb 0 m))
    → T (implies (eqb (m / 10 ^ 6) 0 && eqb (m % 10 ^ 6) 0) (eqb (bit negative) 0))
unfolding bit
sign_fits true m t =
    let h : 0 < m = ltb→lt 0 m t in
    by_cases (eqb (m / 10 ^ 6) 0 && eqb (m % 10 ^ 6) 0) (λ e. absurd (not-zero m h (true-T e))) (λ e. rw e tt)
sign_fits false m t = by_cases (eqb (m / 10 ^ 6) 0 && eqb (m % 10 ^ 6) 0) (λ e. rw e tt) (λ e. rw e tt)

pub condition-fits : (h : Head) (o : Option Condition) → Says h o → T (condition_in_range o) → T (condition_fits h)
unfolding condition_fits condition_in_range operator_word negative_word whole_part millionths_part
condition-fits h none e t = rw (e.whole, e.millionths, e.operator, e.negative) tt
condition-fits h (some c) e t =
    let u : T (implies c.negative (ltb 0 c.millionths)) = search (and_left, and_right) in
    rw (e.whole, e.millionths, e.operator, e.negative, comparison-some c.comparison) (sign_fits c.negative c.millionths u)
