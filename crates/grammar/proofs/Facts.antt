-- Level 2: that a section fits its kind and keeps the limits, as facts about the items of its body.
-- Assumes nothing.
use Prim.Native.Nat.{◌≤◌}
use mathlib.Core.Path.{◌≡◌, refl}
use mathlib.Core.Bool.{true, false, cond}
use mathlib.Core.List.{List}
use lib.Dec.{T, leb→le}
use borrow.Author.Tests.{le-leb}
use Rattle.lists.specs.Lists.{every, any, count}
use Rattle.lists.proofs.Bools.{and_left, and_right, T_true, true-T}
use Rattle.formats.specs.Tokens.{Token}
use Rattle.formats.specs.Items.{Item, Kind, scientific_kind, fraction_kind, number_kind, same_kind, item_allowed, items_kind, is_general, is_point, is_percent, is_elapsed, is_solidus, is_fixed, no_plain, items_fit, integer_places, decimal_places, places_behind, exponent_fits, whole_items, main_items, fraction_fits, settled}
use Rattle.formats.specs.Kinds.{Parts, body_kind, comma_uses, is_dividing, commas_fit, body_items, last_fill, section_of, no_bracket, fits}
use Rattle.formats.specs.Limits.{elapsed_short, fixed_small, section_within}
use Rattle.formats.proofs.FormedItems.{both-kept}
use Rattle.formats.proofs.Cutting.{bare-from, main-all, whole-none, held-bare}
use Rattle.formats.proofs.FormedKinds.{kind-of-body}
use Rattle.grammar.proofs.Tests.{unless, absent}
use Rattle.grammar.proofs.Fractions.{parts-kept}
use Rattle.grammar.proofs.Kept.{sorts, foreign, count_kept, allowed-kept, decimals-kept, exponents-kept, exponent-kept}

-- the items that a body makes, with its last fill alone and its runs of m settled
abbrev pub kept : List Token → List Item
kept ts = settled (last_fill (body_items ts))

pub record Fitting (ts : List Token) : Type 0 where
  pub brackets : every no_bracket ts ≡ true
  pub commas : commas_fit ts ≡ true
  pub fraction : fraction_fits (body_items ts) ≡ true
  pub allowed : every (item_allowed (body_kind ts)) (body_items ts) ≡ true
  pub generals : count is_general (body_items ts) ≤ 1
  pub points : count is_point (body_items ts) ≤ 1
  pub elapseds : count is_elapsed (kept ts) ≤ 1
  pub apart : every (no_plain (kept ts)) (kept ts) ≡ true
  pub exponent : exponent_fits (body_items ts) ≡ true
  pub integers : integer_places (whole_items (body_items ts)) ≤ 20
  pub wholes : integer_places (main_items (body_items ts)) ≤ 20
  pub decimals : decimal_places (body_items ts) ≤ 15
  pub exponents : places_behind (body_items ts) ≤ 3
  pub percents : count is_percent (body_items ts) ≤ 5
  pub divisions : cond (same_kind (body_kind ts) number_kind) (count is_dividing (comma_uses ts)) 0 ≤ 5
  pub short : every elapsed_short (kept ts) ≡ true
  pub small : every fixed_small (body_items ts) ≡ true

small-kept : (is : List Item) → every fixed_small (settled (last_fill is)) ≡ every fixed_small is
unfolding every fixed_small
small-kept = both-kept (every fixed_small) (λ i is js e. rw e) (λ u is. refl) (λ n is. refl)

pub fitting : (p : Parts) → fits p ≡ true → section_within (section_of p) ≡ true → Fitting p.body
unfolding fits section_of items_fit section_within
fitting p f w =
    let ts = p.body in
    let is = body_items ts in
    let all : T (fits p) = true-T f in
    let most : T (section_within (section_of p)) = true-T w in
    let fraction : fraction_fits is ≡ true = T_true (fraction_fits is) (search (and_left, and_right) depth 10) in
    let allowed : every (item_allowed (body_kind ts)) is ≡ true
    = rw (kind-of-body ts, allowed-kept (body_kind ts) is) at (T_true (every (item_allowed (items_kind (kept ts))) (kept ts)) (search (and_left, and_right) depth 10)) in
    let same = parts-kept (body_kind ts) is allowed fraction in
    record {
      brackets = T_true (every no_bracket ts) (search (and_left, and_right) depth 10);
      commas = T_true (commas_fit ts) (search (and_left, and_right) depth 10);
      fraction = fraction;
      allowed = allowed;
      generals = rw (count_kept 6 refl refl is) at (leb→le (count is_general (kept ts)) 1 (search (and_left, and_right) depth 10));
      points = rw (count_kept 4 refl refl is) at (leb→le (count is_point (kept ts)) 1 (search (and_left, and_right) depth 10));
      elapseds = leb→le (count is_elapsed (kept ts)) 1 (search (and_left, and_right) depth 10);
      apart = T_true (every (no_plain (kept ts)) (kept ts)) (search (and_left, and_right) depth 10);
      exponent = rw (exponent-kept is) at (T_true (exponent_fits (kept ts)) (search (and_left, and_right) depth 10));
      integers = rw same.integers at (leb→le (integer_places (whole_items (kept ts))) 20 (search (and_left, and_right) depth 10));
      wholes = rw same.numerators at (leb→le (integer_places (main_items (kept ts))) 20 (search (and_left, and_right) depth 10));
      decimals = rw (decimals-kept is) at (leb→le (decimal_places (kept ts)) 15 (search (and_left, and_right) depth 10));
      exponents = rw (exponents-kept is) at (leb→le (places_behind (kept ts)) 3 (search (and_left, and_right) depth 10));
      percents = rw (count_kept 5 refl refl is) at (leb→le (count is_percent (kept ts)) 5 (search (and_left, and_right) depth 10));
      divisions = leb→le (cond (same_kind (body_kind ts) number_kind) (count is_dividing (comma_uses ts)) 0) 5 (search (and_left, and_right) depth 10);
      short = T_true (every elapsed_short (kept ts)) (search (and_left, and_right) depth 10);
      small = rw (small-kept is) at (T_true (every fixed_small (kept ts)) (search (and_left, and_right) depth 10));
    }

pub fits-fitting : (p : Parts) → Fitting p.body → fits p ≡ true
unfolding fits section_of items_fit
fits-fitting p f =
    let is = body_items p.body in
    rw (
      f.brackets,
      f.commas,
      f.fraction,
      kind-of-body p.body,
      allowed-kept (body_kind p.body) is,
      f.allowed,
      count_kept 6 refl refl is,
      le-leb (count is_general is) 1 f.generals,
      count_kept 4 refl refl is,
      le-leb (count is_point is) 1 f.points,
      le-leb (count is_elapsed (kept p.body)) 1 f.elapseds,
      f.apart,
      exponent-kept is,
      f.exponent,
      (parts-kept (body_kind p.body) is f.allowed f.fraction).fits,
    )

pub within-fitting : (p : Parts) → Fitting p.body → section_within (section_of p) ≡ true
unfolding section_of section_within
within-fitting p f =
    let is = body_items p.body in
    let same = parts-kept (body_kind p.body) is f.allowed f.fraction in
    rw (
      same.integers,
      le-leb (integer_places (whole_items is)) 20 f.integers,
      same.numerators,
      le-leb (integer_places (main_items is)) 20 f.wholes,
      decimals-kept is,
      le-leb (decimal_places is) 15 f.decimals,
      exponents-kept is,
      le-leb (places_behind is) 3 f.exponents,
      count_kept 5 refl refl is,
      le-leb (count is_percent is) 5 f.percents,
      le-leb (cond (same_kind (body_kind p.body) number_kind) (count is_dividing (comma_uses p.body)) 0) 5 f.divisions,
      f.short,
      small-kept is,
      f.small,
    )

-- ---- where there is no solidus

pub record Bare (is : List Item) : Type 0 where
  pub fraction : fraction_fits is ≡ true
  pub integers : integer_places (whole_items is) ≡ 0
  pub wholes : integer_places (main_items is) ≡ integer_places is
  pub small : every fixed_small is ≡ true

pub bare : (k : Kind) → same_kind fraction_kind k ≡ false → (is : List Item) → every (item_allowed k) is ≡ true → Bare is
unfolding sorts fraction_fits fixed_small integer_places
bare k e is a =
    let none-numbered : count is_fixed is ≡ 0 = foreign k 19 e is a in
    let none-there : any is_solidus is ≡ false = absent is_solidus is (foreign k 18 e is a) in
    record {
      fraction = rw (none-there, absent is_fixed is none-numbered);
      integers = rw (whole-none is none-there);
      wholes = rw (main-all is none-there);
      small = unless is_fixed fixed_small (λ i h. rw h) is none-numbered;
    }

-- nor an E
pub no-exponent-places : (k : Kind) → same_kind k scientific_kind ≡ false → same_kind k fraction_kind ≡ false → (is : List Item)
    → every (item_allowed k) is ≡ true → places_behind is ≡ 0
unfolding places_behind count
no-exponent-places k e f is a = rw (bare-from is (held-bare k is e f (true-T a)))
