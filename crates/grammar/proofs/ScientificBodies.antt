-- Level 2, scientific bodies: they fit their kind and keep the limits exactly when NFScientific derives them.
-- Assumes nothing.
use Prim.Native.Nat.{◌≤◌}
use native.Mathlib.Omega.{arith}
use mathlib.Core.Path.{◌≡◌, refl, sym, ◌∙◌}
use mathlib.Core.Bool.{true, false}
use mathlib.Core.List.{List}
use borrow.Author.Tests.{not-true}
use Rattle.lists.specs.Lists.{every, any, count}
use Rattle.lists.proofs.Bools.{by_cases}
use Rattle.lists.proofs.Counts.{any-count, none-count}
use Rattle.formats.specs.Tokens.{Token}
use Rattle.formats.specs.Items.{text_kind, general_kind, date_kind, scientific_kind, item_allowed, is_percent, is_general, is_elapsed, is_exponent, integer_places, decimal_places, places_behind}
use Rattle.formats.specs.Kinds.{is_comma, body_kind, commas_fit, plain_items, body_items}
use Rattle.grammar.specs.Bodies.{before_point, NFScientific}
use Rattle.grammar.proofs.Kept.{sorts, count_kept, foreign, Exponential, exponential, exponential-fits}
use Rattle.grammar.proofs.DateItems.{short_none, plain-none}
use Rattle.grammar.proofs.Facts.{kept, Fitting, bare}
use Rattle.grammar.proofs.Plain.{views-body, views-allowed, views-has, kind-scientific, kind-has}
use Rattle.grammar.proofs.PlainBodies.{plain_body, plain-views, body-brackets, NoSemicolon}
use Rattle.grammar.proofs.Scientific.{marks-has, scientific-of, scientific-summed}

pub derive-scientific : (ts : List Token) → NoSemicolon ts → body_kind ts ≡ scientific_kind → Fitting ts → NFScientific ts
unfolding commas_fit places_behind
derive-scientific ts s h f =
    let items = plain_body ts scientific_kind h refl in
    let vs = plain-views ts scientific_kind h refl refl s f in
    let no-commas : any is_comma ts ≡ false = not-true (any is_comma ts) (rw h at f.commas) in
    let marked : any is_exponent (plain_items ts) ≡ true = sym (marks-has vs) ∙ kind-has scientific_kind refl ts h in
    let e : Exponential (plain_items ts) = exponential (plain_items ts) marked (rw items at f.exponent) in
    let few = e.marks in
    let (integers, exponents) : (1 ≤ integer_places (plain_items ts)) × (1 ≤ places_behind (plain_items ts)) = (e.integers, e.exponents) in
    let few-integers : integer_places (plain_items ts) ≤ 20 = rw ((bare scientific_kind refl (body_items ts) (rw h at f.allowed)).wholes, items) at f.wholes in
    let few-decimals : decimal_places (plain_items ts) ≤ 15 = rw items at f.decimals in
    let few-exponents : places_behind (plain_items ts) ≤ 3 = rw items at f.exponents in
    let one : count is_exponent (plain_items ts) ≡ 1 = omega (arith, any-count is_exponent (plain_items ts) marked) in
    record {
      integers = integer_places (plain_items ts);
      decimals = decimal_places (plain_items ts);
      exponents = places_behind (plain_items ts);
      num = scientific-of vs no-commas before_point (rw items at f.points, one, e.no-point, e.no-space);
      integers-least = omega arith;
      exponents-least = omega arith;
      integers-most = omega arith;
      decimals-most = omega arith;
      exponents-most = omega arith;
    }

pub scientific-fits : (ts : List Token) → NFScientific ts → (body_kind ts ≡ scientific_kind) × Fitting ts
unfolding commas_fit places_behind sorts
scientific-fits ts d =
    let r = scientific-summed d.num in
    let vs = r.views in
    let (few, one, no-point, no-space) = r.held in
    let marked : any is_exponent (plain_items ts) ≡ true
    = by_cases (any is_exponent (plain_items ts)) (λ e. e) (λ e. absurd (omega (arith, none-count is_exponent (plain_items ts) e))) in
    let h = kind-scientific ts (views-has vs text_kind refl refl) (views-has vs general_kind refl refl) (views-has vs date_kind refl refl) (marks-has vs ∙ marked) in
    let items = plain_body ts scientific_kind h refl in
    let a : every (item_allowed scientific_kind) (body_items ts) ≡ true = rw items (views-allowed vs) in
    let unbroken = bare scientific_kind refl (body_items ts) a in
    let generals : count is_general (body_items ts) ≡ 0 = foreign scientific_kind 6 refl (body_items ts) a in
    let percents : count is_percent (body_items ts) ≡ 0 = foreign scientific_kind 5 refl (body_items ts) a in
    let elapseds : count is_elapsed (kept ts) ≡ 0 = count_kept 15 refl refl (body_items ts) ∙ foreign scientific_kind 15 refl (body_items ts) a in
    let integers : integer_places (plain_items ts) ≡ d.integers = r.integers in
    let decimals : decimal_places (plain_items ts) ≡ d.decimals = r.decimals in
    let exponents : places_behind (plain_items ts) ≡ d.exponents = r.exponents in
    let e : Exponential (plain_items ts)
    = record { marks = omega arith; integers = omega (arith, d.integers-least); exponents = omega (arith, d.exponents-least); no-point = no-point; no-space = no-space } in (
      h,
      record {
        brackets = body-brackets ts (views-body vs);
        commas = rw (h, r.no-commas);
        fraction = unbroken.fraction;
        allowed = rw h a;
        generals = omega arith;
        points = rw items few;
        elapseds = omega arith;
        apart = plain-none (kept ts) elapseds;
        exponent = rw items (exponential-fits (plain_items ts) e);
        integers = omega (arith, unbroken.integers);
        wholes = rw (unbroken.wholes, items) (omega (arith, d.integers-most));
        decimals = rw items (omega (arith, d.decimals-most));
        exponents = rw items (omega (arith, d.exponents-most));
        percents = omega arith;
        divisions = rw h (omega arith);
        short = short_none (kept ts) elapseds;
        small = unbroken.small;
      },
    )
