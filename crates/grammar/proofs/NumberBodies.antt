-- Level 2, number bodies: they fit their kind and keep the limits exactly when NFNumber derives them.
-- Assumes nothing.
use Prim.Native.Nat.{suc, ◌≤◌}
use native.Mathlib.Omega.{arith}
use mathlib.Core.Path.{◌≡◌, refl, sym, ap, ◌∙◌}
use mathlib.Core.Bool.{true, false}
use mathlib.Core.List.{List}
use Rattle.lists.specs.Lists.{every, any, count}
use Rattle.formats.specs.Tokens.{Token}
use Rattle.formats.specs.Items as item
use Rattle.formats.specs.Items.{text_kind, general_kind, date_kind, scientific_kind, fraction_kind, number_kind, Item, integer_places, item_allowed}
use Rattle.formats.specs.Kinds.{is_place, is_point, body_kind, token_makes, is_dividing, commas_fit, token_items, plain_items, body_items}
use Rattle.formats.proofs.CommaUses.{comma_uses_from, comma-uses}
use Rattle.grammar.specs.Bodies.{leading, is_percent, whole_places, decimal_places, NFNumber}
use Rattle.grammar.proofs.Quiet.{free-quiet, free-percent, free-kept, passed_over, quiet-any, quiet-wholes, quiet-decimals}
use Rattle.grammar.proofs.Kept.{sorts, count_kept, foreign, no-exponents}
use Rattle.grammar.proofs.DateItems.{short_none, plain-none}
use Rattle.grammar.proofs.Facts.{kept, Fitting, bare, no-exponent-places}
use Rattle.grammar.proofs.Plain.{v-free, v-comma, v-place, v-point, v-percent, Views, v-end, v_next, views-body, views-allowed, has, free-has, views-has, kind-number, kind-has}
use Rattle.grammar.proofs.PlainBodies.{free-count, plain_body, plain-facts, body-brackets, NoSemicolon}
use Rattle.grammar.proofs.Numbers.{num_of, num-counted}

-- ---- the items of a number's body are counted as its tokens are

abbrev Alike : List Token → Type 0
Alike ts =
    (count item.is_point (plain_items ts) ≡ count is_point ts)
    × (count item.is_percent (plain_items ts) ≡ count is_percent ts)
    × (count item.is_place (item.before_cut (plain_items ts)) ≡ count is_place ts)
    × (integer_places (plain_items ts) ≡ whole_places ts)
    × (item.decimal_places (plain_items ts) ≡ decimal_places ts)
    × (has number_kind ts ≡ any is_place ts)

alike : {ts : List Token} → Views number_kind ts → Alike ts
unfolding count plain_items token_items item.before_cut integer_places whole_places item.decimal_places decimal_places any token_makes
alike v-end = (refl, refl, refl, refl, refl, refl)
alike (v_next {t = t} {ts = ts} (v-free g) vs) =
    let (p, q, r, w, d, h) = alike vs in
    let is = plain_items ts in
    let quiet = free-quiet g in (
      free-count 4 refl refl refl is g ∙ p ∙ sym (passed_over is_point t ts quiet.no-point),
      free-count 5 refl refl refl is g ∙ q ∙ sym (passed_over is_percent t ts (free-percent g)),
      free-kept (λ (js : List Item). count item.is_place (item.before_cut js)) false (λ u js. refl) (λ u js. refl) (λ u js. refl) is g ∙ r ∙ sym (passed_over is_place t ts quiet.no_place),
      free-kept integer_places false (λ u js. refl) (λ u js. refl) (λ u js. refl) is g ∙ w ∙ sym (quiet-wholes ts quiet),
      free-kept item.decimal_places false (λ u js. refl) (λ u js. refl) (λ u js. refl) is g ∙ d ∙ sym (quiet-decimals ts quiet),
      free-has number_kind ts g ∙ h ∙ sym (quiet-any ts quiet),
    )
alike (v_next v-comma vs) = alike vs
alike (v_next v-place vs) = let (p, q, r, w, d, h) = alike vs in (p, q, ap suc r, ap suc w, d, refl)
alike (v_next v-point vs) = let (p, q, r, w, d, h) = alike vs in (ap suc p, q, r, refl, r, h)
alike (v_next v-percent vs) = let (p, q, r, w, d, h) = alike vs in (p, ap suc q, r, w, d, h)

-- ---- NFNumber

pub derive-number : (ts : List Token) → NoSemicolon ts → body_kind ts ≡ number_kind → Fitting ts → NFNumber ts
derive-number ts s h f =
    let p = plain-facts ts number_kind h refl refl refl s f in
    let vs = p.views in
    let items = plain_body ts number_kind h refl in
    let (points, percents, places, wholes, decimals, has-place) = alike vs in
    let few : count is_point ts ≤ 1 = rw (items, points) at f.points in
    let few-wholes : whole_places ts ≤ 20 = rw ((bare number_kind refl (body_items ts) (rw h at f.allowed)).wholes, items, wholes) at f.wholes in
    let few-decimals : decimal_places ts ≤ 15 = rw (items, decimals) at f.decimals in
    let has_one : any is_place ts ≡ true = sym has-place ∙ kind-has number_kind refl ts h in
    record {
      divisions = count is_dividing (comma_uses_from false false ts);
      num = num_of vs leading (record { placed = p.placed; points = few; ahead = has_one });
      wholes-most = omega arith;
      decimals-most = omega arith;
      percents-most = rw (items, percents) at f.percents;
      divisions-most = rw (h, comma-uses ts) at f.divisions;
    }

pub number_fits : (ts : List Token) → NFNumber ts → (body_kind ts ≡ number_kind) × Fitting ts
unfolding commas_fit sorts
number_fits ts d =
    let c = num-counted d.num in
    let vs = c.views in
    let (points, percents, places, wholes, decimals, has-place) = alike vs in
    let h = kind-number ts (views-has vs text_kind refl refl) (views-has vs general_kind refl refl) (views-has vs date_kind refl refl)
    (views-has vs scientific_kind refl refl) (views-has vs fraction_kind refl refl) (has-place ∙ c.holds.ahead) in
    let items = plain_body ts number_kind h refl in
    let few = c.holds.points in
    let a : every (item_allowed number_kind) (body_items ts) ≡ true = rw items (views-allowed vs) in
    let generals : count item.is_general (body_items ts) ≡ 0 = foreign number_kind 6 refl (body_items ts) a in
    let elapseds : count item.is_elapsed (kept ts) ≡ 0 = count_kept 15 refl refl (body_items ts) ∙ foreign number_kind 15 refl (body_items ts) a in
    let unbroken = bare number_kind refl (body_items ts) a in
    let divided = d.divisions-most in (
      h,
      record {
        brackets = body-brackets ts (views-body vs);
        commas = rw (h, comma-uses ts, c.holds.placed);
        fraction = unbroken.fraction;
        allowed = rw h a;
        generals = omega arith;
        points = rw (items, points) few;
        elapseds = omega arith;
        apart = plain-none (kept ts) elapseds;
        exponent = no-exponents (body_items ts) (foreign number_kind 17 refl (body_items ts) a);
        integers = omega (arith, unbroken.integers);
        wholes = rw (unbroken.wholes, items, wholes) (omega (arith, d.wholes-most));
        decimals = rw (items, decimals) (omega (arith, d.decimals-most));
        exponents = omega (arith, no-exponent-places number_kind refl refl (body_items ts) a);
        percents = rw (items, percents) d.percents-most;
        divisions = rw (h, comma-uses ts, c.counted) divided;
        short = short_none (kept ts) elapseds;
        small = unbroken.small;
      },
    )
