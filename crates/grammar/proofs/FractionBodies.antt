-- Level 2, fraction bodies: they fit their kind and keep the limits exactly when NFFraction derives them.
-- Assumes nothing.
use Prim.Native.Nat.{◌≤◌}
use native.Mathlib.Omega.{arith}
use mathlib.Core.Path.{◌≡◌, refl, sym, ◌∙◌}
use mathlib.Core.Bool.{true, false}
use mathlib.Core.List.{List}
use borrow.Author.Tests.{not-true}
use Rattle.lists.specs.Lists.{every, any, count}
use Rattle.formats.specs.Tokens.{Token}
use Rattle.formats.specs.Items.{text_kind, general_kind, date_kind, scientific_kind, fraction_kind, item_allowed, is_point, is_percent, is_general, is_elapsed, whole_items, main_items}
use Rattle.formats.specs.Kinds.{is_comma, body_kind, commas_fit, plain_items, body_items}
use Rattle.formats.proofs.Cutting.{no-decimals}
use Rattle.grammar.specs.Bodies.{apart, NFFraction}
use Rattle.grammar.proofs.Tests.{absent}
use Rattle.grammar.proofs.Fronts.{is_shown}
use Rattle.grammar.proofs.Kept.{sorts, count_kept, foreign, no-exponents}
use Rattle.grammar.proofs.DateItems.{short_none, plain-none}
use Rattle.grammar.proofs.Fractions.{wholes, mains, summed-fits, fits-parts}
use Rattle.grammar.proofs.Facts.{kept, Fitting}
use Rattle.grammar.proofs.Plain.{views-body, views-allowed, views-has, kind-fraction, kind-has}
use Rattle.grammar.proofs.PlainBodies.{plain_body, plain-views, body-brackets, NoSemicolon}
use Rattle.grammar.proofs.FractionTokens.{solidus-has, fraction-of, fraction-told}

pub derive-fraction : (ts : List Token) → NoSemicolon ts → every is_shown ts ≡ true → body_kind ts ≡ fraction_kind → Fitting ts → NFFraction ts
unfolding commas_fit whole_items main_items
derive-fraction ts s w h f =
    let items = plain_body ts fraction_kind h refl in
    let vs = plain-views ts fraction_kind h refl refl s f in
    let no-commas : any is_comma ts ≡ false = not-true (any is_comma ts) (rw h at f.commas) in
    let has_one = sym (solidus-has vs).0 ∙ kind-has fraction_kind refl ts h in
    let few-integers : wholes (plain_items ts) ≤ 20 = rw (items, has_one) at f.integers in
    let few-numerators : mains (plain_items ts) ≤ 20 = rw (items, has_one) at f.wholes in
    let parts = fits-parts (plain_items ts) has_one (rw items at f.fraction) in
    record {
      integers = wholes (plain_items ts);
      numerators = mains (plain_items ts);
      num = fraction-of vs no-commas w (rw items at f.small) (rw items at f.exponents) apart parts;
      integers-most = omega arith;
      numerators-most = omega arith;
    }

pub fraction-fits : (ts : List Token) → NFFraction ts → (body_kind ts ≡ fraction_kind) × Fitting ts
unfolding commas_fit sorts
fraction-fits ts d =
    let ((vs, no-commas, small), (few, most, sums)) = fraction-told d.num in
    let fraction = summed-fits (plain_items ts) sums in
    let h = kind-fraction ts (views-has vs text_kind refl refl) (views-has vs general_kind refl refl) (views-has vs date_kind refl refl)
    (views-has vs scientific_kind refl refl) ((solidus-has vs).0 ∙ fraction.some) in
    let items = plain_body ts fraction_kind h refl in
    let a : every (item_allowed fraction_kind) (body_items ts) ≡ true = rw items (views-allowed vs) in
    let points : count is_point (body_items ts) ≡ 0 = foreign fraction_kind 4 refl (body_items ts) a in
    let percents : count is_percent (body_items ts) ≡ 0 = foreign fraction_kind 5 refl (body_items ts) a in
    let generals : count is_general (body_items ts) ≡ 0 = foreign fraction_kind 6 refl (body_items ts) a in
    let elapseds : count is_elapsed (kept ts) ≡ 0 = count_kept 15 refl refl (body_items ts) ∙ foreign fraction_kind 15 refl (body_items ts) a in (
      h,
      record {
        brackets = body-brackets ts (views-body vs);
        commas = rw (h, no-commas);
        fraction = rw items fraction.fits;
        allowed = rw h a;
        generals = omega arith;
        points = omega arith;
        elapseds = omega arith;
        apart = plain-none (kept ts) elapseds;
        exponent = no-exponents (body_items ts) (foreign fraction_kind 17 refl (body_items ts) a);
        integers = rw (items, fraction.integers) (omega (arith, d.integers-most));
        wholes = rw (items, fraction.numerators) (omega (arith, d.numerators-most));
        decimals = omega (arith, no-decimals (body_items ts) (absent is_point (body_items ts) points));
        exponents = rw (items, fraction.denominators) most;
        percents = omega arith;
        divisions = rw h (omega arith);
        short = short_none (kept ts) elapseds;
        small = rw items small;
      },
    )
