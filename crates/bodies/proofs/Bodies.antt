-- What a body's tokens say of it: one pass gives the facts.
-- Assumes nothing.
use Prim.Native.Nat.{ℕ, suc, ◌+◌, ◌-◌, ◌*◌, ◌/◌, ◌%◌, ◌≤◌, ◌<◌}
use native.Mathlib.Nat.{add-zero, suc-mul, mul-le-mul_left, mul-le-mul_right}
use mathlib.Core.Path.{◌≡◌, refl, ap, ◌∙◌}
use mathlib.Core.Bool.{Bool, true, false, cond, not, ◌&&◌, ◌||◌}
use mathlib.Core.List.{List, [], ◌∷◌}
use mathlib.Core.Option.{Option, none, some}
use native.Mathlib.Omega.{arith}
use lib.Dec.{leb, ltb, eqb}
use borrow.Author.Tests.{le-leb, lt-leb, lt-ltb, le-ltb, ne_eqb, eqb-true, ltb-true, ltb-false}
use lib.ListN.{length, take, length-take}
use Rattle.std.specs.List.{fold}
use Rattle.lists.specs.Lists.{every, any, count}
use Rattle.lists.proofs.Bools.{by_cases, cond_both}
use Rattle.lists.proofs.Counts.{count-least, positive-count}
use Rattle.formats.specs.Tokens.{Token}
use Rattle.formats.specs.Items.{Kind, text_kind, general_kind, date_kind, scientific_kind, fraction_kind, number_kind, literal_kind, same_kind, is_kind, kind_from}
use Rattle.formats.specs.Kinds.{form_of, is_place, is_point, is_comma, is_exponent, is_over, is_fill_token, integer_place_tokens, no_bracket, token_row, token_makes, body_kind}
use Rattle.formats.proofs.Each.{by_kind}
use Rattle.marks.specs.declared.Mark.{Mark}
use Rattle.marks.specs.Marks.{mark_rows, mark_token, condition_of, tokens_in}
use Rattle.bodies.specs.declared.facts.Facts.{Facts}
use Rattle.bodies.specs.declared.facts.Seen.{Seen}
use Rattle.bodies.specs.Forms.{one, date_forms}
use Rattle.bodies.specs.Bodies.{has_place, exponent_place_tokens, facts_of, seen, see_form, Roomy}
use Rattle.marks.proofs.ByForm.{by_form}
use Rattle.marks.proofs.Buffer.{tokens-length, fold-end}
use Rattle.bodies.proofs.Tests.{see-grown}

-- the weight of a kind, by which it comes before others: no 254 tokens of lighter kinds weigh as much
abbrev weight_kind : Kind → ℕ
weight_kind literal_kind = 0
weight_kind number_kind = 1
weight_kind fraction_kind = 256
weight_kind scientific_kind = 65536
weight_kind date_kind = 16777216
weight_kind general_kind = 4294967296
weight_kind text_kind = 4294967296

abbrev weight_made : Option Kind → ℕ
weight_made none = 0
weight_made (some k) = weight_kind k

abbrev is_bracket : Token → Bool
is_bracket t = not (no_bracket t)

-- what stands above the kinds: brackets, fills, commas
abbrev above : ℕ → ℕ → ℕ → ℕ
above brackets fills commas = 1099511627776 * (brackets + 256 * (fills + 256 * commas))

abbrev weight_of : Token → ℕ
weight_of t = weight_made (token_row t).makes + above (one (is_bracket t)) (one (is_fill_token t)) (one (is_comma t))

abbrev unit_after : ℕ → Token → ℕ
unit_after unit t = cond (is_exponent t || is_over t) 65536 (cond (is_point t && eqb unit 1) 0 unit)

-- one token more
abbrev see : Seen → Token → Seen
see s t = seen s (weight_of t) (unit_after s.unit t) (has_place t)

abbrev pub nothing_seen : Seen
nothing_seen = record { sum = 0; unit = 1; places = 0 }

-- a sum of kinds that is at least the one, and below the other
abbrev within : ℕ → ℕ → ℕ → Bool
within least border n = leb least n && ltb n border

abbrev seen_facts : Seen → Facts
seen_facts s =
    let kinds = s.sum % 1099511627776 in
    record {
      date = within 16777216 4294967296 kinds;
      scientific = within 65536 16777216 kinds;
      fraction = within 256 65536 kinds;
      number = within 1 256 kinds;
      plain = eqb (s.sum / 1099511627776 % 256) 0;
      fills = s.sum / 281474976710656 % 256;
      commas = leb 72057594037927936 s.sum;
      places = s.places % 65536;
      exponents = s.places / 65536;
    }

no-date : (n : ℕ) → 22 < n → any (eqb n) date_forms ≡ false
unfolding any date_forms
no-date n h =
    rw (ne_eqb n 15 (omega arith), ne_eqb n 16 (omega arith), ne_eqb n 17 (omega arith), ne_eqb n 18 (omega arith), ne_eqb n 19 (omega arith), ne_eqb n 20 (omega arith), ne_eqb n 21 (omega arith), ne_eqb n 22 (omega arith))

-- what a token says, by its form
see-form : (s : Seen) (f a : ℕ) (us : List ℕ) → see s (mark_token f a us) ≡ see_form s f
unfolding mark_rows condition_of no_bracket any date_forms
see-form s f a us = by_form (see s) (see_form s) a us refl
    (λ n h. rw (lt-leb n 6 (omega arith), le-leb 4 n (omega arith), lt-leb n 32 (omega arith), le-leb 25 n (omega arith), no-date n (omega arith), ne_eqb n 12 (omega arith), ne_eqb n 10 (omega arith), ne_eqb n 23 (omega arith), ne_eqb n 24 (omega arith), ne_eqb n 3 (omega arith), ne_eqb n 8 (omega arith), ne_eqb n 7 (omega arith))) f

-- ---- the kind
-- a list of kinds by those that it holds
abbrev kind_by : Bool → Bool → Bool → Bool → Bool → Bool → Kind
kind_by text general date scientific fraction number =
    cond text text_kind
    (cond general general_kind (cond date date_kind (cond scientific scientific_kind (cond fraction fraction_kind (cond number number_kind literal_kind)))))

-- a kind, or none, in front of others: the higher weight is the weight of all
abbrev Higher : Option Kind → Bool → Bool → Bool → Bool → Bool → Bool → Type 0
Higher k a b c d e f =
    weight_kind (kind_by (cond (is_kind text_kind k) true a) (cond (is_kind general_kind k) true b) (cond (is_kind date_kind k) true c) (cond (is_kind scientific_kind k) true d) (cond (is_kind fraction_kind k) true e) (cond (is_kind number_kind k) true f))
    ≡ weight_made k + (weight_kind (kind_by a b c d e f) - weight_made k)

seven : (P : Bool → Bool → Bool → Bool → Bool → Bool → Type 0)
    → ((b c d e f : Bool) → P true b c d e f) → ((c d e f : Bool) → P false true c d e f) → ((d e f : Bool) → P false false true d e f)
    → ((e f : Bool) → P false false false true e f) → ((f : Bool) → P false false false false true f) → P false false false false false true → P false false false false false false
    → (a b c d e f : Bool) → P a b c d e f
seven P t g u s r n l true b c d e f = t b c d e f
seven P t g u s r n l false true c d e f = g c d e f
seven P t g u s r n l false false true d e f = u d e f
seven P t g u s r n l false false false true e f = s e f
seven P t g u s r n l false false false false true f = r f
seven P t g u s r n l false false false false false true = n
seven P t g u s r n l false false false false false false = l

higher : (k : Option Kind) (a b c d e f : Bool) → Higher k a b c d e f
higher none = seven (Higher none) (λ b c d e f. refl) (λ c d e f. refl) (λ d e f. refl) (λ e f. refl) (λ f. refl) refl refl
higher (some text_kind) = seven (Higher (some text_kind)) (λ b c d e f. refl) (λ c d e f. refl) (λ d e f. refl) (λ e f. refl) (λ f. refl) refl refl
higher (some general_kind) = seven (Higher (some general_kind)) (λ b c d e f. refl) (λ c d e f. refl) (λ d e f. refl) (λ e f. refl) (λ f. refl) refl refl
higher (some date_kind) = seven (Higher (some date_kind)) (λ b c d e f. refl) (λ c d e f. refl) (λ d e f. refl) (λ e f. refl) (λ f. refl) refl refl
higher (some scientific_kind) = seven (Higher (some scientific_kind)) (λ b c d e f. refl) (λ c d e f. refl) (λ d e f. refl) (λ e f. refl) (λ f. refl) refl refl
higher (some fraction_kind) = seven (Higher (some fraction_kind)) (λ b c d e f. refl) (λ c d e f. refl) (λ d e f. refl) (λ e f. refl) (λ f. refl) refl refl
higher (some number_kind) = seven (Higher (some number_kind)) (λ b c d e f. refl) (λ c d e f. refl) (λ d e f. refl) (λ e f. refl) (λ f. refl) refl refl
higher (some literal_kind) = seven (Higher (some literal_kind)) (λ b c d e f. refl) (λ c d e f. refl) (λ d e f. refl) (λ e f. refl) (λ f. refl) refl refl

weight-cons : (t : Token) (ts : List Token) → weight_kind (body_kind (t ∷ ts)) ≡ weight_made (token_row t).makes + (weight_kind (body_kind ts) - weight_made (token_row t).makes)
unfolding body_kind kind_from any token_makes
weight-cons t ts = higher (token_row t).makes (any (token_makes text_kind) ts) (any (token_makes general_kind) ts) (any (token_makes date_kind) ts) (any (token_makes scientific_kind) ts) (any (token_makes fraction_kind) ts) (any (token_makes number_kind) ts)

-- what the tokens weigh by the kinds that they make
unfoldable kinds_sum : List Token → ℕ
kinds_sum [] = 0
kinds_sum (t ∷ ts) = weight_made (token_row t).makes + kinds_sum ts

kinds-least : (ts : List Token) → weight_kind (body_kind ts) ≤ kinds_sum ts
unfolding kinds_sum body_kind kind_from any
kinds-least [] = omega arith
kinds-least (t ∷ ts) = omega (arith, weight-cons t ts, kinds-least ts)

kinds-most : (ts : List Token) → kinds_sum ts ≤ length ts * weight_kind (body_kind ts)
unfolding kinds_sum
kinds-most [] = omega arith
kinds-most (t ∷ ts) =
    let k = weight_kind (body_kind (t ∷ ts)) in
    let l = mul-le-mul_left {m = weight_kind (body_kind ts)} {n = k} (length ts) (omega (arith, weight-cons t ts)) in
    omega (arith, weight-cons t ts, kinds-most ts, suc-mul (length ts) k)

kind-most : (k : Kind) → weight_kind k ≤ 4294967296
kind-most =
    by_kind (λ (k : Kind). weight_kind k ≤ 4294967296) (omega arith) (omega arith) (omega arith) (omega arith) (omega arith) (omega arith) (omega arith)

-- the kind is told by the border that its tokens' sum does not pass
module _ (least border n : ℕ) where
  inside : least ≤ n → n < border → within least border n ≡ true
  inside h l = rw (le-leb least n h, lt-ltb n border l)

  under : n < least → within least border n ≡ false
  under h = rw (lt-leb least n h)

  over : border ≤ n → within least border n ≡ false
  over h = rw (le-ltb n border h) (by_cases (leb least n) (λ e. rw e) (λ e. rw e))

abbrev KindsTold : ℕ → Kind → Type 0
KindsTold n k =
    (within 16777216 4294967296 n ≡ same_kind k date_kind) × (within 65536 16777216 n ≡ same_kind k scientific_kind)
    × (within 256 65536 n ≡ same_kind k fraction_kind) × (within 1 256 n ≡ same_kind k number_kind)

kinds-told : (n : ℕ) (k : Kind) → weight_kind k ≤ n → n ≤ 254 * weight_kind k → KindsTold n k
kinds-told n =
    by_kind (λ (k : Kind). weight_kind k ≤ n → n ≤ 254 * weight_kind k → KindsTold n k)
    (λ l m. (over 16777216 4294967296 n (omega arith), over 65536 16777216 n (omega arith), over 256 65536 n (omega arith), over 1 256 n (omega arith)))
    (λ l m. (over 16777216 4294967296 n (omega arith), over 65536 16777216 n (omega arith), over 256 65536 n (omega arith), over 1 256 n (omega arith)))
    (λ l m. (inside 16777216 4294967296 n (omega arith) (omega arith), over 65536 16777216 n (omega arith), over 256 65536 n (omega arith), over 1 256 n (omega arith)))
    (λ l m. (under 16777216 4294967296 n (omega arith), under 65536 16777216 n (omega arith), under 256 65536 n (omega arith), inside 1 256 n (omega arith) (omega arith)))
    (λ l m. (under 16777216 4294967296 n (omega arith), under 65536 16777216 n (omega arith), under 256 65536 n (omega arith), under 1 256 n (omega arith)))
    (λ l m. (under 16777216 4294967296 n (omega arith), inside 65536 16777216 n (omega arith) (omega arith), over 256 65536 n (omega arith), over 1 256 n (omega arith)))
    (λ l m. (under 16777216 4294967296 n (omega arith), under 65536 16777216 n (omega arith), inside 256 65536 n (omega arith) (omega arith), over 1 256 n (omega arith)))

-- ---- the sum
count-cons : (f : Token → Bool) (t : Token) (ts : List Token) → count f (t ∷ ts) ≡ one (f t) + count f ts
unfolding count
count-cons f t ts = by_cases (f t) (λ e. rw e (omega arith)) (λ e. rw e (omega arith))

abbrev sum_of : List Token → ℕ
sum_of ts = kinds_sum ts + above (count is_bracket ts) (count is_fill_token ts) (count is_comma ts)

sum-seen : (s : Seen) (ts : List Token) → (fold see s ts).sum ≡ s.sum + sum_of ts
unfolding kinds_sum
sum-seen s [] = unfold count in omega arith
sum-seen s (t ∷ ts) = omega (arith, sum-seen (see s t) ts, count-cons is_bracket t ts, count-cons is_fill_token t ts, count-cons is_comma t ts)

-- the digits of the sum
module _ (k b f c : ℕ) (h : k < 1099511627776) (g : b < 256) (l : f < 256) where
  abbrev all : ℕ
  all = k + above b f c

  kinds-digit : all % 1099511627776 ≡ k
  kinds-digit = omega arith

  brackets-digit : all / 1099511627776 % 256 ≡ b
  brackets-digit = omega arith

  fills-digit : all / 281474976710656 % 256 ≡ f
  fills-digit = omega arith

  commas-digit : leb 72057594037927936 all ≡ ltb 0 c
  commas-digit = by_cases (ltb 0 c)
      (λ e. let n = ltb-true 0 c e in rw (e, le-leb 72057594037927936 all (omega arith)))
      (λ e. let n = ltb-false 0 c e in rw (e, lt-leb 72057594037927936 all (omega arith)))

plain-told : (ts : List Token) → eqb (count is_bracket ts) 0 ≡ every no_bracket ts
unfolding count every
plain-told [] = refl
plain-told (t ∷ ts) = by_cases (no_bracket t) (λ e. rw e (plain-told ts)) (λ e. rw (e, ne_eqb (suc (count is_bracket ts)) 0 (omega arith)))

-- ---- the places
-- where the places met add: to the integer places, to none behind the point, to the later places behind an E or solidus
data Phase : Type 0 where
  whole decimal behind_e : Phase

abbrev unit_of : Phase → ℕ
unit_of whole = 1
unit_of decimal = 0
unit_of behind_e = 65536

abbrev pointed : Phase → Phase
pointed whole = decimal
pointed decimal = decimal
pointed behind_e = behind_e

abbrev phase_after : Phase → Token → Phase
phase_after p t = cond (is_exponent t || is_over t) behind_e (cond (is_point t) (pointed p) p)

-- what the places of tokens add
abbrev places_told : Phase → List Token → ℕ
places_told whole ts = integer_place_tokens ts + 65536 * exponent_place_tokens ts
places_told decimal ts = 65536 * exponent_place_tokens ts
places_told behind_e ts = 65536 * count has_place ts

unit-phase : (p : Phase) (t : Token) → unit_after (unit_of p) t ≡ unit_of (phase_after p t)
unit-phase whole t = by_cases (is_exponent t || is_over t) (λ e. rw e) (λ e. by_cases (is_point t) (λ h. rw (e, h)) (λ h. rw (e, h)))
unit-phase decimal t = by_cases (is_exponent t || is_over t) (λ e. rw e) (λ e. by_cases (is_point t) (λ h. rw (e, h)) (λ h. rw (e, h)))
unit-phase behind_e t = by_cases (is_exponent t || is_over t) (λ e. rw e) (λ e. by_cases (is_point t) (λ h. rw (e, h)) (λ h. rw (e, h)))

-- a token is a place, a point, an E, a place with a solidus, or nothing of these
by-sort : (P : Type 0) (t : Token) → (form_of t ≡ 4 → P) → (form_of t ≡ 7 → P) → (form_of t ≡ 25 → P) → (form_of t ≡ 27 → P) → (form_of t ≡ 30 → P)
    → (is_place t ≡ false → is_point t ≡ false → is_exponent t ≡ false → is_over t ≡ false → P) → P
by-sort P t place point an_e over fixed other =
    by_cases (is_place t) (λ a. place (eqb-true (form_of t) 4 a))
    (λ a. by_cases (is_point t) (λ b. point (eqb-true (form_of t) 7 b))
    (λ b. by_cases (is_exponent t) (λ c. an_e (eqb-true (form_of t) 25 c))
    (λ c. by_cases (eqb (form_of t) 27) (λ d. over (eqb-true (form_of t) 27 d))
    (λ d. by_cases (eqb (form_of t) 30) (λ e. fixed (eqb-true (form_of t) 30 e)) (λ e. other a b c (rw (d, e) refl))))))

places-turn : (p : Phase) (n : ℕ) (t : Token) (ts : List Token)
    → cond (has_place t) (n + unit_of p) n + places_told (phase_after p t) ts ≡ n + places_told p (t ∷ ts)
unfolding integer_place_tokens exponent_place_tokens count
places-turn whole n t ts = by-sort _ t (λ e. rw e (omega arith)) (λ e. rw e (omega arith)) (λ e. rw e (omega arith)) (λ e. rw e (omega arith)) (λ e. rw e (omega arith)) (λ a b c d. rw (a, b, c, d))
places-turn decimal n t ts = by-sort _ t (λ e. rw e (omega arith)) (λ e. rw e (omega arith)) (λ e. rw e (omega arith)) (λ e. rw e (omega arith)) (λ e. rw e (omega arith)) (λ a b c d. rw (a, b, c, d))
places-turn behind_e n t ts = by-sort _ t (λ e. rw e (omega arith)) (λ e. rw e (omega arith)) (λ e. rw e (omega arith)) (λ e. rw e (omega arith)) (λ e. rw e (omega arith)) (λ a b c d. rw (a, b, c, d))

places-seen : (p : Phase) (s : Seen) (ts : List Token) → s.unit ≡ unit_of p → (fold see s ts).places ≡ s.places + places_told p ts
places-seen whole s [] e = unfold integer_place_tokens exponent_place_tokens in omega arith
places-seen decimal s [] e = unfold exponent_place_tokens in omega arith
places-seen behind_e s [] e = unfold count in omega arith
places-seen p s (t ∷ ts) e =
    places-seen (phase_after p t) (see s t) ts (ap (λ (u : ℕ). unit_after u t) e ∙ unit-phase p t)
    ∙ ap (λ (u : ℕ). cond (has_place t) (s.places + u) s.places + places_told (phase_after p t) ts) e
    ∙ places-turn p s.places t ts

pub integers-few : (ts : List Token) → integer_place_tokens ts ≤ length ts
unfolding integer_place_tokens
integers-few [] = omega arith
integers-few (t ∷ ts) =
    let r = integers-few ts in
    most (is_point t || is_exponent t) (omega arith) (most (is_over t) (omega arith) (most (is_place t) (omega arith) (omega arith)))
  where
    most : (b : Bool) {m n : ℕ} → m ≤ suc (length ts) → n ≤ suc (length ts) → cond b m n ≤ suc (length ts)
    most b h k = cond_both (λ (n : ℕ). n ≤ suc (length ts)) b h k

-- one pass gives the facts
pub facts-seen : (ts : List Token) → length ts ≤ 254 → seen_facts (fold see nothing_seen ts) ≡ facts_of ts
unfolding facts_of
facts-seen ts h =
    let kind = body_kind ts in
    let most : kinds_sum ts ≤ 254 * weight_kind kind = let m = mul-le-mul_right (weight_kind kind) h in omega (arith, kinds-most ts) in
    let k : kinds_sum ts < 1099511627776 = omega (arith, kind-most kind) in
    let b : count is_bracket ts < 256 = omega (arith, count-least is_bracket ts) in
    let f : count is_fill_token ts < 256 = omega (arith, count-least is_fill_token ts) in
    let told = kinds-told (kinds_sum ts) kind (kinds-least ts) most in
    let sum : (fold see nothing_seen ts).sum ≡ sum_of ts = sum-seen nothing_seen ts ∙ omega arith in
    let places : (fold see nothing_seen ts).places ≡ places_told whole ts = places-seen whole nothing_seen ts refl ∙ omega arith in
    let integers : places_told whole ts % 65536 ≡ integer_place_tokens ts = omega (arith, integers-few ts) in
    let exponents : places_told whole ts / 65536 ≡ exponent_place_tokens ts = omega (arith, integers-few ts) in
    rw (
      sum,
      places,
      kinds-digit _ _ _ (count is_comma ts) k b f,
      brackets-digit _ _ _ (count is_comma ts) k b f,
      fills-digit _ _ _ (count is_comma ts) k b f,
      commas-digit _ _ _ (count is_comma ts) k b f,
      told.0,
      told.1,
      told.2,
      told.3,
      plain-told ts,
      positive-count is_comma ts,
      integers,
      exponents,
    )

-- ---- the pass
abbrev pub see_marks : Seen → List Mark → Seen
see_marks s ms = fold (λ t m. see_form t m.form) s ms

-- what k tokens add at most
record Few (k : ℕ) (s : Seen) : Type 0 where
  sum : s.sum ≤ k * 72057594037927936
  unit : s.unit ≤ 65536
  places : s.places ≤ k * 65536

marks-few : (k : ℕ) (s : Seen) (ms : List Mark) → Few k s → Few (k + length ms) (see_marks s ms)
marks-few k s [] f = rw (add-zero k) f
marks-few k s (m ∷ ms) f =
    let g = see-grown s m.form f.unit in
    let step : Few (k + 1) (see_form s m.form) = record { sum = omega (arith, g, f); unit = g.1; places = omega (arith, g, f) } in
    let e : k + suc (length ms) ≡ k + 1 + length ms = omega arith in
    rw e (marks-few (k + 1) (see_form s m.form) ms step)

-- what the loop of `facts_of` needs, and what it gives
seen-few : (ms : List Mark) (k : ℕ) (s : Seen) → s ≡ see_marks nothing_seen (take k ms) → Few (0 + length (take k ms)) s
seen-few ms k s e = rw e (marks-few 0 nothing_seen (take k ms) (record { sum = omega arith; unit = omega arith; places = omega arith }))

module _ (ms : List Mark) (h : length ms ≤ 254) (s : Seen) where
  pub see-room : (k : ℕ) → k < length ms → s ≡ see_marks nothing_seen (take k ms) → Roomy s
  see-room k l e =
      let f = seen-few ms k s e in
      let t = length-take k ms in
      record { sum = omega (arith, f); unit = f.unit; places = omega (arith, f) }

  module _ (e : s ≡ see_marks nothing_seen (take (length ms) ms)) where
    pub see-small : s.places / 65536 < 65536
    see-small = let f = seen-few ms (length ms) s e in let t = length-take (length ms) ms in omega (arith, f)

    pub see-end : (code : List ℕ) → seen_facts s ≡ facts_of (tokens_in code ms)
    see-end code =
        ap seen_facts (e ∙ fold-end code see see_form see-form nothing_seen ms)
        ∙ facts-seen (tokens_in code ms) (rw (tokens-length code ms) h)
