-- Level 2, text, General and literal bodies: they fit their kind exactly when NFText, NFGeneral or Literals derives them.
-- Assumes nothing.
use Prim.Native.Nat.{ℕ, suc, ◌≤◌}
use native.Mathlib.Omega.{arith}
use mathlib.Core.Path.{◌≡◌, refl, ap, ◌∙◌}
use mathlib.Core.Bool.{Bool, true, false, not, ◌||◌, true≢false}
use mathlib.Core.List.{List, [], ◌++◌}
use borrow.Author.Tests.{not-true}
use lib.Dec.{eqb}
use Rattle.lists.specs.Lists.{every, any, count}
use Rattle.lists.proofs.Bools.{no, and_parts}
use Rattle.formats.specs.Tokens.{Token}
use Rattle.formats.specs.Items as item
use Rattle.formats.specs.Items.{Item, Kind, text_kind, general_kind, date_kind, scientific_kind, fraction_kind, number_kind, literal_kind, same_kind, is_general, is_place, is_percent, is_point, is_elapsed, item_number}
use Rattle.formats.specs.Kinds.{is_semicolon, no_bracket, body_kind, token_makes, is_misplaced, commas_fit, token_items, plain_items, body_items}
use Rattle.formats.proofs.Cutting.{no-decimals}
use Rattle.formats.proofs.CommaUses.{comma_use, comma_uses_from, comma-uses}
use Rattle.grammar.specs.Bodies.{Free, Literals, literals_end, literals-free, NFGeneral, general-word, general-free, TextRest, text-end, text-more, text-literal, NFText, text_at, text-free}
use Rattle.grammar.proofs.Tests.{both, every-with, every-all, absent}
use Rattle.grammar.proofs.Quiet.{free-quiet, free-kept, quiet-commas}
use Rattle.grammar.proofs.Kept.{sorts, count_kept, foreign, no-integers, no-exponents}
use Rattle.grammar.proofs.DateItems.{short_none, plain-none}
use Rattle.grammar.proofs.Facts.{kept, Fitting, bare, no-exponent-places}
use Rattle.grammar.proofs.Plain.{in_body, v-free, v-comma, v-at, v-general, Views, v-end, v_next, all-views, views-body, views-allowed, has, free-has, views-has, kind-text, kind-general, kind-literal, kind-has}

-- ---- literals

-- items of these numbers come of no literal
pub free-count : (k : ℕ) → eqb 0 k ≡ false → eqb 1 k ≡ false → eqb 2 k ≡ false → {t : Token} (is : List Item) → Free t
    → count (λ (i : Item). eqb (item_number i) k) (token_items false t ++ is) ≡ count (λ (i : Item). eqb (item_number i) k) is
unfolding count
free-count k a b c is g = free-kept (count (λ (i : Item). eqb (item_number i) k)) false (λ u js. rw a) (λ u js. rw b) (λ u js. rw c) is g

-- ---- what fitting says of such a body, and what makes it fit

-- no semicolon: a section is a code's part between semicolons
abbrev pub plain_token : Token → Bool
plain_token t = not (is_semicolon t)

abbrev pub NoSemicolon : List Token → Type 0
NoSemicolon ts = every plain_token ts ≡ true

pub body-tokens : (ts : List Token) → NoSemicolon ts → every no_bracket ts ≡ true → every in_body ts ≡ true
body-tokens ts s b = every-with plain_token no_bracket in_body (λ t. both (plain_token t) (no_bracket t)) ts s b

pub body-brackets : (ts : List Token) → every in_body ts ≡ true → every no_bracket ts ≡ true
body-brackets ts b = every-all in_body no_bracket (λ t e. (and_parts (plain_token t) (no_bracket t) e).1) ts b

pub body-plain : (ts : List Token) → every in_body ts ≡ true → NoSemicolon ts
body-plain ts b = every-all in_body plain_token (λ t e. (and_parts (plain_token t) (no_bracket t) e).0) ts b

pub plain_body : (ts : List Token) (k : Kind) → body_kind ts ≡ k → same_kind k date_kind ≡ false → body_items ts ≡ plain_items ts
unfolding body_items
plain_body ts k h d = rw (h, d)

pub plain-views : (ts : List Token) (k : Kind) → body_kind ts ≡ k → same_kind date_kind k ≡ false → same_kind k date_kind ≡ false
    → NoSemicolon ts → Fitting ts → Views k ts
plain-views ts k h d d' s f = all-views k d ts (body-tokens ts s f.brackets) (rw (plain_body ts k h d', h) at f.allowed)

pub record PlainFacts (k : Kind) (ts : List Token) : Type 0 where
  pub views : Views k ts
  pub placed : any is_misplaced (comma_uses_from false false ts) ≡ false

pub plain-facts : (ts : List Token) (k : Kind) → body_kind ts ≡ k → same_kind date_kind k ≡ false → same_kind k date_kind ≡ false → (same_kind k scientific_kind || same_kind k fraction_kind) ≡ false
    → NoSemicolon ts → Fitting ts → PlainFacts k ts
unfolding commas_fit
plain-facts ts k h d d' e s f =
    record {
      views = plain-views ts k h d d' s f;
      placed = not-true (any is_misplaced (comma_uses_from false false ts)) (rw (h, e, d', comma-uses ts) at f.commas);
    }

-- a body of literals, and of `@` or General, fits where it has no comma and General at most once
quiet-fitting : (ts : List Token) (k : Kind) → body_kind ts ≡ k → same_kind k date_kind ≡ false → same_kind k scientific_kind ≡ false → same_kind k fraction_kind ≡ false
    → same_kind fraction_kind k ≡ false → same_kind k number_kind ≡ false
    → sorts k 3 ≡ false → sorts k 4 ≡ false → sorts k 5 ≡ false → sorts k 15 ≡ false → sorts k 17 ≡ false
    → Views k ts → comma_uses_from false false ts ≡ [] → count is_general (plain_items ts) ≤ 1 → Fitting ts
unfolding commas_fit any sorts
quiet-fitting ts k h d e r r' n s₃ s₄ s₅ s₁₅ s₁₇ vs c g =
    let a : every (item.item_allowed k) (body_items ts) ≡ true = rw (plain_body ts k h d) (views-allowed vs) in
    let places : count is_place (body_items ts) ≡ 0 = foreign k 3 s₃ (body_items ts) a in
    let points : count is_point (body_items ts) ≡ 0 = foreign k 4 s₄ (body_items ts) a in
    let percents : count is_percent (body_items ts) ≡ 0 = foreign k 5 s₅ (body_items ts) a in
    let elapseds : count is_elapsed (kept ts) ≡ 0 = count_kept 15 refl refl (body_items ts) ∙ foreign k 15 s₁₅ (body_items ts) a in
    let unbroken = bare k r' (body_items ts) a in
    record {
      brackets = body-brackets ts (views-body vs);
      commas = rw (h, e, r, d, comma-uses ts, c);
      fraction = unbroken.fraction;
      allowed = rw h a;
      generals = rw (plain_body ts k h d) g;
      points = omega arith;
      elapseds = omega arith;
      apart = plain-none (kept ts) elapseds;
      exponent = no-exponents (body_items ts) (foreign k 17 s₁₇ (body_items ts) a);
      integers = omega (arith, unbroken.integers);
      wholes = omega (arith, unbroken.wholes, no-integers (body_items ts) places);
      decimals = omega (arith, no-decimals (body_items ts) (absent is_point (body_items ts) points));
      exponents = omega (arith, no-exponent-places k e r (body_items ts) a);
      percents = omega arith;
      divisions = rw (h, n) (omega arith);
      short = short_none (kept ts) elapseds;
      small = unbroken.small;
    }

-- ---- Literals

literals-of : {ts : List Token} → Views literal_kind ts → any is_misplaced (comma_uses_from false false ts) ≡ false → Literals ts
unfolding comma_uses_from comma_use any
literals-of v-end c = literals_end
literals-of (v_next {ts = ts} (v-free g) vs) c = literals-free g (literals-of vs (rw (quiet-commas ts (free-quiet g) false false) at c))
literals-of (v_next v-comma vs) c = absurd (true≢false c)

-- what a derivation shows of its tokens: what they are, that they hold no comma, and how often General
pub literals-facts : {k : Kind} {ts : List Token} → Literals ts → Views k ts × (comma_uses_from false false ts ≡ []) × (count is_general (plain_items ts) ≡ 0)
unfolding comma_uses_from count plain_items
literals-facts literals_end = (v-end, refl, refl)
literals-facts (literals-free {ts = ts} g d) =
    let (v, c, n) = literals-facts d in
    (v_next (v-free g) v, quiet-commas ts (free-quiet g) false false ∙ c, free-count 6 refl refl refl (plain_items ts) g ∙ n)

pub derive-literals : (ts : List Token) → NoSemicolon ts → body_kind ts ≡ literal_kind → Fitting ts → Literals ts
derive-literals ts s h f = let p = plain-facts ts literal_kind h refl refl refl s f in literals-of p.views p.placed

pub literals-fit : (ts : List Token) → Literals ts → (body_kind ts ≡ literal_kind) × Fitting ts
unfolding sorts
literals-fit ts d =
    let (v, c, n) = literals-facts {k = literal_kind} d in
    let none : (j : Kind) → same_kind j literal_kind ≡ false → has j ts ≡ false = λ j e. views-has v j e refl in
    let h = kind-literal ts (none text_kind refl) (none general_kind refl) (none date_kind refl) (none scientific_kind refl) (none fraction_kind refl) (none number_kind refl) in
    (h, quiet-fitting ts literal_kind h refl refl refl refl refl refl refl refl refl refl v c (omega arith))

-- ---- NFGeneral

general-rest : {ts : List Token} → Views general_kind ts → any is_misplaced (comma_uses_from false false ts) ≡ false → count is_general (plain_items ts) ≡ 0 → Literals ts
unfolding comma_uses_from comma_use any count plain_items token_items
general-rest v-end c n = literals_end
general-rest (v_next {ts = ts} (v-free g) vs) c n =
    literals-free g (general-rest vs (rw (quiet-commas ts (free-quiet g) false false) at c) (rw (free-count 6 refl refl refl (plain_items ts) g) at n))
general-rest (v_next v-comma vs) c n = absurd (true≢false c)
general-rest (v_next v-general vs) c n = absurd (omega arith)

general-of : {ts : List Token} → Views general_kind ts → any is_misplaced (comma_uses_from false false ts) ≡ false → count is_general (plain_items ts) ≤ 1
    → has general_kind ts ≡ true → NFGeneral ts
unfolding comma_uses_from comma_use any count plain_items token_items
general-of v-end c n h = no h
general-of (v_next {ts = ts} (v-free g) vs) c n h =
    general-free g
    (general-of vs (rw (quiet-commas ts (free-quiet g) false false) at c) (rw (free-count 6 refl refl refl (plain_items ts) g) at n) (rw (free-has general_kind ts g) at h))
general-of (v_next v-comma vs) c n h = absurd (true≢false c)
general-of (v_next v-general vs) c n h = general-word (general-rest vs c (omega arith))

pub general-facts : {ts : List Token} → NFGeneral ts
    → Views general_kind ts × (comma_uses_from false false ts ≡ []) × (has general_kind ts ≡ true) × (count is_general (plain_items ts) ≡ 1)
unfolding comma_uses_from any token_makes count plain_items token_items
general-facts (general-word d) = let (v, c, n) = literals-facts d in (v_next v-general v, c, refl, ap suc n)
general-facts (general-free {ts = ts} g d) =
    let (v, c, h, n) = general-facts d in
    (v_next (v-free g) v, quiet-commas ts (free-quiet g) false false ∙ c, free-has general_kind ts g ∙ h, free-count 6 refl refl refl (plain_items ts) g ∙ n)

pub derive-general : (ts : List Token) → NoSemicolon ts → body_kind ts ≡ general_kind → Fitting ts → NFGeneral ts
derive-general ts s h f =
    let p = plain-facts ts general_kind h refl refl refl s f in
    general-of p.views p.placed (rw (plain_body ts general_kind h refl) at f.generals) (kind-has general_kind refl ts h)

pub general-fits : (ts : List Token) → NFGeneral ts → (body_kind ts ≡ general_kind) × Fitting ts
unfolding sorts
general-fits ts d =
    let (v, c, g, n) = general-facts d in
    let h = kind-general ts (views-has v text_kind refl refl) g in
    (h, quiet-fitting ts general_kind h refl refl refl refl refl refl refl refl refl refl v c (omega arith))

-- ---- NFText

rest-facts : {ts : List Token} → TextRest ts → Views text_kind ts × (comma_uses_from false false ts ≡ [])
unfolding comma_uses_from
rest-facts text-end = (v-end, refl)
rest-facts (text-more d) = let (v, c) = rest-facts d in (v_next v-at v, c)
rest-facts (text-literal {ts = ts} g d) = let (v, c) = rest-facts d in (v_next (v-free g) v, quiet-commas ts (free-quiet g) false false ∙ c)

pub text-facts : {ts : List Token} → NFText ts → Views text_kind ts × (comma_uses_from false false ts ≡ []) × (has text_kind ts ≡ true)
unfolding comma_uses_from any token_makes
text-facts (text_at d) = let (v, c) = rest-facts d in (v_next v-at v, c, refl)
text-facts (text-free {ts = ts} g d) =
    let (v, c, h) = text-facts d in
    (v_next (v-free g) v, quiet-commas ts (free-quiet g) false false ∙ c, free-has text_kind ts g ∙ h)

text-rest : {ts : List Token} → Views text_kind ts → any is_misplaced (comma_uses_from false false ts) ≡ false → TextRest ts
unfolding comma_uses_from comma_use any
text-rest v-end c = text-end
text-rest (v_next {ts = ts} (v-free g) vs) c = text-literal g (text-rest vs (rw (quiet-commas ts (free-quiet g) false false) at c))
text-rest (v_next v-comma vs) c = absurd (true≢false c)
text-rest (v_next v-at vs) c = text-more (text-rest vs c)

text-of : {ts : List Token} → Views text_kind ts → any is_misplaced (comma_uses_from false false ts) ≡ false → has text_kind ts ≡ true → NFText ts
unfolding comma_uses_from comma_use any
text-of v-end c h = no h
text-of (v_next {ts = ts} (v-free g) vs) c h =
    text-free g (text-of vs (rw (quiet-commas ts (free-quiet g) false false) at c) (rw (free-has text_kind ts g) at h))
text-of (v_next v-comma vs) c h = absurd (true≢false c)
text-of (v_next v-at vs) c h = text_at (text-rest vs c)

pub derive-text : (ts : List Token) → NoSemicolon ts → body_kind ts ≡ text_kind → Fitting ts → NFText ts
derive-text ts s h f =
    let p = plain-facts ts text_kind h refl refl refl s f in
    text-of p.views p.placed (kind-has text_kind refl ts h)

pub text-fits : (ts : List Token) → NFText ts → (body_kind ts ≡ text_kind) × Fitting ts
unfolding sorts
text-fits ts d =
    let (v, c, t) = text-facts d in
    let h = kind-text ts t in
    let n = foreign text_kind 6 refl (plain_items ts) (views-allowed v) in
    (h, quiet-fitting ts text_kind h refl refl refl refl refl refl refl refl refl refl v c (omega arith))
