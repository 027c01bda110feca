-- Level 2, the bodies that are no dates: what each token of a body is, by the body's kind.
-- Assumes nothing.
use Prim.Native.Nat.{ℕ}
use mathlib.Core.Path.{◌≡◌, refl, sym, ◌∙◌}
use mathlib.Core.Bool.{Bool, true, false, not, ◌&&◌, true≢false}
use mathlib.Core.List.{List, [], ◌∷◌, map}
use Rattle.lists.specs.Lists.{every, any}
use Rattle.lists.proofs.Bools.{no, and_parts, by_cases}
use Rattle.lists.proofs.Counts.{every-both}
use Rattle.formats.specs.Tokens.{Token, literal, bare, blank, fill, place, point, comma, percent, at, semicolon, general, half, run, elapsed, colour, condition, exponent, over, over_fixed, Place, Letter, ExponentMark}
use Rattle.formats.specs.Items as item
use Rattle.formats.specs.Items.{Kind, text_kind, general_kind, date_kind, scientific_kind, fraction_kind, number_kind, literal_kind, same_kind, shows_places, item_allowed, kind_from}
use Rattle.formats.specs.Kinds.{is_semicolon, no_bracket, token_makes, body_kind, token_items, run_item, plain_items}
use Rattle.formats.proofs.Each.{by-letter, by_kind}
use Rattle.grammar.specs.Bodies.{Free, free-string, free-repeat, free-space, free-bare}
use Rattle.grammar.proofs.Tests.{both, every-parts, every_in}

-- a token of a body: no semicolon, no colour, no condition
abbrev pub in_body : Token → Bool
in_body t = not (is_semicolon t) && no_bracket t

-- what a token of a body of kind k is, where that kind is no date
pub data View : Kind → Token → Type 0 where
  v-free : {k : Kind} {t : Token} → Free t → View k t
  v-comma : {k : Kind} → View k comma
  v-place : {q : Place} → View number_kind (place q)
  v-point : View number_kind point
  v-percent : View number_kind percent
  v-at : View text_kind at
  v-general : View general_kind general
  v-scaled-place : {q : Place} → View scientific_kind (place q)
  v-scaled-point : View scientific_kind point
  v-exponent : {m : ExponentMark} → View scientific_kind (exponent m)
  v-part-place : {q : Place} → View fraction_kind (place q)
  v-over : {q : Place} → View fraction_kind (over q)
  v-over-fixed : {q : Place} {n : ℕ} → View fraction_kind (over_fixed q n)

-- the same of each token of a body
pub data Views (k : Kind) : List Token → Type 0 where
  v-end : Views k []
  v_next : {t : Token} {ts : List Token} → View k t → Views k ts → Views k (t ∷ ts)

run-allowed : (k : Kind) (l : Letter) (n : ℕ) → item_allowed k (run_item l n) ≡ same_kind date_kind k
unfolding item_allowed run_item
run-allowed k l n = by-letter (λ (m : Letter). item_allowed k (run_item m n) ≡ same_kind date_kind k) refl refl refl refl refl l

abbrev allowed : Kind → Token → Bool
allowed k t = every (item_allowed k) (token_items false t)

view : (k : Kind) (t : Token) → same_kind date_kind k ≡ false → in_body t ≡ true → allowed k t ≡ true → View k t
unfolding every item_allowed token_items no_bracket
view k (literal us) d b a = v-free (free-string us)
view k (bare u) d b a = v-free (free-bare u)
view k (blank u) d b a = v-free (free-space u)
view k (fill u) d b a = v-free (free-repeat u)
view k (place q) d b a = by_kind (λ (j : Kind). allowed j (place q) ≡ true → View j (place q)) no no no (λ e. v-place) no (λ e. v-scaled-place) (λ e. v-part-place) k a
view k point d b a = by_kind (λ (j : Kind). allowed j point ≡ true → View j point) no no no (λ e. v-point) no (λ e. v-scaled-point) no k a
view k comma d b a = v-comma
view k percent d b a = by_kind (λ (j : Kind). allowed j percent ≡ true → View j percent) no no no (λ e. v-percent) no no no k a
view k at d b a = by_kind (λ (j : Kind). allowed j at ≡ true → View j at) (λ e. v-at) no no no no no no k a
view k semicolon d b a = no b
view k general d b a = by_kind (λ (j : Kind). allowed j general ≡ true → View j general) no (λ e. v-general) no no no no no k a
view k (half h) d b a = no (rw d at a)
view k (run l n) d b a = no (rw (run-allowed k l n, d) at a)
view k (elapsed e n) d b a = no (rw d at a)
view k (colour n) d b a = no b
view k (condition w) d b a = no b
view k (exponent m) d b a = by_kind (λ (j : Kind). allowed j (exponent m) ≡ true → View j (exponent m)) no no no no no (λ e. v-exponent) no k a
view k (over q) d b a = by_kind (λ (j : Kind). allowed j (over q) ≡ true → View j (over q)) no no no no no no (λ e. v-over) k a
view k (over_fixed q n) d b a = by_kind (λ (j : Kind). allowed j (over_fixed q n) ≡ true → View j (over_fixed q n)) no no no no no no (λ e. v-over-fixed) k a

pub all-views : (k : Kind) → same_kind date_kind k ≡ false → (ts : List Token) → every in_body ts ≡ true → every (item_allowed k) (plain_items ts) ≡ true → Views k ts
unfolding plain_items
all-views k d [] b a = v-end
all-views k d (t ∷ ts) b a =
    let (b₁, b₂) = every-parts in_body t ts b in
    let (a₁, a₂) = and_parts (allowed k t) (every (item_allowed k) (plain_items ts)) (sym (every-both (item_allowed k) (token_items false t) (plain_items ts)) ∙ a) in
    v_next (view k t d b₁ a₁) (all-views k d ts b₂ a₂)

-- and the other way round
literals-allowed : (k : Kind) (us : List ℕ) → every (item_allowed k) (map item.literal us) ≡ true
unfolding every item_allowed
literals-allowed k [] = refl
literals-allowed k (u ∷ us) = literals-allowed k us

view-allowed : (k : Kind) (t : Token) → View k t → (in_body t ≡ true) × (allowed k t ≡ true)
unfolding every item_allowed token_items no_bracket
view-allowed k t (v-free (free-string us)) = (refl, literals-allowed k us)
view-allowed k t (v-free (free-repeat u)) = (refl, refl)
view-allowed k t (v-free (free-space u)) = (refl, refl)
view-allowed k t (v-free (free-bare u)) = (refl, refl)
view-allowed k t v-comma = (refl, refl)
view-allowed k t v-place = (refl, refl)
view-allowed k t v-point = (refl, refl)
view-allowed k t v-percent = (refl, refl)
view-allowed k t v-at = (refl, refl)
view-allowed k t v-general = (refl, refl)
view-allowed k t v-scaled-place = (refl, refl)
view-allowed k t v-scaled-point = (refl, refl)
view-allowed k t v-exponent = (refl, refl)
view-allowed k t v-part-place = (refl, refl)
view-allowed k t v-over = (refl, refl)
view-allowed k t v-over-fixed = (refl, refl)

pub views-body : {k : Kind} {ts : List Token} → Views k ts → every in_body ts ≡ true
unfolding every
views-body v-end = refl
views-body {k} (v_next {t = t} {ts = ts} v vs) = every_in in_body t ts (view-allowed k t v).0 (views-body vs)

pub views-allowed : {k : Kind} {ts : List Token} → Views k ts → every (item_allowed k) (plain_items ts) ≡ true
unfolding every plain_items
views-allowed v-end = refl
views-allowed {k} (v_next {t = t} {ts = ts} v vs) =
    every-both (item_allowed k) (token_items false t) (plain_items ts)
    ∙ both (allowed k t) (every (item_allowed k) (plain_items ts)) (view-allowed k t v).1 (views-allowed vs)

-- ---- kinds

-- a token of the body makes it of kind k
abbrev pub has : Kind → List Token → Bool
has k ts = any (token_makes k) ts

pub free-has : (k : Kind) {t : Token} (ts : List Token) → Free t → has k (t ∷ ts) ≡ has k ts
unfolding any token_makes
free-has k ts (free-string us) = refl
free-has k ts (free-repeat u) = refl
free-has k ts (free-space u) = refl
free-has k ts (free-bare u) = refl

-- no token of a body makes another kind, but for the places of a scientific one or a fraction
pub views-has : {k : Kind} {ts : List Token} → Views k ts → (j : Kind) → same_kind j k ≡ false → (shows_places k && same_kind j number_kind) ≡ false → has j ts ≡ false
unfolding any token_makes
views-has v-end j f g = refl
views-has (v_next {ts = ts} (v-free x) vs) j f g = free-has j ts x ∙ views-has vs j f g
views-has (v_next v-comma vs) j f g = views-has vs j f g
views-has (v_next v-place vs) j f g = rw f (views-has vs j f g)
views-has (v_next v-point vs) j f g = views-has vs j f g
views-has (v_next v-percent vs) j f g = views-has vs j f g
views-has (v_next v-at vs) j f g = rw f (views-has vs j f g)
views-has (v_next v-general vs) j f g = rw f (views-has vs j f g)
views-has (v_next v-scaled-place vs) j f g = rw g (views-has vs j f g)
views-has (v_next v-scaled-point vs) j f g = views-has vs j f g
views-has (v_next v-exponent vs) j f g = rw f (views-has vs j f g)
views-has (v_next v-part-place vs) j f g = rw g (views-has vs j f g)
views-has (v_next v-over vs) j f g = rw f (views-has vs j f g)
views-has (v_next v-over-fixed vs) j f g = rw f (views-has vs j f g)

pub kind-text : (ts : List Token) → has text_kind ts ≡ true → body_kind ts ≡ text_kind
unfolding body_kind kind_from
kind-text ts a = rw a

pub kind-general : (ts : List Token) → has text_kind ts ≡ false → has general_kind ts ≡ true → body_kind ts ≡ general_kind
unfolding body_kind kind_from
kind-general ts a b = rw (a, b)

pub kind-date : (ts : List Token) → has text_kind ts ≡ false → has general_kind ts ≡ false → has date_kind ts ≡ true → body_kind ts ≡ date_kind
unfolding body_kind kind_from
kind-date ts a b c = rw (a, b, c)

pub kind-scientific : (ts : List Token) → has text_kind ts ≡ false → has general_kind ts ≡ false → has date_kind ts ≡ false → has scientific_kind ts ≡ true → body_kind ts ≡ scientific_kind
unfolding body_kind kind_from
kind-scientific ts a b c d = rw (a, b, c, d)

pub kind-fraction : (ts : List Token) → has text_kind ts ≡ false → has general_kind ts ≡ false → has date_kind ts ≡ false → has scientific_kind ts ≡ false
    → has fraction_kind ts ≡ true → body_kind ts ≡ fraction_kind
unfolding body_kind kind_from
kind-fraction ts a b c d e = rw (a, b, c, d, e)

pub kind-number : (ts : List Token) → has text_kind ts ≡ false → has general_kind ts ≡ false → has date_kind ts ≡ false → has scientific_kind ts ≡ false
    → has fraction_kind ts ≡ false → has number_kind ts ≡ true → body_kind ts ≡ number_kind
unfolding body_kind kind_from
kind-number ts a b c d e f = rw (a, b, c, d, e, f)

pub kind-literal : (ts : List Token) → has text_kind ts ≡ false → has general_kind ts ≡ false → has date_kind ts ≡ false → has scientific_kind ts ≡ false
    → has fraction_kind ts ≡ false → has number_kind ts ≡ false → body_kind ts ≡ literal_kind
unfolding body_kind kind_from
kind-literal ts a b c d e f = rw (a, b, c, d, e, f)

-- a body of a kind other than literal has a token that makes it so
pub kind-has : (k : Kind) → same_kind k literal_kind ≡ false → (ts : List Token) → body_kind ts ≡ k → has k ts ≡ true
unfolding body_kind kind_from
kind-has k e ts h =
    by_cases (has text_kind ts) (λ a. found text_kind (rw a at h) a) (λ a.
    by_cases (has general_kind ts) (λ b. found general_kind (rw (a, b) at h) b) (λ b.
    by_cases (has date_kind ts) (λ c. found date_kind (rw (a, b, c) at h) c) (λ c.
    by_cases (has scientific_kind ts) (λ d. found scientific_kind (rw (a, b, c, d) at h) d) (λ d.
    by_cases (has fraction_kind ts) (λ f. found fraction_kind (rw (a, b, c, d, f) at h) f) (λ f.
    by_cases (has number_kind ts) (λ n. found number_kind (rw (a, b, c, d, f, n) at h) n) (λ n.
    let last : literal_kind ≡ k = rw (a, b, c, d, f, n) at h in
    absurd (true≢false (rw (← last) at e))))))))
  where
    found : (j : Kind) → j ≡ k → has j ts ≡ true → has k ts ≡ true
    found j f g = rw f at g
