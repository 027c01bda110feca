-- The integer places of a body's items and the places behind its E or solidus, from its tokens.
-- Assumes nothing.
use Prim.Native.Nat.{ℕ, zero, suc, ◌+◌, ◌-◌, ◌≤◌, min}
use native.Mathlib.Omega.{arith}
use mathlib.Core.Path.{◌≡◌, refl, sym, ◌∙◌, ap}
use mathlib.Core.Bool.{Bool, true, false, cond, not, ◌&&◌, ◌||◌, true≢false}
use mathlib.Core.List.{List, [], ◌∷◌, ◌++◌, map}
use lib.ListN.{length, take, drop, length-take}
use lib.Seq.{take_all}
use lib.Dec.{ltb, eqb}
use borrow.Author.Tests.{le-leb, lt-leb, lt-ltb, le-ltb, eqb-true}
use native.Mathlib.Nat.{zero-min}
use Rattle.std.specs.List.{fold}
use Rattle.lists.specs.Lists.{count}
use Rattle.lists.proofs.Bools.{by_cases, and_parts}
use Rattle.lists.proofs.Counts.{count-least}
use Rattle.formats.specs.Tokens.{Token, literal, run, Letter}
use Rattle.formats.specs.Items as item
use Rattle.formats.specs.Items.{Item, from_cut, integer_places, places_behind, same_kind, date_kind}
use Rattle.formats.specs.Kinds.{form_of, integer_place_tokens, is_place, is_point, is_exponent, is_over, is_zero, is_seconds_token, leading_zeros, part_zeros, Piece, whole, second_part, pieces_from, run_item, token_items, piece_items, plain_items, date_items, body_kind, body_items}
use Rattle.formats.proofs.Each.{by_token, by-letter}
use Rattle.formats.proofs.FormedGrouping.{token-places, places-plain}
use Rattle.marks.specs.declared.Mark.{Mark}
use Rattle.marks.specs.Marks.{mark_rows, mark_token, condition_of, token_at, marked, tokens_in}
use Rattle.marks.proofs.ByForm.{by_form, zero-form, place-form, point-form, seconds-form, over-form}
use Rattle.marks.proofs.Buffer.{tokens-length}
use Rattle.bodies.specs.declared.facts.Facts.{Facts}
use Rattle.bodies.specs.Forms.{cut_form}
use Rattle.bodies.specs.Bodies.{has_place, exponent_place_tokens, facts_of}
use Rattle.bodies.proofs.Bodies.{integers-few}
use Rattle.emitting.specs.declared.Told.{Told}
use Rattle.emitting.specs.Emit.{ToldOf}
use Rattle.drafting.specs.declared.places.Parting.{Parting}
use Rattle.drafting.specs.declared.places.Places.{Places}
use Rattle.drafting.specs.Places.{places_of, is_cut, is_aside, date_places, date_places_of, has_place_form, part_form}

-- one more where it is a place
abbrev more : Bool → ℕ → ℕ
more b n = cond b (suc n) n

-- ---- the places of a token's items
-- all places, and those behind the first E or solidus
abbrev Counted : Token → List Item → List Item → Type 0
Counted t js is =
    (count item.is_place js ≡ more (has_place t) (count item.is_place is)) × (places_behind js ≡ cond (is_cut t) (count item.is_place is) (places_behind is))

literals-counted : (us : List ℕ) (is : List Item) → Counted (literal us) (map item.literal us ++ is) is
unfolding places_behind from_cut count
literals-counted [] is = (refl, refl)
literals-counted (u ∷ us) is = literals-counted us is

token-counted : (date : Bool) (t : Token) (is : List Item) → Counted t (token_items date t ++ is) is
unfolding places_behind from_cut count token_items run_item
token-counted date t is =
    by_token (λ (t : Token). Counted t (token_items date t ++ is) is)
    (λ us. literals-counted us is) (λ u. (refl, refl)) (λ u. (refl, refl)) (λ u. (refl, refl)) (λ p. (refl, refl))
    (by_cases date (λ e. rw e (refl, refl)) (λ e. rw e (refl, refl))) (by_cases date (λ e. rw e (refl, refl)) (λ e. rw e (refl, refl)))
    (refl, refl) (refl, refl) (refl, refl) (refl, refl) (λ h. (refl, refl))
    (λ l n. by-letter (λ (k : Letter). Counted (run k n) (run_item k n ∷ is) is) (refl, refl) (refl, refl) (refl, refl) (refl, refl) (refl, refl) l)
    (λ e n. (refl, refl)) (λ n. (refl, refl)) (λ w. (refl, refl)) (λ m. (refl, refl)) (λ p. (refl, refl)) (λ p n. (refl, refl)) t

-- the places of items on one side of the first cut, where one stands before them or not
abbrev side_places : Bool → Bool → List Item → ℕ
side_places false false is = integer_places is
side_places false true is = 0
side_places true false is = places_behind is
side_places true true is = count item.is_place is

token-side : (b met : Bool) (t : Token) (is : List Item)
    → side_places b met (token_items true t ++ is) ≡ more (has_place t && is_aside b met) (side_places b (met || is_cut t) is)
token-side false false t is =
    token-places true t is
    ∙ by_cases (is_point t) (λ p. rw (eqb-true (form_of t) 7 p))
    (λ p. by_cases (is_exponent t) (λ e. rw (eqb-true (form_of t) 25 e))
    (λ e. by_cases (is_place t) (λ q. rw (eqb-true (form_of t) 4 q)) (λ q. by_cases (is_over t) (λ o. rw (p, e, q, o)) (λ o. rw (p, e, q, o)))))
token-side false true t is = by_cases (has_place t) (λ q. rw q) (λ q. rw q)
token-side true false t is = (token-counted true t is).1 ∙ by_cases (has_place t) (λ q. rw q (by_cases (is_cut t) (λ e. rw e) (λ e. rw e))) (λ q. rw q (by_cases (is_cut t) (λ e. rw e) (λ e. rw e)))
token-side true true t is = (token-counted true t is).0 ∙ by_cases (has_place t) (λ q. rw q) (λ q. rw q)

part-side : (b met : Bool) (n : ℕ) (is : List Item) → side_places b met (item.part n ∷ is) ≡ side_places b met is
unfolding integer_places places_behind from_cut count
part-side false false n is = refl
part-side false true n is = refl
part-side true false n is = refl
part-side true true n is = refl

none-side : (b met : Bool) → side_places b met [] ≡ 0
unfolding integer_places places_behind from_cut count
none-side false false = refl
none-side false true = refl
none-side true false = refl
none-side true true = refl

zeros-room : (b : Bool) (t : Token) (ts : List Token) → part_zeros b t ts ≡ min (cond (b && is_point t) 3 0) (leading_zeros ts)
unfolding part_zeros
zeros-room b t ts = by_cases (b && is_point t) (λ e. rw e) (λ e. rw (e, zero-min (leading_zeros ts)))

-- a token that starts a part is a point
part-point : (b : Bool) (t : Token) (ts : List Token) → eqb (part_zeros b t ts) 0 ≡ false → is_point t ≡ true
unfolding part_zeros
part-point b t ts e = by_cases (b && is_point t)
    (λ p. (and_parts b (is_point t) p).1)
    (λ p. absurd (true≢false (rw p at e)))

-- ---- the places of a date
module _ (b : Bool) where
  -- the items of a token that belongs to no part, with those that follow
  piece-places : (met : Bool) (n : ℕ) (t : Token) (ps : List Piece) → (eqb n 0 ≡ false → is_point t ≡ true)
      → side_places b met (date_items (cond (eqb n 0) (whole t ∷ ps) (second_part n ∷ ps)))
      ≡ more (has_place t && is_aside b met) (side_places b (met || is_cut t) (date_items ps))
  unfolding date_items piece_items
  piece-places met n t ps h = by_cases (eqb n 0)
      (λ e. rw e (token-side b met t (date_items ps)))
      (λ e. rw (e, eqb-true (form_of t) 7 (h e)) (part-side b met n (date_items ps) ∙ by_cases met (λ m. rw m) (λ m. rw m)))

  -- a token that belongs to no part
  module _ (met behind : Bool) (t : Token) (ts : List Token) where
    abbrev room : ℕ
    room = cond (behind && is_point t) 3 0

    abbrev later : ℕ
    later = date_places b (met || is_cut t) (is_seconds_token t) room ts

    other-date : side_places b (met || is_cut t) (date_items (pieces_from (is_seconds_token t) (min room (leading_zeros ts)) ts)) ≡ later
        → side_places b met (date_items (pieces_from behind 0 (t ∷ ts))) ≡ more (has_place t && is_aside b met) later
    unfolding pieces_from
    other-date ih =
        piece-places met (part_zeros behind t ts) t (pieces_from (is_seconds_token t) (part_zeros behind t ts) ts) (part-point behind t ts)
        ∙ ap (λ (n : ℕ). more (has_place t && is_aside b met) n) (rw (zeros-room behind t ts) ih)

  -- the zeros that belong to a part are passed over
  places-skip : (met behind : Bool) (left : ℕ) (ts : List Token) (skip : ℕ) → skip ≡ min left (leading_zeros ts)
      → side_places b met (date_items (pieces_from behind skip ts)) ≡ date_places b met behind left ts
  unfolding date_places pieces_from date_items leading_zeros
  places-skip met behind left [] skip e = none-side b met
  places-skip met behind left (t ∷ ts) zero e =
      let n = room met behind t ts in
      let all = other-date met behind t ts (places-skip (met || is_cut t) (is_seconds_token t) n ts (min n (leading_zeros ts)) refl) in
      by_cases (is_zero t)
      (λ z. let y = rw z at e in let none : ltb 0 left ≡ false = le-ltb 0 left (omega arith) in rw (z, none) all)
      (λ z. rw z all)
  places-skip met behind left (t ∷ ts) (suc skip) e =
      by_cases (is_zero t)
      (λ z. let y = rw z at e in
      let some : ltb 0 left ≡ true = lt-ltb 0 left (omega arith) in
      rw (z, some) (places-skip met false (left - 1) ts skip (omega arith)))
      (λ z. let y = rw z at e in absurd (omega arith))

-- ---- the places of a body
count-plain : (ts : List Token) → count item.is_place (plain_items ts) ≡ count has_place ts
unfolding plain_items count
count-plain [] = refl
count-plain (t ∷ ts) = (token-counted false t (plain_items ts)).0 ∙ rw (count-plain ts)

exponents-plain : (ts : List Token) → places_behind (plain_items ts) ≡ exponent_place_tokens ts
unfolding plain_items places_behind from_cut exponent_place_tokens count
exponents-plain [] = refl
exponents-plain (t ∷ ts) = (token-counted false t (plain_items ts)).1 ∙ rw (exponents-plain ts, count-plain ts)

-- the places of a body by whether it is a date
abbrev places_by : Bool → List Token → Places
places_by date ts = cond date (date_places_of ts) (record { integers = integer_place_tokens ts; exponents = exponent_place_tokens ts })

places-body : (ts : List Token) → places_of (body_items ts) ≡ places_by (same_kind (body_kind ts) date_kind) ts
unfolding body_items
places-body ts =
    let start = sym (zero-min (leading_zeros ts)) in
    by_cases (same_kind (body_kind ts) date_kind)
    (λ e. rw (e, places-skip false false false 0 ts 0 start, places-skip true false false 0 ts 0 start))
    (λ e. rw (e, places-plain ts, exponents-plain ts))

exponents-few : (ts : List Token) → exponent_place_tokens ts ≤ length ts
unfolding exponent_place_tokens
exponents-few [] = omega arith
exponents-few (t ∷ ts) =
    let r = exponents-few ts in
    let s = count-least has_place ts in
    by_cases (is_cut t) (λ e. rw e (omega arith)) (λ e. rw e (omega arith))

module _ (f : Facts) (ms : List Mark) (same : (code : List ℕ) → f ≡ facts_of (tokens_in code ms)) where
  date-told : (code : List ℕ) → same_kind (body_kind (tokens_in code ms)) date_kind ≡ f.date
  unfolding facts_of
  date-told code = sym (ap (λ (g : Facts). g.date) (same code))

  places-told : (code : List ℕ) → integer_place_tokens (tokens_in code ms) ≡ f.places
  unfolding facts_of
  places-told code = sym (ap (λ (g : Facts). g.places) (same code))

  exponents-told : (code : List ℕ) → exponent_place_tokens (tokens_in code ms) ≡ f.exponents
  unfolding facts_of
  exponents-told code = sym (ap (λ (g : Facts). g.exponents) (same code))

  pub places-dated : (r : Places) → ((code : List ℕ) → r ≡ date_places_of (tokens_in code ms)) → f.date ≡ true
      → (code : List ℕ) → r ≡ places_of (body_items (tokens_in code ms))
  places-dated r h e code = h code ∙ sym (places-body (tokens_in code ms) ∙ rw (date-told code, e))

  pub places-other : f.date ≡ false → (code : List ℕ) → record { integers = f.places; exponents = f.exponents } ≡ places_of (body_items (tokens_in code ms))
  places-other e code = rw (← (places-told code), ← (exponents-told code)) (sym (places-body (tokens_in code ms) ∙ rw (date-told code, e)))

  pub places-bound : length ms ≤ 254 → (f.places ≤ 254) × (f.exponents ≤ 254)
  places-bound h =
      let n = tokens-length [] ms in
      (omega (arith, places-told [], integers-few (tokens_in [] ms)), omega (arith, exponents-told [], exponents-few (tokens_in [] ms)))

  -- what is told of a body by its facts and the places of its items
  pub told-of : (r : Told) → r.date ≡ f.date → r.fills ≡ f.fills → (r.integers ≤ 254) × (r.exponents ≤ 254)
      → ((code : List ℕ) → record { integers = r.integers; exponents = r.exponents } ≡ places_of (body_items (tokens_in code ms))) → (code : List ℕ) → ToldOf (tokens_in code ms) r
  unfolding facts_of
  told-of r d l few p code = record {
    date = d ∙ ap (λ (g : Facts). g.date) (same code);
    fills = l ∙ ap (λ (g : Facts). g.fills) (same code);
    integers = ap (λ (q : Places). q.integers) (p code);
    exponents = ap (λ (q : Places). q.exponents) (p code);
    few = few.0;
    later = few.1;
  }

-- ---- the pass over a date's tokens
-- the places met on one side of the cut
abbrev aside : Bool → Parting → ℕ
aside behind_cut s = cond behind_cut s.places.exponents s.places.integers

-- those, and those of the tokens behind
abbrev total : Bool → Parting → List Token → ℕ
total behind_cut s ts = aside behind_cut s + date_places behind_cut s.cut s.behind s.left ts

step-more : (b met p : Bool) (i e n : ℕ)
    → cond b e i + cond (p && is_aside b met) (suc n) n ≡ cond b (cond (p && met) (e + 1) e) (cond (p && not met) (i + 1) i) + n
step-more true true true i e n = omega arith
step-more true false true i e n = omega arith
step-more false true true i e n = omega arith
step-more false false true i e n = omega arith
step-more true met false i e n = refl
step-more false met false i e n = refl

cut-form : (f a : ℕ) (us : List ℕ) → is_cut (mark_token f a us) ≡ cut_form f
unfolding mark_rows condition_of
cut-form f a us = by_form is_cut cut_form a us refl (λ n h. sym (simp (le-leb 25 n (omega arith), lt-leb n 32 (omega arith)))) f

part_step : (b : Bool) (s : Parting) (f a : ℕ) (us : List ℕ) (ts : List Token) → total b s (mark_token f a us ∷ ts) ≡ total b (part_form s f) ts
unfolding date_places
part_step b s f a us ts =
    rw (zero-form f a us, seconds-form f a us, point-form f a us, cut-form f a us, place-form f a us, over-form f a us)
    (by_cases (eqb f 4 && ltb 0 s.left) (λ e. rw e) (λ e. rw e (step-more b s.cut (has_place_form f) s.places.integers s.places.exponents _)))

part-few : (s : Parting) (f : ℕ) → (part_form s f).places.integers + (part_form s f).places.exponents ≤ s.places.integers + s.places.exponents + 1
part-few s f = by_cases (eqb f 4 && ltb 0 s.left) (λ e. rw e (omega arith)) (λ e. rw e (go (has_place_form f) s.cut s.places.integers s.places.exponents))
  where
    go : (p met : Bool) (i e : ℕ) → cond (p && not met) (i + 1) i + cond (p && met) (e + 1) e ≤ i + e + 1
    go true true i e = omega arith
    go true false i e = omega arith
    go false met i e = omega arith

abbrev pub nothing_parted : Parting
nothing_parted = record { behind = false; left = 0; cut = false; places = record { integers = 0; exponents = 0 } }

abbrev pub part_marks : Parting → List Mark → Parting
part_marks s ms = fold (λ t m. part_form t m.form) s ms

marks-few : (s : Parting) (ms : List Mark) → (part_marks s ms).places.integers + (part_marks s ms).places.exponents ≤ s.places.integers + s.places.exponents + length ms
marks-few s [] = omega arith
marks-few s (m ∷ ms) = omega (arith, marks-few (part_form s m.form) ms, part-few s m.form)

marks-total : (b : Bool) (code : List ℕ) (s : Parting) (ms : List Mark) → total b s (tokens_in code ms) ≡ total b (part_marks s ms) []
unfolding tokens_in marked token_at
marks-total b code s [] = refl
marks-total b code s (m ∷ ms) =
    part_step b s m.form m.argument (drop (suc m.start) code) (map (marked code) ms) ∙ marks-total b code (part_form s m.form) ms

marks-aside : (b : Bool) (code : List ℕ) (ms : List Mark) → aside b (part_marks nothing_parted ms) ≡ date_places b false false 0 (tokens_in code ms)
unfolding date_places
marks-aside true code ms = omega (arith, marks-total true code nothing_parted ms)
marks-aside false code ms = omega (arith, marks-total false code nothing_parted ms)

-- what the loop of `date_places` needs, and what it gives
module _ (ms : List Mark) (k : ℕ) (s : Parting) (e : s ≡ part_marks nothing_parted (take k ms)) where
  pub part-room : s.places.integers + s.places.exponents ≤ k
  part-room = rw e (omega (arith, marks-few nothing_parted (take k ms), length-take k ms))

pub parting-end : (ms : List Mark) (s : Parting) → s ≡ part_marks nothing_parted (take (length ms) ms)
    → (code : List ℕ) → s.places ≡ date_places_of (tokens_in code ms)
parting-end ms s e code =
    let all : s ≡ part_marks nothing_parted ms = e ∙ ap (λ (l : List Mark). part_marks nothing_parted l) (take_all (length ms) ms (omega arith)) in
    rw (all, ← (marks-aside false code ms), ← (marks-aside true code ms))
