-- Grouping is asked for only with two integer places among the items.
-- Assumes nothing.
use Prim.Native.Nat.{ℕ, suc, ◌+◌, ◌≤◌}
use native.Mathlib.Omega.{arith}
use mathlib.Core.Path.{◌≡◌, refl, sym, ◌∙◌, ap}
use mathlib.Core.Bool.{Bool, true, false, cond, not, ◌&&◌, ◌||◌, true≢false}
use mathlib.Core.List.{List, [], ◌∷◌, ◌++◌, map, append_assoc}
use lib.Dec.{T, leb, le→leb}
use borrow.Author.Tests.{eqb-true, not-true}
use Rattle.lists.specs.Lists.{any}
use Rattle.lists.proofs.Bools.{by_cases, cond_both, and_left, and_right, T_true, true-T, implies-in, and_in, or-false}
use Rattle.formats.specs.Tokens.{Token, Letter}
use Rattle.formats.specs.Items as item
use Rattle.formats.specs.Items.{Item, number_kind, same_kind, kind_row, integer_places, settled, no_run, Kind, text_kind, general_kind, date_kind, scientific_kind, fraction_kind, literal_kind, kind_from, items_kind, kind_of}
use Rattle.formats.specs.Kinds.{form_of, is_place, is_point, is_comma, is_over, Parts, body_kind, CommaUse, divides, misplaced, is_grouping, integer_place_tokens, integer_place_in, use_of, uses_from, comma_uses, run_item, token_items, plain_items, body_items, last_fill, section_of, is_exponent, token_makes}
use Rattle.formats.specs.WellFormed.{grouping_fits}
use Rattle.formats.proofs.FormedItems.{places-last_fill, places-settled}
use Rattle.formats.proofs.Each.{by_token, by-letter}
use Rattle.lists.proofs.Counts.{any_same, any_append, any-either}
use Rattle.formats.proofs.FormedKinds.{kind-of-body}

literals-places : (us : List ℕ) (is : List Item) → integer_places (map item.literal us ++ is) ≡ integer_places is
unfolding integer_places
literals-places [] is = refl
literals-places (u ∷ us) is = literals-places us is

run-places : (l : Letter) (n : ℕ) (is : List Item) → integer_places (run_item l n ∷ is) ≡ integer_places is
unfolding integer_places run_item
run-places l n is = by-letter (λ (k : Letter). integer_places (run_item k n ∷ is) ≡ integer_places is) refl refl refl refl refl l

-- the integer places of a token's items in front of others
pub token-places : (date : Bool) (t : Token) (is : List Item) → integer_places (token_items date t ++ is)
    ≡ cond (is_point t) (cond date (integer_places is) 0)
    (cond (is_exponent t) 0 (cond (is_over t) 1 (cond (is_place t) (suc (integer_places is)) (integer_places is))))
unfolding integer_places token_items
token-places date t is =
    by_token
    (λ (t : Token). integer_places (token_items date t ++ is)
    ≡ cond (is_point t) (cond date (integer_places is) 0)
    (cond (is_exponent t) 0 (cond (is_over t) 1 (cond (is_place t) (suc (integer_places is)) (integer_places is)))))
    (λ us. literals-places us is) (λ u. refl) (λ u. refl) (λ u. refl) (λ p. refl)
    (by_cases date (λ e. rw e) (λ e. rw e)) (by_cases date (λ e. rw e) (λ e. rw e))
    refl refl refl refl (λ h. refl) (λ l n. run-places l n is) (λ e n. refl) (λ n. refl) (λ w. refl) (λ m. refl) (λ p. refl) (λ p n. refl) t

pub places-plain : (ts : List Token) → integer_places (plain_items ts) ≡ integer_place_tokens ts
unfolding plain_items integer_places integer_place_tokens
places-plain [] = refl
places-plain (t ∷ ts) = token-places false t (plain_items ts) ∙ rw (places-plain ts) (by_cases (is_point t) (λ e. rw e) (λ e. rw e))

-- an E, or a place with a solidus
abbrev is_cut : Token → Bool
is_cut t = is_exponent t || is_over t

-- the first of these tokens is neither, and no later one is
first-bare : (t : Token) (ts : List Token) → any is_cut (t ∷ ts) ≡ false → is_cut t ≡ false
unfolding any
first-bare t ts e = by_cases (is_cut t) (λ h. absurd (true≢false (rw h at e))) (λ h. h)

later-bare : (t : Token) (ts : List Token) → any is_cut (t ∷ ts) ≡ false → any is_cut ts ≡ false
unfolding any
later-bare t ts e = rw (first-bare t ts e) at e

place_in : (ts : List Token) → any is_cut ts ≡ false → integer_place_in ts ≡ true → 1 ≤ integer_place_tokens ts
unfolding integer_place_in integer_place_tokens
place_in [] b e = absurd (true≢false (sym e))
place_in (t ∷ ts) b e =
    let c = or-false (is_exponent t) (is_over t) (first-bare t ts b) in
    by_cases (is_point t)
    (λ h. absurd (true≢false (sym (rw h at e))))
    (λ h. rw (h, c.0, c.1) (by_cases (is_place t) (λ k. rw k (omega arith)) (λ k. rw k (place_in ts (later-bare t ts b) (rw (h, k) at e)))))

-- the integer places of tokens that hold no point, and of those that follow
places-append : (xs ys : List Token) → any is_cut xs ≡ false → any is_point xs ≡ false
    → integer_place_tokens (xs ++ ys) ≡ integer_place_tokens xs + integer_place_tokens ys
unfolding any integer_place_tokens
places-append [] ys b e = omega arith
places-append (x ∷ xs) ys b e =
    let c = or-false (is_exponent x) (is_over x) (first-bare x xs b) in
    by_cases (is_point x)
    (λ h. absurd (true≢false (rw h at e)))
    (λ h.
    let r = places-append xs ys (later-bare x xs b) (rw h at e) in
    rw (h, c.0, c.1) (by_cases (is_place x) (λ k. rw k (omega arith)) (λ k. rw k r)))

-- a comma asks for grouping
grouped-here : (before : List Token) (t : Token) (behind : List Token)
    → any is_cut before ≡ false → any is_cut behind ≡ false
    → is_comma t ≡ true → is_grouping (use_of before behind) ≡ true → 2 ≤ integer_place_tokens (before ++ (t ∷ behind))
unfolding use_of integer_place_tokens
grouped-here before t behind bb bh c e =
    let i = integer_place_in before in
    let p = not (any is_point before) in
    let j = integer_place_in behind in
    by_cases (i && p && j)
    (λ h.
    let a = and_left i p (and_left (i && p) j (true-T h)) in
    let b = and_right i p (and_left (i && p) j (true-T h)) in
    let n = not-true (any is_point before) (T_true p b) in
    let k = place_in before bb (T_true i a) in
    let l = place_in behind bh (T_true j (and_right (i && p) j (true-T h))) in
    rw (places-append before (t ∷ behind) bb n, eqb-true (form_of t) 8 c) (omega arith))
    (λ h. absurd (true≢false (sym (rw h at e)
    ∙ cond_both (λ (u : CommaUse). is_grouping u ≡ false) (i && p && not j) refl
    (cond_both (λ (u : CommaUse). is_grouping u ≡ false) (any is_place before && not (any is_place behind)) {x = divides} {y = misplaced} refl refl))))

grouped-two : (before ts : List Token) → any is_cut before ≡ false → any is_cut ts ≡ false
    → any is_grouping (uses_from before ts) ≡ true → 2 ≤ integer_place_tokens (before ++ ts)
unfolding any uses_from
grouped-two before [] bb bt e = absurd (true≢false (sym e))
grouped-two before (t ∷ ts) bb bt e =
    let bare : any is_cut (before ++ (t ∷ [])) ≡ false =
    any_append is_cut before (t ∷ []) ∙ rw (bb, first-bare t ts bt) in
    let later : any is_grouping (uses_from (before ++ (t ∷ [])) ts) ≡ true → 2 ≤ integer_place_tokens (before ++ (t ∷ ts))
    = λ g. rw (append_assoc before (t ∷ []) ts) at (grouped-two (before ++ (t ∷ [])) ts bare (later-bare t ts bt) g) in
    by_cases (is_comma t)
    (λ h. by_cases (is_grouping (use_of before ts)) (λ k. grouped-here before t ts bb (later-bare t ts bt) h k) (λ k. later (rw (h, k) at e)))
    (λ h. later (rw h at e))

number-plain : (ts : List Token) → same_kind (body_kind ts) number_kind ≡ true → body_items ts ≡ plain_items ts
unfolding body_items
number-plain ts e = rw (eqb-true (kind_row (body_kind ts)).number 5 e)

-- a number section has no E and no solidus
made-exponent : (t : Token) → token_makes scientific_kind t ≡ is_exponent t
unfolding token_makes
made-exponent =
    by_token (λ (t : Token). token_makes scientific_kind t ≡ is_exponent t) (λ us. refl) (λ u. refl) (λ u. refl) (λ u. refl) (λ p. refl)
    refl refl refl refl refl refl (λ h. refl) (λ l n. refl) (λ e n. refl) (λ n. refl) (λ w. refl) (λ m. refl) (λ p. refl) (λ p n. refl)

made-over : (t : Token) → token_makes fraction_kind t ≡ is_over t
unfolding token_makes
made-over =
    by_token (λ (t : Token). token_makes fraction_kind t ≡ is_over t) (λ us. refl) (λ u. refl) (λ u. refl) (λ u. refl) (λ p. refl)
    refl refl refl refl refl refl (λ h. refl) (λ l n. refl) (λ e n. refl) (λ n. refl) (λ w. refl) (λ m. refl) (λ p. refl) (λ p n. refl)

no_cut_lem : (a b c d e : Bool) (k : Kind)
    → same_kind (cond a text_kind (cond b general_kind (cond c date_kind (cond d scientific_kind (cond e fraction_kind k))))) number_kind ≡ true
    → (d ≡ false) × (e ≡ false)
no_cut_lem a b c false false k h = (refl, refl)
no_cut_lem true b c true e k h = absurd (true≢false (sym h))
no_cut_lem false true c true e k h = absurd (true≢false (sym h))
no_cut_lem false false true true e k h = absurd (true≢false (sym h))
no_cut_lem false false false true e k h = absurd (true≢false (sym h))
no_cut_lem true b c false true k h = absurd (true≢false (sym h))
no_cut_lem false true c false true k h = absurd (true≢false (sym h))
no_cut_lem false false true false true k h = absurd (true≢false (sym h))
no_cut_lem false false false false true k h = absurd (true≢false (sym h))

pub number-bare : (ts : List Token) → same_kind (body_kind ts) number_kind ≡ true → any is_cut ts ≡ false
unfolding body_kind kind_from
number-bare ts h =
    let none = no_cut_lem (any (token_makes text_kind) ts) (any (token_makes general_kind) ts) (any (token_makes date_kind) ts) (any (token_makes scientific_kind) ts)
    (any (token_makes fraction_kind) ts) (cond (any (token_makes number_kind) ts) number_kind literal_kind) h in
    any-either is_exponent is_over ts
    ∙ rw (← any_same (token_makes scientific_kind) is_exponent made-exponent ts, ← any_same (token_makes fraction_kind) is_over made-over ts, none.0, none.1)

pub grouping-fits : (p : Parts) → T (grouping_fits (section_of p))
unfolding grouping_fits kind_of section_of settled comma_uses any
grouping-fits p =
    let ts = p.body in
    let n = same_kind (body_kind ts) number_kind in
    let g = any is_grouping (uses_from [] ts) in
    let places = leb 2 (integer_places (settled (last_fill (body_items ts)))) in
    let kind = same_kind (items_kind (settled (last_fill (body_items ts)))) number_kind in
    implies-in (n && g) (kind && places)
    (λ h.
    let number : n ≡ true = T_true n (and_left n g (true-T h)) in
    let r = grouped-two [] ts refl (number-bare ts number) (T_true g (and_right n g (true-T h))) in
    and_in kind places (true-T (ap (λ k. same_kind k number_kind) (kind-of-body ts) ∙ number))
    (le→leb 2 (integer_places (settled (last_fill (body_items ts))))
    (rw (places-settled no_run (last_fill (body_items ts)), places-last_fill (body_items ts), number-plain ts number, places-plain ts) r)))
