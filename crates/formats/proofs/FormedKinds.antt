-- The kind of a body is the kind of the items that it makes.
-- Assumes nothing.
use Prim.Native.Nat.{ℕ, zero, suc, ◌≤◌}
use native.Mathlib.Omega.{arith}
use mathlib.Core.Path.{◌≡◌, refl, sym, ◌∙◌}
use mathlib.Core.Bool.{Bool, true, false, cond, true≢false}
use mathlib.Core.List.{List, [], ◌∷◌, ◌++◌, map}
use lib.Dec.{eqb}
use Rattle.lists.specs.Lists.{any}
use Rattle.lists.proofs.Bools.{by_cases, cond_both, cond-case, cond-self, or-cond}
use Rattle.lists.proofs.Counts.{any_append}
use Rattle.formats.specs.Tokens.{Token, Letter}
use Rattle.formats.specs.Items as item
use Rattle.formats.specs.Items.{Item, Kind, text_kind, general_kind, date_kind, scientific_kind, fraction_kind, number_kind, same_kind, kind_from, item_makes, items_kind, settled}
use Rattle.formats.specs.Kinds.{token_makes, body_kind, is_point, is_zero, leading_zeros, part_zeros, is_seconds_token, pieces_from, run_item, token_items, piece_items, plain_items, date_items, body_items, last_fill}
use Rattle.formats.proofs.FormedItems.{both-kept}
use Rattle.formats.proofs.FormedPieces.{point-case, zero-case, zeros-follow, zeros-point}
use Rattle.formats.proofs.Each.{by_token, by-letter}

module _ (k : Kind) where
  literals-make : (us : List ℕ) → any (item_makes k) (map item.literal us) ≡ false
  unfolding any item_makes
  literals-make [] = refl
  literals-make (u ∷ us) = literals-make us

  run-makes : (l : Letter) (n : ℕ) → any (item_makes k) (run_item l n ∷ []) ≡ same_kind k date_kind
  unfolding any item_makes run_item
  run-makes l n =
      let r = cond-self (same_kind k date_kind) in by-letter (λ (m : Letter). any (item_makes k) (run_item m n ∷ []) ≡ same_kind k date_kind) r r r r r l

  -- a token makes what its items make
  token-makes : (b : Bool) (t : Token) → (token_makes fraction_kind t ≡ true → same_kind k number_kind ≡ false)
      → any (item_makes k) (token_items b t) ≡ token_makes k t
  unfolding any item_makes token_makes token_items
  token-makes b =
      by_token (λ (t : Token). (token_makes fraction_kind t ≡ true → same_kind k number_kind ≡ false) → any (item_makes k) (token_items b t) ≡ token_makes k t)
      (λ us o. literals-make us) (λ u o. refl) (λ u o. refl) (λ u o. refl) (λ p o. cond-self (same_kind k number_kind))
      (λ o. cond_both (λ (i : Item). any (item_makes k) (i ∷ []) ≡ false) b {x = item.literal 46} {y = item.point} refl refl)
      (λ o. cond_both (λ (is : List Item). any (item_makes k) is ≡ false) b {x = item.literal 44 ∷ []} {y = []} refl refl)
      (λ o. refl) (λ o. cond-self (same_kind k text_kind)) (λ o. refl) (λ o. cond-self (same_kind k general_kind)) (λ h o. refl) (λ l n o. run-makes l n)
      (λ e n o. cond-self (same_kind k date_kind)) (λ n o. refl) (λ w o. refl) (λ m o. cond-self (same_kind k scientific_kind))
      (λ p o. rw (o refl) (cond-self (same_kind k fraction_kind)))
      (λ p n o. rw (o refl) (by_cases (same_kind k fraction_kind) (λ e. rw e) (λ e. rw e)))

  -- a token's items in front of others
  token-front : (b : Bool) (t : Token) (is : List Item) → (token_makes fraction_kind t ≡ true → same_kind k number_kind ≡ false)
      → any (item_makes k) (token_items b t ++ is) ≡ cond (token_makes k t) true (any (item_makes k) is)
  token-front b t is o =
      any_append (item_makes k) (token_items b t) is ∙ (rw (token-makes b t o) (or-cond (token_makes k t) (any (item_makes k) is)))

  -- the place in front of a solidus makes a number too, which is not looked for behind a fraction
  abbrev Quiet : List Token → Type 0
  Quiet ts = any (token_makes fraction_kind) ts ≡ true → same_kind k number_kind ≡ false

  plain_makes : (ts : List Token) → Quiet ts → any (item_makes k) (plain_items ts) ≡ any (token_makes k) ts
  unfolding any plain_items
  plain_makes [] o = refl
  plain_makes (t ∷ ts) o =
      token-front false t (plain_items ts) (λ h. o (rw h))
      ∙ rw (plain_makes ts (λ h. o (rw h (by_cases (token_makes fraction_kind t) (λ e. rw e) (λ e. rw e)))))

  -- what the body's items make, once the fills are left out and the runs of m settled
  kept-makes : (is : List Item) → any (item_makes k) (settled (last_fill is)) ≡ any (item_makes k) is
  unfolding any item_makes
  kept-makes = both-kept (any (item_makes k)) (λ i is js e. rw e) (λ u is. refl) (λ n is. refl)

  plain-kept : (ts : List Token) → Quiet ts → any (item_makes k) (settled (last_fill (plain_items ts))) ≡ any (token_makes k) ts
  plain-kept ts o = kept-makes (plain_items ts) ∙ plain_makes ts o

  -- the zeros of a part of a second are places: they make no other kind than a number
  module _ (other : same_kind k number_kind ≡ false) where
    point-quiet : (t : Token) → is_point t ≡ true → token_makes k t ≡ false
    unfolding token_makes
    point-quiet t e = point-case (λ (t : Token). token_makes k t ≡ false) refl t e

    zero-quiet : (t : Token) → is_zero t ≡ true → token_makes k t ≡ false
    unfolding token_makes
    zero-quiet t e = zero-case (λ (t : Token). token_makes k t ≡ false) (λ q. other) t e

    date-makes : (b : Bool) (skip : ℕ) (ts : List Token) → skip ≤ leading_zeros ts
        → any (item_makes k) (date_items (pieces_from b skip ts)) ≡ any (token_makes k) ts
    unfolding any pieces_from date_items piece_items item_makes leading_zeros
    date-makes b skip [] h = refl
    date-makes b (suc skip) (t ∷ ts) h =
        by_cases (is_zero t)
        (λ e. rw (zero-quiet t e) (date-makes false skip ts (let g : suc skip ≤ suc (leading_zeros ts) = rw e at h in omega arith)))
        (λ e. let g : suc skip ≤ 0 = rw e at h in absurd (omega arith))
    date-makes b zero (t ∷ ts) h =
        by_cases (eqb (part_zeros b t ts) 0)
        (λ e.
        rw e
        (token-front true t (date_items (pieces_from (is_seconds_token t) (part_zeros b t ts) ts)) (λ h. other)
        ∙ rw (date-makes (is_seconds_token t) (part_zeros b t ts) ts (zeros-follow b t ts))))
        (λ e.
        rw (e, point-quiet t (zeros-point b t ts e).1)
        (date-makes (is_seconds_token t) (part_zeros b t ts) ts (zeros-follow b t ts)))

    date-kept : (ts : List Token) → any (item_makes k) (settled (last_fill (date_items (pieces_from false 0 ts)))) ≡ any (token_makes k) ts
    date-kept ts = kept-makes (date_items (pieces_from false 0 ts)) ∙ date-makes false 0 ts (omega arith)

-- the kind rests on which kinds are made; behind a date or a fraction, a number is not looked for
kind-same : (f g : Kind → Bool) → f text_kind ≡ g text_kind → f general_kind ≡ g general_kind → f date_kind ≡ g date_kind
    → f scientific_kind ≡ g scientific_kind → f fraction_kind ≡ g fraction_kind
    → (g date_kind ≡ false → g fraction_kind ≡ false → f number_kind ≡ g number_kind) → kind_from f ≡ kind_from g
unfolding kind_from
kind-same f g a b c s r d =
    by_cases (g date_kind) (λ h. rw (a, b, c, h)) (λ h. by_cases (g fraction_kind) (λ i. rw (a, b, c, s, r, h, i)) (λ i. rw (a, b, c, s, r, h, i, d h i)))

no-date : (f : Kind → Bool) → f date_kind ≡ false → same_kind (kind_from f) date_kind ≡ false
unfolding kind_from
no-date f h =
    rw h
    (cond_both (λ (j : Kind). same_kind j date_kind ≡ false) (f text_kind) refl
    (cond_both (λ (j : Kind). same_kind j date_kind ≡ false) (f general_kind) refl
    (cond_both (λ (j : Kind). same_kind j date_kind ≡ false) (f scientific_kind) refl
    (cond_both (λ (j : Kind). same_kind j date_kind ≡ false) (f fraction_kind) refl
    (cond_both (λ (j : Kind). same_kind j date_kind ≡ false) (f number_kind) refl refl)))))

-- the kind of the items is the kind of the tokens
pub kind-of-body : (ts : List Token) → items_kind (settled (last_fill (body_items ts))) ≡ body_kind ts
unfolding items_kind body_kind body_items
kind-of-body ts =
    let made : List Item → Kind → Bool = λ is k. any (item_makes k) (settled (last_fill is)) in
    let making : Kind → Bool = λ k. any (token_makes k) ts in
    cond-case (λ (is : List Item). items_kind (settled (last_fill is)) ≡ body_kind ts) (same_kind (body_kind ts) date_kind)
    (λ e.
    kind-same (made (date_items (pieces_from false 0 ts))) making
    (date-kept text_kind refl ts) (date-kept general_kind refl ts) (date-kept date_kind refl ts) (date-kept scientific_kind refl ts)
    (date-kept fraction_kind refl ts) (λ h i. absurd (true≢false (sym e ∙ no-date making h))))
    (λ e.
    kind-same (made (plain_items ts)) making
    (plain-kept text_kind ts (λ o. refl)) (plain-kept general_kind ts (λ o. refl)) (plain-kept date_kind ts (λ o. refl))
    (plain-kept scientific_kind ts (λ o. refl)) (plain-kept fraction_kind ts (λ o. refl))
    (λ h i. plain-kept number_kind ts (λ o. absurd (true≢false (sym o ∙ i)))))
