-- A part of a second stands directly behind seconds in the items of a body.
-- Assumes nothing.
use Prim.Native.Nat.{ℕ, zero, suc}
use mathlib.Core.Path.{◌≡◌, refl}
use mathlib.Core.Bool.{Bool, true, false, cond}
use mathlib.Core.List.{List, [], ◌∷◌, ◌++◌, map}
use lib.Dec.{T, eqb}
use Rattle.lists.proofs.Bools.{by_cases, cond_both, T_true, true-T, implied, implies-in}
use Rattle.formats.specs.Tokens.{Token, Letter, letter_index, elapsed_index}
use Rattle.formats.specs.Items as item
use Rattle.formats.specs.Items.{Item, date_kind, same_kind, settled, no_run}
use Rattle.formats.specs.Kinds.{body_kind, is_point, part_zeros, is_seconds_token, pieces_from, run_item, token_items, piece_items, plain_items, date_items, body_items, last_fill}
use Rattle.formats.specs.Where.{implies}
use Rattle.formats.specs.WellFormed.{is_seconds, parts_from, parts_follow}
use Rattle.formats.proofs.FormedItems.{parts-last_fill, parts-settled}
use Rattle.formats.proofs.FormedPieces.{point-case, zeros-point}
use Rattle.formats.proofs.Each.{by_token, by-letter}

-- the items may stand behind any item; behind seconds where b says that they may start with a part of a second
abbrev Follow : Bool → List Item → Type 0
Follow b is = (c : Bool) → T (implies b c) → T (parts_from c is)

literals-follow : (us : List ℕ) (is : List Item) (c : Bool) → Follow false is → T (parts_from c (map item.literal us ++ is))
unfolding parts_from is_seconds
literals-follow [] is c f = f c tt
literals-follow (u ∷ us) is c f = literals-follow us is false f

run-follows : (l : Letter) (n : ℕ) (is : List Item) (c : Bool) → Follow (eqb (letter_index l) 4) is → T (parts_from c (run_item l n ∷ is))
unfolding parts_from is_seconds run_item
run-follows l n is c =
    by-letter (λ (k : Letter). Follow (eqb (letter_index k) 4) is → T (parts_from c (run_item k n ∷ is)))
    (λ f. f false tt) (λ f. f false tt) (λ f. f false tt) (λ f. f false tt) (λ f. f true tt) l

point-follows : (d : Bool) (is : List Item) (c : Bool) → Follow false is → T (parts_from c (cond d (item.literal 46) item.point ∷ is))
unfolding parts_from is_seconds
point-follows true is c f = f false tt
point-follows false is c f = f false tt

comma-follows : (d : Bool) (is : List Item) (c : Bool) → Follow false is → T (parts_from c (cond d (item.literal 44 ∷ []) [] ++ is))
unfolding parts_from is_seconds
comma-follows true is c f = f false tt
comma-follows false is c f = f c tt

-- the items of a token hold no part of a second, and end with seconds where the token is seconds
token-follows : (d : Bool) (t : Token) (is : List Item) (c : Bool) → Follow (is_seconds_token t) is → T (parts_from c (token_items d t ++ is))
unfolding parts_from is_seconds is_seconds_token token_items
token-follows d t is c =
    by_token (λ (t : Token). Follow (is_seconds_token t) is → T (parts_from c (token_items d t ++ is)))
    (λ us f. literals-follow us is c f) (λ u f. f false tt) (λ u f. f false tt) (λ u f. f false tt) (λ p f. f false tt)
    (point-follows d is c) (comma-follows d is c) (λ f. f false tt) (λ f. f false tt) (λ f. f c tt) (λ f. f false tt) (λ h f. f false tt)
    (λ l n f. run-follows l n is c f) (λ e n f. f (eqb (elapsed_index e) 2) (implies-in (eqb (elapsed_index e) 2) (eqb (elapsed_index e) 2) true-T))
    (λ n f. f c tt) (λ w f. f c tt) (λ m f. f false tt) (λ p f. f false tt) (λ p n f. f false tt) t

plain-follow : (ts : List Token) (c : Bool) → T (parts_from c (plain_items ts))
unfolding plain_items parts_from
plain-follow [] c = tt
plain-follow (t ∷ ts) c = token-follows false t (plain_items ts) c (λ c₁ h. plain-follow ts c₁)

point-ends : (t : Token) → is_point t ≡ true → is_seconds_token t ≡ false
unfolding is_seconds_token
point-ends t e = point-case (λ (t : Token). is_seconds_token t ≡ false) refl t e

-- the walk over the pieces: where it stands behind seconds, so do its items
date-follow : (b : Bool) (skip : ℕ) (ts : List Token) (c : Bool) → T (implies b c) → T (parts_from c (date_items (pieces_from b skip ts)))
unfolding pieces_from date_items piece_items parts_from is_seconds
date-follow b skip [] c h = tt
date-follow b (suc skip) (t ∷ ts) c h = date-follow false skip ts c tt
date-follow b zero (t ∷ ts) c h =
    by_cases (eqb (part_zeros b t ts) 0)
    (λ e.
    rw e
    (token-follows true t (date_items (pieces_from (is_seconds_token t) (part_zeros b t ts) ts)) c
    (λ d g. date-follow (is_seconds_token t) (part_zeros b t ts) ts d g)))
    (λ e.
    let p = zeros-point b t ts e in
    let r : T (implies (is_seconds_token t) false) = rw (point-ends t p.1) tt in
    rw (e, T_true c (implied b c h (true-T p.0))) (date-follow (is_seconds_token t) (part_zeros b t ts) ts false r))

body-follows : (ts : List Token) → T (parts_from false (body_items ts))
unfolding body_items
body-follows ts =
    cond_both (λ (is : List Item). T (parts_from false is)) (same_kind (body_kind ts) date_kind)
    (date-follow false 0 ts false tt) (plain-follow ts false)

pub parts-follow : (ts : List Token) → T (parts_follow (settled (last_fill (body_items ts))))
unfolding parts_follow settled
parts-follow ts = rw (parts-settled false no_run (last_fill (body_items ts))) (parts-last_fill false (body_items ts) (body-follows ts))
