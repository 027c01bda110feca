-- The uses of commas told in one pass: by whether the point, and a place, were passed.
-- Assumes nothing.
use mathlib.Core.Path.{◌≡◌, refl, ◌∙◌}
use mathlib.Core.Bool.{Bool, true, false, cond, not, ◌&&◌, ◌||◌, true≢false}
use mathlib.Core.List.{List, [], ◌∷◌, ◌++◌}
use Rattle.lists.specs.Lists.{any}
use Rattle.lists.proofs.Bools.{by_cases, cond-self}
use Rattle.lists.proofs.Counts.{any_append}
use Rattle.formats.specs.Tokens.{Token}
use Rattle.formats.specs.Kinds.{is_place, is_point, is_comma, CommaUse, groups, divides, misplaced, integer_place_in, use_of, uses_from, comma_uses}

-- the use of a comma: whether the point stands before it, whether a place does, and what follows it
unfoldable pub comma_use : Bool → Bool → List Token → CommaUse
comma_use behind_point behind_place later =
    cond behind_place (cond behind_point (cond (any is_place later) misplaced divides) (cond (integer_place_in later) groups divides)) misplaced

unfoldable pub comma_uses_from : Bool → Bool → List Token → List CommaUse
comma_uses_from behind_point behind_place [] = []
comma_uses_from behind_point behind_place (t ∷ ts) =
    let r = comma_uses_from (behind_point || is_point t) (behind_place || is_place t) ts in
    cond (is_comma t) (comma_use behind_point behind_place ts ∷ r) r

-- before the point every place is an integer place
integers-all : (ts : List Token) → any is_point ts ≡ false → integer_place_in ts ≡ any is_place ts
unfolding any integer_place_in
integers-all [] e = refl
integers-all (t ∷ ts) e = by_cases (is_point t) (λ h. absurd (true≢false (rw h at e))) (λ h. rw (h, integers-all ts (rw h at e)))

-- point, integer place and place before; integer place and place behind
told : (p i a j b : Bool) → (p ≡ false → i ≡ a)
    → cond (i && not p && j) groups (cond (i && not p && not j) divides (cond (a && not b) divides misplaced))
    ≡ cond a (cond p (cond b misplaced divides) (cond j groups divides)) misplaced
told true true true j true h = refl
told true true true j false h = refl
told true true false j b h = refl
told true false true j true h = refl
told true false true j false h = refl
told true false false j b h = refl
told false i true true b h = rw (h refl)
told false i true false b h = rw (h refl)
told false i false j b h = rw (h refl)

use-told : (before behind : List Token) → use_of before behind ≡ comma_use (any is_point before) (any is_place before) behind
unfolding use_of comma_use
use-told before behind =
    told (any is_point before) (integer_place_in before) (any is_place before) (integer_place_in behind) (any is_place behind) (integers-all before)

any_last : (f : Token → Bool) (ts : List Token) (t : Token) → any f (ts ++ (t ∷ [])) ≡ (any f ts || f t)
unfolding any
any_last f ts t = any_append f ts (t ∷ []) ∙ rw (cond-self (f t))

uses-told : (before ts : List Token) → uses_from before ts ≡ comma_uses_from (any is_point before) (any is_place before) ts
unfolding uses_from comma_uses_from
uses-told before [] = refl
uses-told before (t ∷ ts) =
    rw (use-told before ts, uses-told (before ++ (t ∷ [])) ts, any_last is_point before t, any_last is_place before t)

pub comma-uses : (ts : List Token) → comma_uses ts ≡ comma_uses_from false false ts
unfolding comma_uses any
comma-uses ts = uses-told [] ts
