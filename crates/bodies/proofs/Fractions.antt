-- The rules for a solidus from a pass over tokens: what is left to hold of the items that follow those passed.
-- Assumes nothing.
use Prim.Native.Nat.{ℕ, suc}
use mathlib.Core.Path.{◌≡◌, refl, sym, ap, ◌∙◌}
use mathlib.Core.Bool.{Bool, true, false, cond, not, ◌&&◌, ◌||◌, and-true, and-false, or-true, true≢false}
use mathlib.Core.Bool as bool
use mathlib.Core.List.{List, [], ◌∷◌, ◌++◌, map}
use native.Mathlib.Omega.{arith}
use lib.Dec.{T, leb, eqb, eqb-suc-suc}
use borrow.Author.Tests.{le-leb, lt-leb, ne_eqb}
use lib.ListN.{length, take, drop}
use Rattle.std.specs.List.{fold}
use Rattle.lists.specs.Lists.{every, any, count, is_empty}
use Rattle.lists.proofs.Bools.{no, or-false, or-cond, by_cases, cond-case, every-head, every-tail}
use Rattle.lists.proofs.Counts.{none-count, any_same}
use Rattle.formats.specs.Tokens as token
use Rattle.formats.specs.Tokens.{Place, Letter, letter_y, letter_m, letter_d, letter_h, letter_s, Token}
use Rattle.formats.specs.Items as item
use Rattle.formats.specs.Items.{Item, literal, blank, fill, place, point, percent, general, at, elapsed, half, solidus, fixed, Kind, text_kind, general_kind, date_kind, scientific_kind, fraction_kind, same_kind, kind_from, is_place, is_literal, is_solidus, is_fixed, is_cut, before_cut, from_cut, end_places, before_end, behind_start, numerator_items, whole_items, literal_follows, denominator_fits, fraction_fits}
use Rattle.formats.specs.Kinds as kinds
use Rattle.formats.specs.Kinds.{form_of, is_exponent, is_over, token_makes, body_kind, run_item, token_items, plain_items, body_items}
use Rattle.formats.proofs.Each.{by_token, by_kind}
use Rattle.marks.specs.declared.Mark.{Mark}
use Rattle.marks.specs.Marks.{mark_rows, mark_token, condition_of, tokens_in}
use Rattle.marks.proofs.ByForm.{by_form}
use Rattle.marks.proofs.Buffer.{fold-end}
use Rattle.bodies.specs.declared.fraction.Walk.{Walk}
use Rattle.bodies.specs.Fraction.{has_units, FractionTold, silent_form, at_place, at_item, at_over, walk_form}

-- ---- the numerator
-- the numerator fits, of items behind which the solidus stands: places stand before them (p) and a literal behind these (l)
abbrev outside : Bool → Bool → List Item → Bool
outside p l is =
    not (is_empty (end_places is))
    && cond (any is_place (before_end is)) (literal_follows (before_end is)) (not p || l || any is_literal (before_end is))

-- the same where the item before them is a place, of whose run p and l are told
abbrev in_run : Bool → Bool → List Item → Bool
in_run p l is = cond (every is_place is) (not p || l) (outside true false is)

abbrev numerator : Bool → Bool → Bool → List Item → Bool
numerator run p l is = cond run (in_run p l is) (outside p l is)

outside-place : (p l : Bool) (q : Place) (is : List Item) → outside p l (place q ∷ is) ≡ in_run p l is
unfolding end_places before_end every any literal_follows is_empty
outside-place p l q is = by_cases (every is_place is) (λ e. rw e (bool.or-false (not p || l)))
    (λ e. rw e (by_cases (any is_place (before_end is)) (λ a. rw a) (λ a. rw a)))

outside-item : (p l : Bool) (i : Item) (is : List Item) → is_place i ≡ false → outside p l (i ∷ is) ≡ outside p (l || is_literal i) is
unfolding end_places before_end every any literal_follows
outside-item p l i is h =
    let ends : end_places (i ∷ is) ≡ end_places is = rw h in
    let begins : before_end (i ∷ is) ≡ i ∷ before_end is = rw h in
    rw (ends, begins, h, go (not p) l (is_literal i) (any is_literal (before_end is)))
  where
    go : (a b c d : Bool) → (a || b || cond c true d) ≡ (a || (b || c) || d)
    go true b c d = refl
    go false true c d = refl
    go false false true d = refl
    go false false false d = refl

numerator-place : (run p l : Bool) (q : Place) (is : List Item) → numerator run p l (place q ∷ is) ≡ in_run p l is
unfolding every
numerator-place false p l q is = outside-place p l q is
numerator-place true p l q is = by_cases (every is_place is) (λ e. rw e) (λ e. rw e (outside-place true false q is ∙ rw e))

numerator-item : (run p l : Bool) (i : Item) (is : List Item) → is_place i ≡ false
    → numerator run p l (i ∷ is) ≡ outside (p || run) (l && not run || is_literal i) is
unfolding every
numerator-item false p l i is h = rw (bool.or-false p, and-true l) (outside-item p l i is h)
numerator-item true p l i is h = rw (or-true p, and-false l, h) (outside-item true false i is h)

-- ---- what is left
-- where the numerator, which is before a solidus among these items, fits or not
abbrev front : Bool → List Item → Bool
front fits is =
    not (any is_solidus is || any is_fixed is)
    || (eqb (count is_solidus is) 1 && fits && not (any is_fixed (before_cut is)) && denominator_fits (drop 1 (from_cut is)))

-- behind the solidus
abbrev behind : Bool → Bool → List Item → Bool
behind run begun is =
    eqb (count is_solidus is) 0
    && cond begun (not (any is_place (cond run (behind_start is) is)) && not (any is_fixed is)) (run && denominator_fits is)

-- what is left to hold of items behind those that were passed
abbrev left : Bool → Bool → Bool → Bool → Bool → List Item → Bool
left over run begun l fits is = fits && cond over (behind run begun is) (front (numerator run begun l (before_cut is)) is)

also : (f a : Bool) {x : Bool} (y : Bool) → x ≡ (a && y) → (f && x) ≡ (f && a && y)
also true a y e = e
also false a y e = refl

-- a place more
behind-place : (run begun : Bool) (q : Place) (is : List Item) → behind run begun (place q ∷ is) ≡ (run && behind run (begun || true) is)
unfolding any count behind_start denominator_fits
behind-place true true q is = refl
behind-place true false q is = refl
behind-place false true q is = and-false (eqb (count is_solidus is) 0)
behind-place false false q is = and-false (eqb (count is_solidus is) 0)

place-left : (o r g l f : Bool) (q : Place) (is : List Item) → left o r g l f (place q ∷ is) ≡ left o (not o || r) (g || o) l (f && (not o || r)) is
unfolding any count before_cut from_cut
place-left true r g l f q is = also f r _ (behind-place r g q is)
place-left false r g l f q is =
    rw (bool.or-false g) (also f true _ (ap (λ (b : Bool). front b is) (numerator-place r g l q (before_cut is))))

-- another item more
module _ (i : Item) (is : List Item) (no_place : is_place i ≡ false) (no_cut : is_cut i ≡ false) (no_fixed : is_fixed i ≡ false) where
  no_solidus : is_solidus i ≡ false
  no_solidus = (or-false (item.is_exponent i) (is_solidus i) no_cut).1

  behind-item : (run begun : Bool) → behind run begun (i ∷ is) ≡ (begun && behind false (begun || run && false) is)
  unfolding any count behind_start denominator_fits
  behind-item true true = let starts : behind_start (i ∷ is) ≡ i ∷ is = rw no_place in rw (starts, no_solidus, no_place, no_fixed)
  behind-item false true = rw (no_solidus, no_place, no_fixed)
  behind-item true false = rw (no_solidus, no_place, no_fixed) (and-false (eqb (count is_solidus is) 0))
  behind-item false false = rw no_solidus (and-false (eqb (count is_solidus is) 0))

  item-left : (o r g l f : Bool) → left o r g l f (i ∷ is) ≡ left o false (g || r && not o) (l && not r || is_literal i) (f && (not o || g)) is
  unfolding any count before_cut from_cut
  item-left true r g l f = also f g _ (behind-item r g)
  item-left false r g l f =
      rw (no_cut, no_solidus, no_fixed, and-true r) (also f true _ (ap (λ (b : Bool). front b is) (numerator-item r g l i (before_cut is) no_place)))

-- the solidus
over-left : (o r g l f : Bool) (q : Place) (is : List Item)
    → left o r g l f (place q ∷ solidus ∷ is) ≡ left true true false l (f && not o && (not g || l)) is
unfolding any count before_cut from_cut denominator_fits every
over-left true r g l true q is = rw (ne_eqb (suc (count is_solidus is)) 0 (omega arith))
over-left true r g l false q is = refl
over-left false r g l true q is =
    rw (numerator-place r g l q [], eqb-suc-suc (count is_solidus is) 0) (go (eqb (count is_solidus is) 0) (not g || l) (denominator_fits is))
  where
    go : (a b c : Bool) → (a && b && true && c) ≡ (b && (a && c))
    go true true c = refl
    go true false c = refl
    go false true c = refl
    go false false c = refl
over-left false r g l false q is = refl

-- ---- the pass
abbrev walk : Walk → Token → Walk
walk w t =
    cond (kinds.is_place t) (at_place w)
    (cond (is_over t) (at_over (eqb (form_of t) 30) w) (cond (silent_form (form_of t)) w (at_item (leb (form_of t) 1) w)))

abbrev left_of : Walk → List Item → Bool
left_of w is = left w.over w.run w.begun w.literal w.fits is

-- a literal behind a literal changes nothing
twice : (o r g l f : Bool) (is : List Item)
    → left_of (at_item true (at_item true (record { over = o; run = r; begun = g; literal = l; fits = f }))) is ≡ left_of (at_item true (record { over = o; run = r; begun = g; literal = l; fits = f })) is
twice o r g l f is = rw (bool.or-false (g || r && not o), or-true (l && not r), kept f o g r)
  where
    kept : (f o g r : Bool) → (f && (not o || g) && (not o || (g || r && not o))) ≡ (f && (not o || g))
    kept true true true r = refl
    kept true true false r = refl
    kept true false g r = refl
    kept false o g r = refl

abbrev Left : Token → Type 0
Left t = T (has_units t) → is_exponent t ≡ false → (w : Walk) (is : List Item) → left_of w (token_items false t ++ is) ≡ left_of (walk w t) is

other-left : (i : Item) → is_place i ≡ false → is_cut i ≡ false → is_fixed i ≡ false → (w : Walk) (is : List Item) → left_of w (i ∷ is) ≡ left_of (at_item (is_literal i) w) is
other-left i a b c w is = item-left i is a b c w.over w.run w.begun w.literal w.fits

literals-left : (u : ℕ) (us : List ℕ) (w : Walk) (is : List Item) → left_of w (map literal (u ∷ us) ++ is) ≡ left_of (at_item true w) is
literals-left u [] w is = other-left (literal u) refl refl refl w is
literals-left u (v ∷ vs) w is =
    other-left (literal u) refl refl refl w (map literal (v ∷ vs) ++ is) ∙ literals-left v vs (at_item true w) is
    ∙ twice w.over w.run w.begun w.literal w.fits is

literal-left : (us : List ℕ) → Left (token.literal us)
unfolding has_units token_items is_empty
literal-left [] h e w is = absurd h
literal-left (u ∷ us) h e w is = literals-left u us w is

run-left : (l : Letter) (n : ℕ) → Left (token.run l n)
unfolding token_items run_item
run-left letter_y n h e = other-left (item.year n) refl refl refl
run-left letter_m n h e = other-left (item.month n) refl refl refl
run-left letter_d n h e = other-left (item.day n) refl refl refl
run-left letter_h n h e = other-left (item.hour n) refl refl refl
run-left letter_s n h e = other-left (item.second n) refl refl refl

token-left : (t : Token) → Left t
unfolding token_items any count denominator_fits
token-left =
    by_token Left literal-left
    (λ u h e. other-left (literal u) refl refl refl)
    (λ u h e. other-left (blank u) refl refl refl)
    (λ u h e. other-left (fill u) refl refl refl)
    (λ p h e w is. place-left w.over w.run w.begun w.literal w.fits p is)
    (λ h e. other-left point refl refl refl)
    (λ h e w is. refl)
    (λ h e. other-left percent refl refl refl)
    (λ h e. other-left at refl refl refl)
    (λ h e w is. refl)
    (λ h e. other-left general refl refl refl)
    (λ x h e. other-left (half x) refl refl refl)
    run-left
    (λ x n h e. other-left (elapsed x n) refl refl refl)
    (λ n h e w is. refl)
    (λ c h e w is. refl)
    (λ m h e. absurd (true≢false e))
    (λ p h e w is. over-left w.over w.run w.begun w.literal w.fits p is)
    (λ p n h e w is. over-left w.over w.run w.begun w.literal w.fits p (fixed n ∷ is))

walk-left : (w : Walk) (ts : List Token) → T (every has_units ts) → any is_exponent ts ≡ false → left_of w (plain_items ts) ≡ left_of (fold walk w ts) []
unfolding plain_items any
walk-left w [] u e = refl
walk-left w (t ∷ ts) u e =
    let p = or-false (is_exponent t) (any is_exponent ts) (or-cond (is_exponent t) (any is_exponent ts) ∙ e) in
    token-left t (every-head has_units t ts u) p.0 w (plain_items ts) ∙ walk-left (walk w t) ts (every-tail has_units t ts u) p.1

-- nothing is left
left-none : (o r g l f : Bool) → left o r g l f [] ≡ (f && (not o || g))
unfolding any count behind_start denominator_fits
left-none false r g l f = refl
left-none true true true l f = refl
left-none true false true l f = refl
left-none true true false l f = refl
left-none true false false l f = refl

-- all is left
follows-none : (is : List Item) → any is_place is ≡ false → literal_follows is ≡ true
unfolding literal_follows any
follows-none [] e = refl
follows-none (i ∷ is) e =
    let p = or-false (is_place i) (any is_place is) (or-cond (is_place i) (any is_place is) ∙ e) in
    rw p.0 (follows-none is p.1)

left-all : (is : List Item) → fraction_fits is ≡ left false false false false true is
unfolding fraction_fits numerator_items whole_items
left-all is = by_cases (any is_solidus is)
    (λ s. rw s (ap (λ (b : Bool). b && not (any is_fixed (before_cut is)) && denominator_fits (drop 1 (from_cut is)))
    (go (eqb (count is_solidus is) 1) (not (is_empty (end_places (before_cut is)))) (follows (before_end (before_cut is))))))
    (λ s. rw (s, none-count is_solidus is s))
  where
    follows : (js : List Item) → literal_follows js ≡ cond (any is_place js) (literal_follows js) true
    follows js = by_cases (any is_place js) (λ e. rw e) (λ e. rw e (follows-none js e))

    go : (a b : Bool) {c d : Bool} → c ≡ d → (a && b && c) ≡ (a && (b && d))
    go true b e = ap (λ (x : Bool). b && x) e
    go false b e = refl

-- ---- the kind
exponent-makes : (t : Token) → is_exponent t ≡ token_makes scientific_kind t
unfolding token_makes
exponent-makes =
    by_token (λ (t : Token). is_exponent t ≡ token_makes scientific_kind t)
    (λ us. refl) (λ u. refl) (λ u. refl) (λ u. refl) (λ p. refl) refl refl refl refl refl refl
    (λ x. refl) (λ l n. refl) (λ x n. refl) (λ n. refl) (λ c. refl) (λ m. refl) (λ p. refl) (λ p n. refl)

no-exponent : (made : Kind → Bool) → same_kind (kind_from made) fraction_kind ≡ true → made scientific_kind ≡ false
unfolding kind_from
no-exponent made =
    cond-case Bare (made text_kind) (λ e h. no h)
    (λ e. cond-case Bare (made general_kind) (λ e h. no h)
    (λ e. cond-case Bare (made date_kind) (λ e h. no h)
    (λ e. cond-case Bare (made scientific_kind) (λ e h. no h) (λ e h. e))))
  where
    Bare : Kind → Type 0
    Bare k = same_kind k fraction_kind ≡ true → made scientific_kind ≡ false

no-date : (k : Kind) → same_kind k fraction_kind ≡ true → same_kind k date_kind ≡ false
no-date =
    by_kind (λ (k : Kind). same_kind k fraction_kind ≡ true → same_kind k date_kind ≡ false)
    (λ h. no h) (λ h. no h) (λ h. no h) (λ h. no h) (λ h. no h) (λ h. no h) (λ h. refl)

abbrev pub nothing_walked : Walk
nothing_walked = record { over = false; run = false; begun = false; literal = false; fits = true }

abbrev walked_fits : Walk → Bool
walked_fits w = w.fits && (not w.over || w.begun)

fraction-told : (ts : List Token) → FractionTold ts (walked_fits (fold walk nothing_walked ts))
unfolding body_items body_kind
fraction-told ts u k =
    let w = fold walk nothing_walked ts in
    let bare = any_same is_exponent (token_makes scientific_kind) exponent-makes ts ∙ no-exponent (λ (x : Kind). any (token_makes x) ts) k in
    sym (left-none w.over w.run w.begun w.literal w.fits) ∙ sym (walk-left nothing_walked ts u bare)
    ∙ sym (left-all (plain_items ts)) ∙ rw (no-date (body_kind ts) k)

-- ---- the loop
walk-form : (w : Walk) (f a : ℕ) (us : List ℕ) → walk w (mark_token f a us) ≡ walk_form w f
unfolding mark_rows condition_of
walk-form w f a us =
    by_form (walk w) (walk_form w) a us refl
    (λ n h. rw (lt-leb n 6 (omega arith), le-leb 4 n (omega arith), lt-leb n 32 (omega arith), le-leb 27 n (omega arith), ne_eqb n 8 (omega arith), ne_eqb n 11 (omega arith), ne_eqb n 23 (omega arith), ne_eqb n 24 (omega arith), le-leb 2 n (omega arith), lt-leb n 26 (omega arith))) f

abbrev pub walk_marks : Walk → List Mark → Walk
walk_marks w ms = fold (λ v m. walk_form v m.form) w ms

-- what the loop of `fraction_fits` gives
pub walk_end : (ms : List Mark) (w : Walk) → w ≡ walk_marks nothing_walked (take (length ms) ms) → (code : List ℕ) → FractionTold (tokens_in code ms) (walked_fits w)
walk_end ms w e code u k = ap walked_fits (e ∙ fold-end code walk walk_form walk-form nothing_walked ms) ∙ fraction-told (tokens_in code ms) u k
