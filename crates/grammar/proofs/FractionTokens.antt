-- Level 2, fraction bodies: the rules for a solidus hold exactly when NFPartFraction derives the tokens.
-- Assumes nothing.
use Prim.Native.Nat.{ℕ, suc, ◌≤◌}
use native.Mathlib.Omega.{arith}
use mathlib.Core.Path.{◌≡◌, refl, sym, ap, subst, ◌∙◌}
use mathlib.Core.Bool.{Bool, true, false, not, true≢false}
use mathlib.Core.List.{List, [], ◌∷◌, ◌++◌, map}
use lib.ListN.{drop}
use borrow.Author.Tests.{leb-true, le-leb, not-true}
use Rattle.lists.specs.Lists.{every, any, count, is_empty}
use Rattle.lists.proofs.Bools.{no, and_parts, by_cases}
use Rattle.lists.proofs.Counts.{none-count}
use Rattle.formats.specs.Tokens.{Token, literal, over, over_fixed, Place}
use Rattle.formats.specs.Items as item
use Rattle.formats.specs.Items.{Item, fixed, fraction_kind, is_place, is_solidus, is_fixed, before_cut, from_cut, integer_places, places_behind, end_places, before_end, behind_start, numerator_items, literal_follows, denominator_fits}
use Rattle.formats.specs.Kinds.{is_comma, token_makes, token_items, plain_items}
use Rattle.formats.specs.Limits.{fixed_small}
use Rattle.grammar.specs.Bodies.{Free, free-string, free-repeat, free-space, free-bare, Literals, literals_end, literals-free, Literal, literal-string, literal-bare, Denominator, below-place, below_end, Numerator, above_place, above-places, above-number, Gap, joined, apart, NFPartFraction, fraction-free, fraction-place, fraction-literal, fraction-numerator}
use Rattle.grammar.proofs.Tests.{every-parts, absent}
use Rattle.grammar.proofs.Quiet.{free-quiet, free-kept}
use Rattle.grammar.proofs.Fronts.{is_shown}
use Rattle.grammar.proofs.Plain.{v-free, v-comma, v-part-place, v-over, v-over-fixed, Views, v-end, v_next, has, free-has}
use Rattle.formats.proofs.Cutting.{cut-joins}
use Rattle.grammar.proofs.Fractions.{Fits, fits-anywhere, Summed, Topped, wholes, mains, literal-front, place-front, top-summed, no_start}

-- a solidus among the items is one among the tokens, and without one there is no fixed number
pub solidus-has : {ts : List Token} → Views fraction_kind ts
    → (has fraction_kind ts ≡ any is_solidus (plain_items ts)) × (any is_solidus (plain_items ts) ≡ false → any is_fixed (plain_items ts) ≡ false)
unfolding any token_makes token_items plain_items
solidus-has v-end = (refl, λ e. refl)
solidus-has (v_next {ts = ts} (v-free g) vs) =
    let (a, b) = solidus-has vs in
    let same = free-kept (any is_solidus) false (λ u js. refl) (λ u js. refl) (λ u js. refl) (plain_items ts) g in (
      free-has fraction_kind ts g ∙ a ∙ sym same,
      λ e. free-kept (any is_fixed) false (λ u js. refl) (λ u js. refl) (λ u js. refl) (plain_items ts) g ∙ b (sym same ∙ e),
    )
solidus-has (v_next v-comma vs) = solidus-has vs
solidus-has (v_next v-part-place vs) = solidus-has vs
solidus-has (v_next v-over vs) = (refl, λ e. absurd (true≢false e))
solidus-has (v_next v-over-fixed vs) = (refl, λ e. absurd (true≢false e))

-- ---- from the rules to the grammar

abbrev pub Small : List Token → Type 0
Small ts = every fixed_small (plain_items ts) ≡ true

literals-of : {ts : List Token} → Views fraction_kind ts → any is_comma ts ≡ false → any is_place (plain_items ts) ≡ false → Literals ts
unfolding any token_items plain_items
literals-of v-end c e = literals_end
literals-of (v_next {ts = ts} (v-free g) vs) c e =
    literals-free g
    (literals-of vs (rw (free-quiet g).no-comma at c) (sym (free-kept (any is_place) false (λ u js. refl) (λ u js. refl) (λ u js. refl) (plain_items ts) g) ∙ e))
literals-of (v_next v-comma vs) c e = absurd (true≢false c)
literals-of (v_next v-part-place vs) c e = absurd (true≢false e)
literals-of (v_next v-over vs) c e = absurd (true≢false e)
literals-of (v_next v-over-fixed vs) c e = absurd (true≢false e)

-- behind the last place
below-literals : {ts : List Token} → Views fraction_kind ts → any is_comma ts ≡ false → any is_place (plain_items ts) ≡ false → Denominator (count is_place (plain_items ts)) ts
below-literals {ts} vs c e = rw (none-count is_place (plain_items ts) e) (below_end (literals-of vs c e))

denominator-of : {ts : List Token} → Views fraction_kind ts → any is_comma ts ≡ false → every is_shown ts ≡ true → any is_solidus (plain_items ts) ≡ false
    → any is_place (behind_start (plain_items ts)) ≡ false → Denominator (count is_place (plain_items ts)) ts
unfolding any every count is_empty token_items plain_items behind_start
denominator-of v-end c s n e = below_end literals_end
denominator-of (v_next (v-free (free-string [])) vs) c s n e = no s
denominator-of (v_next (v-free (free-string (u ∷ us))) vs) c s n e = below-literals (v_next (v-free (free-string (u ∷ us))) vs) c e
denominator-of (v_next (v-free (free-repeat u)) vs) c s n e = below-literals (v_next (v-free (free-repeat u)) vs) c e
denominator-of (v_next (v-free (free-space u)) vs) c s n e = below-literals (v_next (v-free (free-space u)) vs) c e
denominator-of (v_next (v-free (free-bare u)) vs) c s n e = below-literals (v_next (v-free (free-bare u)) vs) c e
denominator-of (v_next v-comma vs) c s n e = absurd (true≢false c)
denominator-of (v_next v-part-place vs) c s n e = below-place (denominator-of vs c s n e)
denominator-of (v_next v-over vs) c s n e = absurd (true≢false n)
denominator-of (v_next v-over-fixed vs) c s n e = absurd (true≢false n)

-- without a fixed number a place stands directly behind the solidus
places-below : (is : List Item) → any is_fixed is ≡ false → denominator_fits is ≡ true → (1 ≤ count is_place is) × (any is_place (behind_start is) ≡ false)
unfolding any count denominator_fits behind_start
places-below [] e f = no f
places-below (i ∷ is) e f =
    by_cases (is_fixed i) (λ h. absurd (true≢false (rw h at e))) (λ h.
    by_cases (is_place i)
    (λ p. rw p (omega arith, not-true (any is_place (behind_start is)) (and_parts (not (any is_place (behind_start is))) (not (any is_fixed is)) (rw (h, p) at f)).0))
    (λ p. no (rw (h, p) at f)))

at-over : {q : Place} {ts : List Token} → Views fraction_kind ts → any is_comma ts ≡ false → every is_shown ts ≡ true → count is_solidus (plain_items ts) ≡ 0
    → denominator_fits (plain_items ts) ≡ true → count is_place (plain_items ts) ≤ 3 → Numerator 1 (over q ∷ ts)
at-over {ts = ts} vs c s n f m =
    let none_left = absent is_solidus (plain_items ts) n in
    let (h, e) = places-below (plain_items ts) ((solidus-has vs).1 none_left) f in
    above-places {d = count is_place (plain_items ts)} (omega arith) (omega arith) (denominator-of vs c s none_left e)

at-number : {q : Place} {k : ℕ} {ts : List Token} → Views fraction_kind ts → any is_comma ts ≡ false → Small (over_fixed q k ∷ ts)
    → denominator_fits (fixed k ∷ plain_items ts) ≡ true → Numerator 1 (over_fixed q k ∷ ts)
unfolding token_items plain_items denominator_fits fixed_small every
at-number {k = k} {ts = ts} vs c m f =
    above-number {n = k} (omega (arith, leb-true k 999 (every-parts fixed_small (fixed k) (plain_items ts) m).0))
    (literals-of vs c (not-true (any is_place (plain_items ts)) (and_parts (not (any is_place (plain_items ts))) (not (any is_fixed (plain_items ts))) f).0))

numerator-of : {ts : List Token} → Views fraction_kind ts → any is_comma ts ≡ false → every is_shown ts ≡ true → Small ts → places_behind (plain_items ts) ≤ 3
    → every is_place (before_cut (plain_items ts)) ≡ true → count is_solidus (plain_items ts) ≡ 1 → denominator_fits (drop 1 (from_cut (plain_items ts))) ≡ true
    → Numerator (integer_places (plain_items ts)) ts
unfolding any every count is_empty token_items plain_items before_cut from_cut integer_places places_behind fixed_small
numerator-of v-end c s k m a n f = absurd (omega arith)
numerator-of (v_next (v-free (free-string [])) vs) c s k m a n f = no s
numerator-of (v_next (v-free (free-string (u ∷ us))) vs) c s k m a n f = no a
numerator-of (v_next (v-free (free-repeat u)) vs) c s k m a n f = no a
numerator-of (v_next (v-free (free-space u)) vs) c s k m a n f = no a
numerator-of (v_next (v-free (free-bare u)) vs) c s k m a n f = no a
numerator-of (v_next v-comma vs) c s k m a n f = absurd (true≢false c)
numerator-of (v_next v-part-place vs) c s k m a n f = above_place (numerator-of vs c s k m a n f)
numerator-of (v_next v-over vs) c s k m a n f = at-over vs c s (omega arith) f m
numerator-of (v_next v-over-fixed vs) c s k m a n f = at-number vs c k f

abbrev pub is_joined : Gap → Bool
is_joined joined = true
is_joined apart = false

-- what is asked with a string in front is asked without it, and the sums are the same
past-string : (us : List ℕ) (is : List Item) → Fits false (map item.literal us ++ is) → Fits false is
unfolding every any count is_empty numerator_items end_places before_end before_cut from_cut literal_follows
past-string [] is f = f
past-string (u ∷ us) is f = past-string us is f

abbrev sums : List Item → ℕ × ℕ
sums is = (wholes is, mains is)

abbrev Derived : Gap → ℕ × ℕ → List Token → Type 0
Derived g m ts = NFPartFraction g m.0 m.1 ts

literal-free : {t : Token} → Literal t → Free t
literal-free (literal-string u us) = free-string (u ∷ us)
literal-free (literal-bare u) = free-bare u

at_literal : (g : Gap) {i n : ℕ} {t : Token} {ts : List Token} → Literal t → NFPartFraction apart i n ts → NFPartFraction g i n (t ∷ ts)
at_literal joined x r = fraction-literal x r
at_literal apart x r = fraction-free (literal-free x) r

free_of : {t : Token} (ts : List Token) (g : Gap) → Free t → ((h : Gap) → Fits (is_joined h) (plain_items ts) → Derived h (sums (plain_items ts)) ts)
    → Fits (is_joined g) (token_items false t ++ plain_items ts) → Derived g (sums (token_items false t ++ plain_items ts)) (t ∷ ts)
unfolding any every count is_empty token_items numerator_items end_places before_end before_cut from_cut integer_places literal_follows
free_of ts g (free-string []) rec f = fraction-free (free-string []) (rec g f)
free_of {t} ts g (free-string (u ∷ us)) rec f =
    let is = plain_items ts in
    subst (λ (m : ℕ × ℕ). Derived g m (t ∷ ts)) (sym (free-kept sums false (λ u js. refl) (λ u js. refl) (λ u js. refl) is (free-string us)))
    (at_literal g (literal-string u us) (rec apart (past-string us is (fits-anywhere (is_joined g) (map item.literal (u ∷ us) ++ is) f))))
free_of ts g (free-bare u) rec f = at_literal g (literal-bare u) (rec apart (fits-anywhere (is_joined g) (item.literal u ∷ plain_items ts) f))
free_of ts g (free-repeat u) rec f = fraction-free (free-repeat u) (rec g f)
free_of ts g (free-space u) rec f = fraction-free (free-space u) (rec g f)

pub fraction-of : {ts : List Token} → Views fraction_kind ts → any is_comma ts ≡ false → every is_shown ts ≡ true → Small ts → places_behind (plain_items ts) ≤ 3
    → (g : Gap) → Fits (is_joined g) (plain_items ts) → NFPartFraction g (wholes (plain_items ts)) (mains (plain_items ts)) ts
unfolding any every count is_empty token_items plain_items numerator_items end_places before_end before_cut from_cut integer_places places_behind literal_follows fixed_small
fraction-of v-end c s k m g (n, a, l, x, d) = absurd (omega arith)
fraction-of (v_next {t = t} {ts = ts} (v-free x) vs) c s k m g f =
    let few : places_behind (plain_items ts) ≤ 3 = rw (free-kept places_behind false (λ u js. refl) (λ u js. refl) (λ u js. refl) (plain_items ts) x) at m in
    free_of ts g x (fraction-of vs (rw (free-quiet x).no-comma at c) (every-parts is_shown t ts s).1 (sym (free-kept (every fixed_small) false (λ u js. refl) (λ u js. refl) (λ u js. refl) (plain_items ts) x) ∙ k) few) f
fraction-of (v_next v-comma vs) c s k m g f = absurd (true≢false c)
fraction-of (v_next {ts = ts} v-part-place vs) c s k m joined (n, a, l, x, d) =
    by_cases (every is_place (before_cut (plain_items ts))) (λ e. no (rw e at l))
    (λ e. rw e (fraction-place (fraction-of vs c s k m joined (n, rw e at a, rw e at l, x, d))))
fraction-of (v_next {ts = ts} v-part-place vs) c s k m apart (n, a, l, x, d) =
    by_cases (every is_place (before_cut (plain_items ts)))
    (λ e. rw (e, cut-joins (plain_items ts)) (fraction-numerator (above_place (numerator-of vs c s k m e n d))))
    (λ e. rw e (fraction-place (fraction-of vs c s k m joined (n, rw e at a, rw e at l, x, d))))
fraction-of (v_next v-over vs) c s k m joined (n, a, l, x, d) = no l
fraction-of (v_next v-over vs) c s k m apart (n, a, l, x, d) = fraction-numerator (at-over vs c s (omega arith) d m)
fraction-of (v_next v-over-fixed vs) c s k m joined (n, a, l, x, d) = no l
fraction-of (v_next v-over-fixed vs) c s k m apart (n, a, l, x, d) = fraction-numerator (at-number vs c k d)

-- ---- from the grammar to the rules

-- the tokens of a fraction, and what is asked of them beside the rules for the solidus
abbrev pub Told : List Token → Type 0
Told ts = Views fraction_kind ts × (any is_comma ts ≡ false) × Small ts

free-told : {t : Token} {ts : List Token} → Free t → Told ts → Told (t ∷ ts)
unfolding any every fixed_small plain_items
free-told {ts = ts} x (v, c, k) =
    (v_next (v-free x) v, rw (free-quiet x).no-comma c, free-kept (every fixed_small) false (λ u js. refl) (λ u js. refl) (λ u js. refl) (plain_items ts) x ∙ k)

-- the solidi, fixed numbers and places behind the solidus
abbrev Behind : List Item → ℕ × (Bool × Bool)
Behind is = (count is_solidus is, (any is_fixed is, any is_place is))

literals-told : {ts : List Token} → Literals ts → Told ts × (Behind (plain_items ts) ≡ (0, (false, false)))
unfolding any every count plain_items
literals-told literals_end = ((v-end, refl, refl), refl)
literals-told (literals-free {ts = ts} x d) =
    let (t, e) = literals-told d in (free-told x t, free-kept Behind false (λ u js. refl) (λ u js. refl) (λ u js. refl) (plain_items ts) x ∙ e)

denominator-told : {d : ℕ} {ts : List Token} → Denominator d ts
    → Told ts × (count is_solidus (plain_items ts) ≡ 0) × (any is_fixed (plain_items ts) ≡ false) × (any is_place (behind_start (plain_items ts)) ≡ false) × (count is_place (plain_items ts) ≡ d)
unfolding any every count fixed_small token_items plain_items behind_start
denominator-told (below-place b) = let ((v, c, k), s, x, e, d) = denominator-told b in ((v_next v-part-place v, c, k), s, x, e, ap suc d)
denominator-told (below_end {ts = ts} b) =
    let (t, e) = literals-told b in
    let none_left : any is_place (plain_items ts) ≡ false = ap (λ (p : ℕ × (Bool × Bool)). p.1.1) e in
    (t, ap (λ (p : ℕ × (Bool × Bool)). p.0) e, ap (λ (p : ℕ × (Bool × Bool)). p.1.0) e, no_start (plain_items ts) none_left, none-count is_place (plain_items ts) none_left)

-- so many places stand below
abbrev pub Few : (ℕ → Type 0) → Type 0
Few P = (d : ℕ) × (d ≤ 3) × P d

numerator-told : {n : ℕ} {ts : List Token} → Numerator n ts → Told ts × (is_empty (before_cut (plain_items ts)) ≡ false) × Few (λ (d : ℕ). Topped n d (plain_items ts))
unfolding any every count is_empty fixed_small token_items plain_items before_cut from_cut integer_places places_behind denominator_fits
numerator-told (above_place a) =
    let ((v, c, k), h, (d, m, (a, x, s, f, n, e))) = numerator-told a in ((v_next v-part-place v, c, k), refl, (d, m, (a, x, s, f, ap suc n, e)))
numerator-told (above-places {d = d} h m (below_end b)) = absurd (omega arith)
numerator-told (above-places {d = d} h m (below-place b)) =
    let ((v, c, k), s, x, e, n) = denominator-told b in
    ((v_next v-over (v_next v-part-place v), c, k), refl, (d, omega arith, (refl, refl, ap suc s, rw (e, x), refl, ap suc n)))
numerator-told (above-number {n = n} {ts = ts} h b) =
    let ((v, c, k), s, x, e, d) = denominator-told (below_end b) in
    ((v_next v-over-fixed v, c, rw (le-leb n 999 (omega arith)) k), refl, (0, omega arith, (refl, refl, ap suc s, rw (absent is_place (plain_items ts) d, x), refl, d)))

free-front : (b : Bool) {w n d : ℕ} {t : Token} (is : List Item) → Free t → Summed b w n d is → Summed b w n d (token_items false t ++ is)
unfolding every any count is_empty token_items numerator_items end_places before_end before_cut from_cut integer_places places_behind literal_follows
free-front b is (free-string []) r = r
free-front b is (free-string (u ∷ us)) r = literal-front b b u (token_items false (literal us) ++ is) (free-front b is (free-string us) r)
free-front b is (free-repeat u) r = r
free-front b is (free-space u) r = r
free-front b is (free-bare u) r = literal-front b b u is r

frees : {w n d : ℕ} {t : Token} (is : List Item) → Literal t → Summed false w n d is → Summed true w n d (token_items false t ++ is)
unfolding token_items
frees is (literal-string u us) r = literal-front false true u (token_items false (literal us) ++ is) (free-front false is (free-string us) r)
frees is (literal-bare u) r = literal-front false true u is r

pub fraction-told : {g : Gap} {w n : ℕ} {ts : List Token} → NFPartFraction g w n ts → Told ts × Few (λ (d : ℕ). Summed (is_joined g) w n d (plain_items ts))
unfolding any every fixed_small token_items plain_items
fraction-told {g} (fraction-free {ts = ts} x f) = let (t, (d, m, r)) = fraction-told f in (free-told x t, (d, m, free-front (is_joined g) (plain_items ts) x r))
fraction-told {g} (fraction-place {q = q} {ts = ts} f) =
    let ((v, c, k), (d, m, r)) = fraction-told f in ((v_next v-part-place v, c, k), (d, m, place-front (is_joined g) q (plain_items ts) r))
fraction-told (fraction-literal {ts = ts} x f) = let (t, (d, m, r)) = fraction-told f in (free-told (literal-free x) t, (d, m, frees (plain_items ts) x r))
fraction-told (fraction-numerator {ts = ts} a) = let (t, h, (d, m, u)) = numerator-told a in (t, (d, m, top-summed (plain_items ts) h u))
