-- The rules for a solidus (R132, R134) as facts about the items of a fraction, from the last item on; leaving out fills keeps them.
-- Assumes nothing.
use Prim.Native.Nat.{ℕ, suc}
use native.Mathlib.Omega.{arith}
use mathlib.Core.Path.{◌≡◌, refl, sym, ap, ◌∙◌}
use mathlib.Core.Bool.{Bool, true, false, cond, not, ◌&&◌, true≢false, and-false}
use mathlib.Core.List.{List, [], ◌∷◌, ◌++◌}
use lib.ListN.{drop}
use lib.Dec.{eqb}
use borrow.Author.Tests.{eqb-true, not-true}
use Rattle.lists.specs.Lists.{every, any, count, is_empty}
use Rattle.lists.proofs.Bools.{no, and_parts, and_left, and_right, by_cases, cond_both, T_true, true-T}
use Rattle.lists.proofs.Counts.{none-count}
use Rattle.formats.specs.Tokens.{Place}
use Rattle.formats.specs.Items.{Item, literal, blank, fill, place, solidus, fixed, Kind, fraction_kind, same_kind, item_allowed, is_place, is_literal, is_solidus, is_fixed, is_fill, no_run, run_of, nearer, settled_item, settled_from, settled, before_cut, from_cut, integer_places, places_behind, end_places, before_end, behind_start, numerator_items, whole_items, main_items, literal_follows, denominator_fits, fraction_fits}
use Rattle.formats.specs.Kinds.{last_fill}
use Rattle.formats.proofs.Each.{by-item, by_kind}
use Rattle.formats.proofs.Cutting.{cut-joins, no-solidus}
use Rattle.grammar.proofs.Tests.{every-parts}
use Rattle.grammar.proofs.Kept.{any-kept, count_kept, integers-kept}

-- ---- an item of a fraction

held-case : (P : Item → Type 0) → ((u : ℕ) → P (literal u)) → ((u : ℕ) → P (blank u)) → ((u : ℕ) → P (fill u)) → ((p : Place) → P (place p)) → P solidus
    → ((k : ℕ) → P (fixed k)) → (i : Item) → item_allowed fraction_kind i ≡ true → P i
unfolding item_allowed
held-case P l b f p s x =
    by-item (λ (i : Item). item_allowed fraction_kind i ≡ true → P i) (λ u e. l u) (λ u e. b u) (λ u e. f u) (λ q e. p q) no no no no
    (λ n. no) (λ n. no) (λ n. no) (λ n. no) (λ n. no) (λ n. no) (λ n. no) (λ e n. no) (λ h. no) (λ m. no) (λ e. s) (λ k e. x k)

abbrev pub Held : List Item → Type 0
Held is = every (item_allowed fraction_kind) is ≡ true

-- ---- the rules, from the last item on

-- "followed by at least one literal", of an integer part that begins behind an integer place, or not
abbrev pub follows : Bool → List Item → Bool
follows b is = cond (b && not (any is_place is)) (any is_literal is) (literal_follows is)

abbrev pub Fits : Bool → List Item → Type 0
Fits b is =
    (count is_solidus is ≡ 1) × (is_empty (numerator_items is) ≡ false) × (follows b (before_end (before_cut is)) ≡ true)
    × (any is_fixed (before_cut is) ≡ false) × (denominator_fits (drop 1 (from_cut is)) ≡ true)

abbrev pub wholes : List Item → ℕ
wholes is = integer_places (before_end (before_cut is))

abbrev pub mains : List Item → ℕ
mains is = integer_places (numerator_items is ++ from_cut is)

-- without a place no literal has to follow; and behind a literal no other
free-follows : (is : List Item) → any is_place is ≡ false → literal_follows is ≡ true
unfolding any literal_follows
free-follows [] e = refl
free-follows (i ∷ is) e = by_cases (is_place i) (λ h. absurd (true≢false (rw h at e))) (λ h. rw h (free-follows is (rw h at e)))

freed : (b : Bool) (is : List Item) → follows b is ≡ true → literal_follows is ≡ true
freed false is f = f
freed true is f = by_cases (any is_place is) (λ h. rw h at f) (free-follows is)

-- where a literal has to follow an integer place, the places are not the numerator's alone
not-all : (is : List Item) → follows true (before_end is) ≡ true → every is_place is ≡ false
unfolding every any before_end
not-all [] l = no l
not-all (i ∷ is) l = by_cases (every is_place (i ∷ is)) (λ e. no (rw e at l)) (λ e. e)

pub fits-anywhere : (b : Bool) (is : List Item) → Fits b is → Fits false is
fits-anywhere b is (s, n, l, x, d) = (s, n, freed b (before_end (before_cut is)) l, x, d)

-- so many integer places, places of the numerator, and of the denominator
abbrev pub Summed : Bool → ℕ → ℕ → ℕ → List Item → Type 0
Summed b w n d is = Fits b is × (wholes is ≡ w) × (mains is ≡ n) × (places_behind is ≡ d)

-- items of which those before the solidus are places
abbrev pub Topped : ℕ → ℕ → List Item → Type 0
Topped n d is =
    (every is_place (before_cut is) ≡ true) × (any is_fixed (before_cut is) ≡ false) × (count is_solidus is ≡ 1) × (denominator_fits (drop 1 (from_cut is)) ≡ true)
    × (integer_places is ≡ n) × (places_behind is ≡ d)

-- a literal and an integer place in front; the numerator alone
pub literal-front : (c b : Bool) {w n d : ℕ} (u : ℕ) (is : List Item) → Summed c w n d is → Summed b w n d (literal u ∷ is)
unfolding every any count is_empty numerator_items end_places before_end before_cut from_cut integer_places places_behind literal_follows
literal-front c b u is ((s, a, l, x, f), w, n, d) =
    let free = freed c (before_end (before_cut is)) l in
    ((s, a, rw free (cond_both (λ (t : Bool). t ≡ true) (b && not (any is_place (before_end (before_cut is)))) refl refl), x, f), w, n, d)

pub place-front : (b : Bool) {w n d : ℕ} (p : Place) (is : List Item) → Summed true w n d is → Summed b (suc w) n d (place p ∷ is)
unfolding every any count is_empty numerator_items end_places before_end before_cut from_cut integer_places places_behind literal_follows
place-front b p is ((s, a, l, x, f), w, n, d) =
    let apart = not-all (before_cut is) l in
    ((s, rw apart a, rw (apart, and-false b) l, x, f), rw apart (ap suc w), rw apart n, d)

all_end : (is : List Item) → every is_place is ≡ true → (before_end is ≡ []) × (end_places is ≡ is)
unfolding before_end end_places
all_end [] e = (refl, refl)
all_end (i ∷ is) e = (rw e, rw e)

pub top-summed : {n d : ℕ} (is : List Item) → is_empty (before_cut is) ≡ false → Topped n d is → Summed false 0 n d is
unfolding any integer_places literal_follows numerator_items
top-summed is h (a, x, s, f, n, d) =
    let (b, c) = all_end (before_cut is) a in
    ((s, rw c h, rw b, x, f), rw b, rw (c, cut-joins is) n, d)

-- ---- fills left out, runs of m settled

-- without a place there is none behind those at the start
pub no_start : (is : List Item) → any is_place is ≡ false → any is_place (behind_start is) ≡ false
unfolding any behind_start
no_start [] e = refl
no_start (i ∷ is) e = by_cases (is_place i) (λ h. absurd (true≢false (rw h at e))) (λ h. rw (h, h) (rw h at e))

start-kept : (is : List Item) → Held is → any is_place (behind_start is) ≡ false → any is_place (behind_start (settled (last_fill is))) ≡ false
unfolding any behind_start settled settled_from settled_item run_of nearer last_fill
start-kept [] a e = refl
start-kept (i ∷ is) a e =
    let (a₁, a₂) = every-parts (item_allowed fraction_kind) i is a in
    let same = any-kept is_place (λ u. refl) (λ n. refl) is in
    held-case (λ (j : Item). any is_place (behind_start (j ∷ is)) ≡ false → any is_place (behind_start (settled (last_fill (j ∷ is)))) ≡ false)
    (λ u e. same ∙ e) (λ u e. same ∙ e)
    (λ u e. cond_both (λ (js : List Item). any is_place (behind_start (settled_from no_run js)) ≡ false) (any is_fill is) (start-kept is a₂ (no_start is e)) (same ∙ e))
    (λ p e. start-kept is a₂ e) (λ e. same ∙ e) (λ k e. same ∙ e) i a₁ e

below-kept : (is : List Item) → Held is → denominator_fits is ≡ true → denominator_fits (settled (last_fill is)) ≡ true
unfolding denominator_fits settled settled_from settled_item run_of nearer last_fill
below-kept [] a f = f
below-kept (i ∷ is) a f =
    let (a₁, a₂) = every-parts (item_allowed fraction_kind) i is a in
    let numbers = any-kept is_fixed (λ u. refl) (λ n. refl) is in
    held-case (λ (j : Item). denominator_fits (j ∷ is) ≡ true → denominator_fits (settled (last_fill (j ∷ is))) ≡ true) (λ u. no) (λ u. no) (λ u. no)
    (λ p f. let (x, y) = and_parts (not (any is_place (behind_start is))) (not (any is_fixed is)) f in
    rw (start-kept is a₂ (not-true (any is_place (behind_start is)) x), numbers) y)
    no (λ k f. rw (any-kept is_place (λ u. refl) (λ n. refl) is, numbers) f) i a₁ f

top_kept : (is : List Item) → Held is → every is_place (before_cut is) ≡ true → count is_solidus is ≡ 1 → denominator_fits (drop 1 (from_cut is)) ≡ true
    → Topped (integer_places is) (places_behind is) (settled (last_fill is))
unfolding every any count before_cut from_cut integer_places places_behind settled settled_from settled_item run_of nearer last_fill
top_kept [] a e s f = absurd (omega arith)
top_kept (i ∷ is) a e s f =
    let (a₁, a₂) = every-parts (item_allowed fraction_kind) i is a in
    held-case (λ (j : Item). every is_place (before_cut (j ∷ is)) ≡ true → count is_solidus (j ∷ is) ≡ 1 → denominator_fits (drop 1 (from_cut (j ∷ is))) ≡ true
    → Topped (integer_places (j ∷ is)) (places_behind (j ∷ is)) (settled (last_fill (j ∷ is))))
    (λ u. no) (λ u. no) (λ u. no)
    (λ p e s f. let (a, x, t, g, n, d) = top_kept is a₂ e s f in (a, x, t, g, ap suc n, d))
    (λ e s f. (refl, refl, ap suc (count_kept 18 refl refl is) ∙ s, below-kept is a₂ f, refl, count_kept 3 refl refl is)) (λ k. no) i a₁ e s f

-- the numerator does not stand directly behind an integer place
apart-only : (b : Bool) → follows b [] ≡ true → b ≡ false
unfolding any
apart-only true l = no l
apart-only false l = refl

kept-summed : (b : Bool) (is : List Item) → Held is → Fits b is → Summed b (wholes is) (mains is) (places_behind is) (settled (last_fill is))
unfolding every any count is_empty numerator_items end_places before_end before_cut from_cut integer_places places_behind literal_follows settled settled_from settled_item run_of nearer last_fill item_allowed
kept-summed b [] a (s, n, l, x, d) = absurd (omega arith)
kept-summed b (i ∷ is) a f =
    let (a₁, a₂) = every-parts (item_allowed fraction_kind) i is a in
    held-case (λ (j : Item). Fits b (j ∷ is) → Summed b (wholes (j ∷ is)) (mains (j ∷ is)) (places_behind (j ∷ is)) (settled (last_fill (j ∷ is))))
    (λ u f. literal-front false b u (settled (last_fill is)) (kept-summed false is a₂ (fits-anywhere b (literal u ∷ is) f)))
    (λ u f. kept-summed b is a₂ f)
    (λ u f. let r = kept-summed b is a₂ f in
    cond_both (λ (js : List Item). Summed b (wholes is) (mains is) (places_behind is) (settled_from no_run js)) (any is_fill is) r r)
    (λ p (s, n, l, x, d). by_cases (every is_place (before_cut is))
    (λ e. rw (e, cut-joins is, apart-only b (rw e at l)) (top-summed (settled (last_fill (place p ∷ is))) refl (top_kept (place p ∷ is) a₂ e s d)))
    (λ e. rw e (place-front b p (settled (last_fill is)) (kept-summed true is a₂ (s, rw e at n, rw (e, and-false b) at l, x, d)))))
    (λ (s, n, l, x, d). absurd (true≢false n)) (λ k (s, n, l, x, d). absurd (true≢false x)) i a₁ f

-- ---- a fraction's items, and what is kept of any

pub record Fraction (w n d : ℕ) (is : List Item) : Type 0 where
  pub some : any is_solidus is ≡ true
  pub fits : fraction_fits is ≡ true
  pub integers : integer_places (whole_items is) ≡ w
  pub numerators : integer_places (main_items is) ≡ n
  pub denominators : places_behind is ≡ d

pub summed-fits : {w n d : ℕ} (is : List Item) → Summed false w n d is → Fraction w n d is
unfolding fraction_fits whole_items main_items
summed-fits is ((s, a, l, x, f), w, n, d) =
    let has_one : any is_solidus is ≡ true = by_cases (any is_solidus is) (λ e. e) (λ e. absurd (omega (arith, none-count is_solidus is e))) in
    record { some = has_one; fits = rw (has_one, s, a, l, x, f); integers = rw has_one w; numerators = rw has_one n; denominators = d }

pub fits-parts : (is : List Item) → any is_solidus is ≡ true → fraction_fits is ≡ true → Fits false is
unfolding fraction_fits whole_items
fits-parts is e f =
    let all = rw e at (true-T f) in (
      eqb-true (count is_solidus is) 1 (T_true (eqb (count is_solidus is) 1) (search (and_left, and_right) depth 8)),
      not-true (is_empty (numerator_items is)) (T_true (not (is_empty (numerator_items is))) (search (and_left, and_right) depth 8)),
      T_true (literal_follows (before_end (before_cut is))) (search (and_left, and_right) depth 8),
      not-true (any is_fixed (before_cut is)) (T_true (not (any is_fixed (before_cut is))) (search (and_left, and_right) depth 8)),
      T_true (denominator_fits (drop 1 (from_cut is))) (search (and_left, and_right) depth 8),
    )

-- the rules for a solidus and the places of each part, once fills are left out and runs of m are settled
pub record PartsKept (is : List Item) : Type 0 where
  pub fits : fraction_fits (settled (last_fill is)) ≡ true
  pub integers : integer_places (whole_items (settled (last_fill is))) ≡ integer_places (whole_items is)
  pub numerators : integer_places (main_items (settled (last_fill is))) ≡ integer_places (main_items is)

-- without a solidus there is no fixed number
no_number_lem : (is : List Item) → any is_solidus is ≡ false → fraction_fits is ≡ true → any is_fixed is ≡ false
unfolding fraction_fits
no_number_lem is e f = by_cases (any is_fixed is) (λ h. let g = rw (e, h, none-count is_solidus is e) at f in no g) (λ h. h)

fraction-kind : (k : Kind) → same_kind k fraction_kind ≡ true → k ≡ fraction_kind
fraction-kind = by_kind (λ (k : Kind). same_kind k fraction_kind ≡ true → k ≡ fraction_kind) no no no no no no (λ e. refl)

pub parts-kept : (k : Kind) (is : List Item) → every (item_allowed k) is ≡ true → fraction_fits is ≡ true → PartsKept is
unfolding whole_items main_items fraction_fits
parts-kept k is a f =
    by_cases (any is_solidus is)
    (λ e.
    let fraction : k ≡ fraction_kind = fraction-kind k (by_cases (same_kind k fraction_kind) (λ h. h) (λ h. absurd (true≢false (sym e ∙ no-solidus k is h (true-T a))))) in
    let r = summed-fits (settled (last_fill is)) (kept-summed false is (rw fraction at a) (fits-parts is e f)) in
    record { fits = r.fits; integers = rw e r.integers; numerators = rw e r.numerators })
    (λ e.
    let none_left = any-kept is_solidus (λ u. refl) (λ n. refl) is ∙ e in
    record {
      fits = rw (none_left, any-kept is_fixed (λ u. refl) (λ n. refl) is ∙ no_number_lem is e f);
      integers = rw (e, none_left);
      numerators = rw (e, none_left) (integers-kept is);
    })
