-- What settling and the rule for fills keep of a list of items.
-- Assumes nothing.
use Prim.Native.Nat.{ℕ, suc, ◌≤◌}
use native.Mathlib.Omega.{arith}
use mathlib.Core.Path.{◌≡◌, refl, sym, ◌∙◌, ap}
use mathlib.Core.Bool.{Bool, true, false, cond, not, ◌&&◌, ◌||◌}
use mathlib.Core.List.{List, [], ◌∷◌}
use lib.Dec.{T, leb, eqb, le→leb, eqb_refl}
use Rattle.lists.specs.Lists.{every, any, count}
use Rattle.lists.proofs.Bools.{no, by_cases, cond_both, cond-case, and_left, and_right, and_in, T_true, true-T, every-head, every-tail, every-cons}
use Rattle.formats.specs.Items.{Item, literal, blank, fill, place, point, percent, general, at, year, month, day, hour, minute, second, part, elapsed, half, item_number, is_fill, is_place, is_part, integer_places, Run, no_run, run_of, nearer, first_run, means_minutes, month_or_minute, settled_item, settled_from, settled, exponent, solidus, fixed, is_cut, places_behind, from_cut}
use Rattle.formats.specs.Kinds.{last_fill}
use Rattle.formats.specs.WellFormed.{one_fill, settled_test, is_settled, is_seconds, parts_from}
use Rattle.formats.proofs.Each.{by-item}

-- what holds of every fill holds of an item that is one
fill-case : (P : Item → Type 0) → ((u : ℕ) → P (fill u)) → (i : Item) → is_fill i ≡ true → P i
fill-case P f =
    by-item (λ (i : Item). is_fill i ≡ true → P i) (λ u. no) (λ u. no) (λ u e. f u) (λ p. no) no no no no
    (λ n. no) (λ n. no) (λ n. no) (λ n. no) (λ n. no) (λ n. no) (λ n. no) (λ x n. no) (λ h. no) (λ m. no) no (λ n. no)

-- what holds of every fill holds of an item that is left out
pub dropped : (P : Item → Type 0) → ((u : ℕ) → P (fill u)) → (i : Item) (is : List Item) → (is_fill i && any is_fill is) ≡ true → P i
dropped P f i is h = fill-case P f i (T_true (is_fill i) (and_left (is_fill i) (any is_fill is) (true-T h)))

-- an item and what it becomes between two runs: the rule for m tells of a month and a minute, and leaves every other item
pub settled-cases : (P : Item → (Run → Run → Item) → Type 0)
    → ((n : ℕ) → P (month n) (λ e l. month_or_minute (means_minutes e l) n))
    → ((n : ℕ) → P (minute n) (λ e l. month_or_minute (means_minutes e l) n))
    → ((i : Item) → P i (λ e l. i)) → (i : Item) → P i (λ e l. settled_item e l i)
unfolding settled_item
settled-cases P p q r =
    by-item (λ (i : Item). P i (λ e l. settled_item e l i)) (λ u. r (literal u)) (λ u. r (blank u)) (λ u. r (fill u)) (λ o. r (place o))
    (r point) (r percent) (r general) (r at) (λ n. r (year n)) p (λ n. r (day n)) (λ n. r (hour n)) q (λ n. r (second n)) (λ n. r (part n))
    (λ x n. r (elapsed x n)) (λ h. r (half h)) (λ m. r (exponent m)) (r solidus) (λ n. r (fixed n))

-- settling keeps whatever is the same of months and minutes
module _ {A : Type 0} (f : Item → A) (same : (n : ℕ) → f (minute n) ≡ f (month n)) where
  month-kept : (b : Bool) (n : ℕ) → f (month_or_minute b n) ≡ f (month n)
  unfolding month_or_minute
  month-kept b n = cond_both (λ (i : Item). f i ≡ f (month n)) (b && leb n 2) (same n) refl

  pub settled-kept : (e l : Run) (i : Item) → f (settled_item e l i) ≡ f i
  settled-kept e l = settled-cases (λ (i : Item) (g : Run → Run → Item). f (g e l) ≡ f i)
      (λ n. month-kept (means_minutes e l) n) (λ n. month-kept (means_minutes e l) n ∙ sym (same n)) (λ i. refl)

-- what passes over fills and goes on from what is behind an item is the same of the fills that are left; and what is the same of a month
-- and a minute is kept when runs of m are settled
module _ {A : Type 0} (h : List Item → A) (on : (i : Item) (is js : List Item) → h is ≡ h js → h (i ∷ is) ≡ h (i ∷ js)) where
  pub fills-kept : ((u : ℕ) (is : List Item) → h (fill u ∷ is) ≡ h is) → (is : List Item) → h (last_fill is) ≡ h is
  unfolding last_fill
  fills-kept over [] = refl
  fills-kept over (i ∷ is) =
      let r = fills-kept over is in
      cond-case (λ (js : List Item). h js ≡ h (i ∷ is)) (is_fill i && any is_fill is)
      (λ e. r ∙ sym (dropped (λ (j : Item). h (j ∷ is) ≡ h is) (λ u. over u is) i is e))
      (λ e. on i (last_fill is) is r)

  pub runs-kept : ((n : ℕ) (is : List Item) → h (minute n ∷ is) ≡ h (month n ∷ is)) → (e : Run) (is : List Item) → h (settled_from e is) ≡ h is
  unfolding settled_from
  runs-kept same e [] = refl
  runs-kept same e (i ∷ is) =
      let js = settled_from (nearer (run_of i) e) is in
      settled-kept (λ (j : Item). h (j ∷ js)) (λ n. same n js) e (first_run is) i ∙ on i js is (runs-kept same (nearer (run_of i) e) is)

  pub both-kept : ((u : ℕ) (is : List Item) → h (fill u ∷ is) ≡ h is) → ((n : ℕ) (is : List Item) → h (minute n ∷ is) ≡ h (month n ∷ is))
      → (is : List Item) → h (settled (last_fill is)) ≡ h is
  unfolding settled
  both-kept over same is = runs-kept same no_run (last_fill is) ∙ fills-kept over is

pub every-last_fill : (f : Item → Bool) (is : List Item) → T (every f is) → T (every f (last_fill is))
unfolding last_fill every
every-last_fill f [] t = tt
every-last_fill f (i ∷ is) t =
    let r : T (every f (last_fill is)) = every-last_fill f is (every-tail f i is t) in
    cond_both (λ js. T (every f js)) (is_fill i && any is_fill is) r (every-cons f i (last_fill is) (every-head f i is t) r)

pub places-last_fill : (is : List Item) → integer_places (last_fill is) ≡ integer_places is
unfolding integer_places
places-last_fill = fills-kept integer_places (λ i is js e. rw e) (λ u is. refl)

-- "only the last [fill] in a section is kept"
fills-left : (is : List Item) → count is_fill (last_fill is) ≡ cond (any is_fill is) 1 0
unfolding last_fill count any
fills-left [] = refl
fills-left (i ∷ is) =
    by_cases (is_fill i)
    (λ h. by_cases (any is_fill is) (λ k. rw (h, k) (rw k at (fills-left is))) (λ k. rw (h, k) (rw h (ap suc (rw k at (fills-left is))))))
    (λ h. rw h (rw h (fills-left is)))

seconds-fill : (u : ℕ) → is_seconds (fill u) ≡ false
unfolding is_seconds
seconds-fill u = refl

-- what may stand behind any item may stand behind seconds
parts_more : (b : Bool) (is : List Item) → T (parts_from false is) → T (parts_from b is)
unfolding parts_from
parts_more b [] t = tt
parts_more b (i ∷ is) t = by_cases (is_part i) (λ h. absurd (rw h at t)) (λ h. rw h (rw h at t))

pub parts-last_fill : (b : Bool) (is : List Item) → T (parts_from b is) → T (parts_from b (last_fill is))
unfolding last_fill parts_from
parts-last_fill b [] t = tt
parts-last_fill b (i ∷ is) t =
    by_cases (is_fill i && any is_fill is)
    (λ h.
    let p : is_part i ≡ false = dropped (λ (j : Item). is_part j ≡ false) (λ u. refl) i is h in
    let s : is_seconds i ≡ false = dropped (λ (j : Item). is_seconds j ≡ false) seconds-fill i is h in
    rw h (parts_more b (last_fill is) (parts-last_fill false is (rw (p, s) at t))))
    (λ h.
    rw h (and_in (not (is_part i) || b) (parts_from (is_seconds i) (last_fill is))
    (and_left (not (is_part i) || b) (parts_from (is_seconds i) is) t)
    (parts-last_fill (is_seconds i) is (and_right (not (is_part i) || b) (parts_from (is_seconds i) is) t))))

count-settled : (e : Run) (is : List Item) → count is_fill (settled_from e is) ≡ count is_fill is
unfolding count
count-settled = runs-kept (count is_fill) (λ i is js e. rw e) (λ n is. refl)

pub places-settled : (e : Run) (is : List Item) → integer_places (settled_from e is) ≡ integer_places is
unfolding integer_places
places-settled = runs-kept integer_places (λ i is js e. rw e) (λ n is. refl)

-- the exponent places stay too, told with the count of all places, which they are where the first item is an E or solidus
abbrev places_of : List Item → ℕ × ℕ
places_of is = (places_behind is, count is_place is)

places-on : (i : Item) (is js : List Item) → places_of is ≡ places_of js → places_of (i ∷ is) ≡ places_of (i ∷ js)
unfolding places_behind from_cut count
places-on i is js e =
    let a = ap (λ (p : ℕ × ℕ). p.0) e in
    let b = ap (λ (p : ℕ × ℕ). p.1) e in
    by_cases (is_cut i) (λ x. rw (x, b)) (λ x. rw (x, a, b))

pub exponents-last_fill : (is : List Item) → places_behind (last_fill is) ≡ places_behind is
unfolding places_behind from_cut count
exponents-last_fill is = ap (λ (p : ℕ × ℕ). p.0) (fills-kept places_of places-on (λ u js. refl) is)

pub exponents-settled : (e : Run) (is : List Item) → places_behind (settled_from e is) ≡ places_behind is
unfolding places_behind from_cut count
exponents-settled e is = ap (λ (p : ℕ × ℕ). p.0) (runs-kept places_of places-on (λ n js. refl) e is)

pub parts-settled : (b : Bool) (e : Run) (is : List Item) → parts_from b (settled_from e is) ≡ parts_from b is
unfolding parts_from is_seconds
parts-settled b e is =
    ap (λ (f : Bool → Bool). f b)
    (runs-kept (λ (js : List Item) (c : Bool). parts_from c js)
    (λ i js ks e. ap {B = Bool → Bool} (λ (f : Bool → Bool) (c : Bool). (not (is_part i) || c) && f (is_seconds i)) e) (λ n is. refl) e is)

-- a run stays the run that it was, for what stands behind it and before it
run_settled : (e l : Run) (i : Item) → run_of (settled_item e l i) ≡ run_of i
unfolding run_of
run_settled e l i = settled-kept run_of (λ n. refl) e l i

first-settled : (e : Run) (is : List Item) → first_run (settled_from e is) ≡ first_run is
unfolding first_run run_of
first-settled = runs-kept first_run (λ i is js e. cc) (λ n is. refl)

-- to settle once more changes nothing
settled-again : (e l : Run) (i : Item) → settled_item e l (settled_item e l i) ≡ settled_item e l i
unfolding settled_item
settled-again e l i = settled-kept (settled_item e l) (λ n. refl) e l i

settled-test : (e : Run) (is : List Item) → T (settled_test e (settled_from e is))
unfolding settled_test settled_from
settled-test e [] = tt
settled-test e (i ∷ is) =
    let l = first_run is in
    let r = nearer (run_of i) e in
    rw (first-settled r is, settled-again e l i, run_settled e l i)
    (and_in (eqb (item_number (settled_item e l i)) (item_number (settled_item e l i))) (settled_test r (settled_from r is))
    (eqb_refl (item_number (settled_item e l i))) (settled-test r is))

pub settling-settles : (is : List Item) → T (is_settled (settled is))
unfolding is_settled settled
settling-settles is = settled-test no_run is

-- "at most one fill a section"
pub fills_one : (is : List Item) → T (one_fill (settled (last_fill is)))
unfolding one_fill settled
fills_one is =
    le→leb (count is_fill (settled_from no_run (last_fill is))) 1
    (rw (count-settled no_run (last_fill is), fills-left is)
    (cond_both (λ n. n ≤ 1) (any is_fill is) (omega arith) (omega arith)))
