-- What the items of a body keep once fills are left out and runs of m are settled, what the items of a kind cannot be, and the rules for an
-- E as facts about the items.
-- Assumes nothing.
use Prim.Native.Nat.{ℕ, suc, ◌≤◌}
use native.Mathlib.Omega.{arith}
use mathlib.Core.Path.{◌≡◌, refl, ap, ◌∙◌}
use mathlib.Core.Bool.{Bool, true, false, cond, not, ◌||◌, or-true}
use mathlib.Core.List.{List, [], ◌∷◌}
use lib.Dec.{T, leb, eqb, leb→le}
use borrow.Author.Tests.{eqb-true, le-leb, not-true}
use Rattle.lists.specs.Lists.{every, any, count}
use Rattle.lists.proofs.Bools.{no, by_cases, cond_both, T_true, and_left, and_right, true-T}
use Rattle.formats.specs.Items.{Item, fill, month, minute, Kind, text_kind, general_kind, date_kind, scientific_kind, fraction_kind, number_kind, same_kind, shows_places, item_allowed, is_place, is_space, is_point, is_exponent, is_cut, before_cut, from_cut, integer_places, decimal_places, places_behind, exponent_fits, settled, item_number}
use Rattle.formats.specs.Kinds.{last_fill}
use Rattle.formats.proofs.FormedItems.{both-kept}
use Rattle.formats.proofs.Each.{by-item}
use Rattle.grammar.proofs.Tests.{absent}

-- ---- fills left out, runs of m settled

pub any-kept : (f : Item → Bool) → ((u : ℕ) → f (fill u) ≡ false) → ((n : ℕ) → f (minute n) ≡ f (month n)) → (is : List Item) → any f (settled (last_fill is)) ≡ any f is
unfolding any
any-kept f g h = both-kept (any f) (λ i is js e. rw e) (λ u is. rw (g u)) (λ n is. rw (h n))

-- an item other than a fill, a month or a minute is counted alike
pub count_kept : (k : ℕ) → eqb 2 k ≡ false → eqb 12 k ≡ eqb 9 k → (is : List Item)
    → count (λ (i : Item). eqb (item_number i) k) (settled (last_fill is)) ≡ count (λ (i : Item). eqb (item_number i) k) is
unfolding count
count_kept k g h = both-kept (count (λ (i : Item). eqb (item_number i) k)) (λ i is js e. rw e) (λ u is. rw g) (λ n is. rw h)

pub integers-kept : (is : List Item) → integer_places (settled (last_fill is)) ≡ integer_places is
unfolding integer_places
integers-kept = both-kept integer_places (λ i is js e. rw e) (λ u is. refl) (λ n is. refl)

-- ---- the numbers of the items that a kind may hold

unfoldable pub sorts : Kind → ℕ → Bool
sorts k n =
    leb n 2
    || cond (eqb n 3) (shows_places k)
    (cond (eqb n 4) (same_kind number_kind k || same_kind scientific_kind k)
    (cond (eqb n 5) (same_kind number_kind k)
    (cond (eqb n 6) (same_kind general_kind k)
    (cond (eqb n 7) (same_kind text_kind k)
    (cond (eqb n 17) (same_kind scientific_kind k)
    (cond (leb 18 n) (same_kind fraction_kind k) (same_kind date_kind k)))))))

pub allowed-sorts : (k : Kind) (i : Item) → item_allowed k i ≡ sorts k (item_number i)
unfolding item_allowed sorts
allowed-sorts k =
    by-item (λ (i : Item). item_allowed k i ≡ sorts k (item_number i)) (λ u. refl) (λ u. refl) (λ u. refl) (λ p. refl) refl refl refl refl
    (λ n. refl) (λ n. refl) (λ n. refl) (λ n. refl) (λ n. refl) (λ n. refl) (λ n. refl) (λ e n. refl) (λ h. refl) (λ m. refl) refl (λ n. refl)

pub allowed-kept : (k : Kind) (is : List Item) → every (item_allowed k) (settled (last_fill is)) ≡ every (item_allowed k) is
unfolding every item_allowed
allowed-kept k = both-kept (every (item_allowed k)) (λ i is js e. rw e) (λ u is. refl) (λ n is. refl)

-- an item that the kind does not hold is not there
pub foreign : (k : Kind) (n : ℕ) → sorts k n ≡ false → (is : List Item) → every (item_allowed k) is ≡ true → count (λ (i : Item). eqb (item_number i) n) is ≡ 0
unfolding every count
foreign k n f [] e = refl
foreign k n f (i ∷ is) e =
    by_cases (eqb (item_number i) n)
    (λ h.
    let g : item_allowed k i ≡ false = allowed-sorts k i ∙ ap (sorts k) (eqb-true (item_number i) n h) ∙ f in
    no (rw g at e))
    (λ h. rw h (foreign k n f is (allowed-rest (item_allowed k i) e)))
  where
    allowed-rest : (b : Bool) → cond b (every (item_allowed k) is) false ≡ true → every (item_allowed k) is ≡ true
    allowed-rest true e = e
    allowed-rest false e = no e

-- ---- no place: no integer places

pub no-integers : (is : List Item) → count is_place is ≡ 0 → integer_places is ≡ 0
unfolding integer_places count
no-integers [] e = refl
no-integers (i ∷ is) e =
    by_cases (is_place i)
    (λ h. let z : suc (count is_place is) ≡ 0 = rw h at e in absurd (omega arith))
    (λ h. rw h (cond_both (λ (n : ℕ). n ≡ 0) (is_point i || is_cut i) refl (no-integers is (rw h at e))))

-- ---- the places before and behind the point, and from the E on

places-before : (i : Item) (is js : List Item) → count is_place (before_cut is) ≡ count is_place (before_cut js) → count is_place (before_cut (i ∷ is)) ≡ count is_place (before_cut (i ∷ js))
unfolding before_cut count
places-before i is js e = by_cases (is_cut i) (λ h. rw h) (λ h. rw (h, e))

pub decimals-kept : (is : List Item) → decimal_places (settled (last_fill is)) ≡ decimal_places is
unfolding decimal_places before_cut count
decimals-kept is =
    ap (λ (p : ℕ × ℕ). p.1)
    (both-kept {A = ℕ × ℕ} (λ (js : List Item). (count is_place (before_cut js), decimal_places js))
    (λ i js ks e.
    let b = places-before i js ks (ap (λ (p : ℕ × ℕ). p.0) e) in
    let d = ap (λ (p : ℕ × ℕ). cond (is_point i) p.0 (cond (is_cut i) 0 p.1)) e in
    λ j. (b j, d j))
    (λ u is. refl) (λ n is. refl) is)

-- what is kept of items is kept of those from the E on
module _ {A : Type 0} (h : List Item → A) (on : (i : Item) (is js : List Item) → h is ≡ h js → h (i ∷ is) ≡ h (i ∷ js))
    (over : (u : ℕ) (is : List Item) → h (fill u ∷ is) ≡ h is) (same : (n : ℕ) (is : List Item) → h (minute n ∷ is) ≡ h (month n ∷ is)) where
  from_on : (i : Item) (is js : List Item) → h is ≡ h js → h (from_cut is) ≡ h (from_cut js) → h (from_cut (i ∷ is)) ≡ h (from_cut (i ∷ js))
  unfolding from_cut
  from_on i is js e f = by_cases (is_cut i) (λ k. rw k (on i is js e)) (λ k. rw k f)

  from-kept : (is : List Item) → h (from_cut (settled (last_fill is))) ≡ h (from_cut is)
  unfolding from_cut
  from-kept is =
      ap (λ (p : A × A). p.1)
      (both-kept {A = A × A} (λ (js : List Item). (h js, h (from_cut js)))
      (λ i js ks e.
      let a = on i js ks (ap (λ (p : A × A). p.0) e) in
      let b = from_on i js ks (ap (λ (p : A × A). p.0) e) (ap (λ (p : A × A). p.1) e) in
      λ j. (a j, b j))
      (λ u js. let a = over u js in λ j. (a j, h (from_cut js))) (λ n js. let a = same n js in λ j. (a j, h (from_cut js))) is)

pub exponents-kept : (is : List Item) → places_behind (settled (last_fill is)) ≡ places_behind is
unfolding places_behind count
exponents-kept = from-kept (count is_place) (λ i is js e. rw e) (λ u is. refl) (λ n is. refl)

any-from-kept : (f : Item → Bool) → ((u : ℕ) → f (fill u) ≡ false) → ((n : ℕ) → f (minute n) ≡ f (month n))
    → (is : List Item) → any f (from_cut (settled (last_fill is))) ≡ any f (from_cut is)
unfolding any
any-from-kept f g s = from-kept (any f) (λ i is js e. rw e) (λ u is. rw (g u)) (λ n is. rw (s n))

pub exponent-kept : (is : List Item) → exponent_fits (settled (last_fill is)) ≡ exponent_fits is
unfolding exponent_fits
exponent-kept is =
    rw (
      any-kept is_exponent (λ u. refl) (λ n. refl) is,
      count_kept 17 refl refl is,
      integers-kept is,
      exponents-kept is,
      any-from-kept is_point (λ u. refl) (λ n. refl) is,
      any-from-kept is_space (λ u. refl) (λ n. refl) is,
    )

-- ---- the rules for an E, where there is none, and where there is one

pub no-exponents : (is : List Item) → count is_exponent is ≡ 0 → exponent_fits is ≡ true
unfolding exponent_fits
no-exponents is e = rw (absent is_exponent is e)

pub record Exponential (is : List Item) : Type 0 where
  pub marks : count is_exponent is ≤ 1
  pub integers : 1 ≤ integer_places is
  pub exponents : 1 ≤ places_behind is
  pub no-point : any is_point (from_cut is) ≡ false
  pub no-space : any is_space (from_cut is) ≡ false

pub exponential : (is : List Item) → any is_exponent is ≡ true → exponent_fits is ≡ true → Exponential is
unfolding exponent_fits
exponential is h f =
    let all : T (exponent_fits is) = true-T f in
    let rules = rw h at all in
    record {
      marks = leb→le (count is_exponent is) 1 (search (and_left, and_right) depth 8);
      integers = leb→le 1 (integer_places is) (search (and_left, and_right) depth 8);
      exponents = leb→le 1 (places_behind is) (search (and_left, and_right) depth 8);
      no-point = not-true (any is_point (from_cut is)) (T_true (not (any is_point (from_cut is))) (search (and_left, and_right) depth 8));
      no-space = not-true (any is_space (from_cut is)) (T_true (not (any is_space (from_cut is))) (search (and_left, and_right) depth 8));
    }

pub exponential-fits : (is : List Item) → Exponential is → exponent_fits is ≡ true
unfolding exponent_fits
exponential-fits is e =
    rw (
      le-leb (count is_exponent is) 1 e.marks,
      le-leb 1 (integer_places is) e.integers,
      le-leb 1 (places_behind is) e.exponents,
      e.no-point,
      e.no-space,
      or-true (not (any is_exponent is)),
    )
