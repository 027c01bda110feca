-- The tests on a tally by those that a section without an E and a solidus needs, and by those that a section with one needs.
-- Assumes nothing.
use Prim.Native.Nat.{ℕ, ◌≤◌, ◌<◌}
use mathlib.Core.Path.{◌≡◌, refl, sym, ◌∙◌, ap}
use mathlib.Core.Bool.{Bool, true, false, cond, not, ◌&&◌, ◌||◌, and-false, and-true, or-false, or-true}
use lib.Dec.{T, leb, ltb, eqb}
use native.Mathlib.Omega.{arith}
use borrow.Author.Tests.{le-leb, ltb-true, ltb-false, lt-ltb}
use Rattle.lists.proofs.Bools.{by_cases, T_true}
use Rattle.tallies.specs.declared.Tally.{Tally}
use Rattle.tallies.specs.Tally.{has_places, has_exponent, has_solidus, has_figures, has_number_items, Uncut, Cut, kind_told, allowed_told, no_plain_told, exponent_told, items_fit_told, within_told, decimals_told}

-- ---- without an E and a solidus
either-last : (p a b : Bool) → (p || (a || b)) ≡ ((p || a) || (b || false))
either-last true a b = refl
either-last false true b = refl
either-last false false b = sym (or-false b)

abbrev bare_kind : Bool → Bool → Bool → Bool → ℕ
bare_kind t g d n = cond t 3 (cond g 1 (cond d 4 (cond n 2 0)))

never-cut : (t g d n : Bool) → (eqb (bare_kind t g d n) 5 || eqb (bare_kind t g d n) 6) ≡ false
never-cut true g d n = refl
never-cut false true d n = refl
never-cut false false true n = refl
never-cut false false false true = refl
never-cut false false false false = refl

module _ (t : Tally) (e : Uncut t) where
  pub no-exponent : has_exponent t ≡ false
  no-exponent = ap (λ (n : ℕ). ltb 0 n) e.exponents

  pub no-solidus : has_solidus t ≡ false
  no-solidus = ap (λ (n : ℕ). ltb 0 n) e.solidi

  pub bare-places : (ltb 0 t.integers || ltb 0 t.decimals) ≡ has_places t
  bare-places =
      let none : ltb 0 t.places_behind ≡ false = ap (λ (n : ℕ). ltb 0 n) e.places in
      rw (none, or-false (ltb 0 t.decimals))

  pub bare-number-items : (has_places t || (ltb 0 t.points || ltb 0 t.percents)) ≡ has_number_items t
  bare-number-items = rw (no-exponent, no-solidus) (either-last (has_places t) (ltb 0 t.points) (ltb 0 t.percents))

  pub bare-items-fit : (allowed_told t && (leb t.generals 1 && (leb t.points 1 && (leb t.elapsed 1 && no_plain_told t)))) ≡ items_fit_told t
  bare-items-fit = rw (no-exponent, and-true (no_plain_told t))

  pub bare-decimals : (b : Bool) → eqb (kind_told t) 2 ≡ b → cond b t.decimals 0 ≡ decimals_told t
  bare-decimals b h =
      let never : (eqb (kind_told t) 5 || eqb (kind_told t) 6) ≡ false
      = rw (no-exponent, no-solidus) (never-cut t.texts (ltb 0 t.generals) t.dating (has_places t)) in
      rw (never, or-false (eqb (kind_told t) 2), h)

pub few-within : (t : Tally) (thousands : ℕ) → t.places_behind ≤ 3
    → (leb t.integers 20 && (leb t.decimals 15 && (leb t.percents 5 && (leb thousands 5 && t.short)))) ≡ within_told t thousands
few-within t thousands h = rw (le-leb t.places_behind 3 h)

-- ---- with one
few-generals : (g : ℕ) → ltb 0 g ≡ false → leb g 1 ≡ true
few-generals g h = le-leb g 1 (omega (arith, ltb-false 0 g h))

-- the kind and the items that it holds, by the flags that make it
abbrev pub cut_kind : Bool → Bool → Bool → Bool → ℕ
cut_kind t g d x = cond t 3 (cond g 1 (cond d 4 (cond x 5 6)))

abbrev cut_allowed : Bool → Bool → Bool → Bool → Bool → Bool → Bool → Bool → Bool
cut_allowed t g d x D Q P S =
    cond t (not g && (not D && false)) (cond g (not D && false) (cond d false (cond x (not D && (not P && not S)) (not D && (not Q && not P)))))

other-refused : (t g d x D Q P S : Bool) → (cut_kind t g d x ≡ 5 → ⊥) → (cut_kind t g d x ≡ 6 → ⊥) → false ≡ cut_allowed t g d x D Q P S
other-refused true g d x D Q P S m n = rw (and-false (not D), and-false (not g))
other-refused false true d x D Q P S m n = rw (and-false (not D))
other-refused false false true x D Q P S m n = refl
other-refused false false false true D Q P S m n = absurd (m refl)
other-refused false false false false D Q P S m n = absurd (n refl)

scientific-held : (t g d x D Q P S : Bool) → cut_kind t g d x ≡ 5 → (g ≡ false) × ((not D && (not P && not S)) ≡ cut_allowed t g d x D Q P S)
scientific-held true g d x D Q P S k = absurd (omega (arith, k))
scientific-held false true d x D Q P S k = absurd (omega (arith, k))
scientific-held false false true x D Q P S k = absurd (omega (arith, k))
scientific-held false false false true D Q P S k = (refl, refl)
scientific-held false false false false D Q P S k = absurd (omega (arith, k))

fraction-held : (t g d x D Q P S : Bool) → cut_kind t g d x ≡ 6 → (g ≡ false) × (x ≡ false) × ((not D && (not Q && not P)) ≡ cut_allowed t g d x D Q P S)
fraction-held true g d x D Q P S k = absurd (omega (arith, k))
fraction-held false true d x D Q P S k = absurd (omega (arith, k))
fraction-held false false true x D Q P S k = absurd (omega (arith, k))
fraction-held false false false true D Q P S k = absurd (omega (arith, k))
fraction-held false false false false D Q P S k = (refl, refl, refl)

shows-places : (t g d x : Bool) → leb 5 (cut_kind t g d x) ≡ (eqb (cut_kind t g d x) 2 || (eqb (cut_kind t g d x) 5 || eqb (cut_kind t g d x) 6))
shows-places true g d x = refl
shows-places false true d x = refl
shows-places false false true x = refl
shows-places false false false true = refl
shows-places false false false false = refl

pub an-exponent : (t : Tally) → 0 < t.exponents → has_exponent t ≡ true
an-exponent t e = lt-ltb 0 t.exponents e

module _ (t : Tally) (e : Cut t) where
  a-solidus : has_exponent t ≡ false → has_solidus t ≡ true
  a-solidus x = T_true (has_solidus t) (rw x at e)

  number-item : has_number_items t ≡ true
  number-item = rw (T_true (has_exponent t || has_solidus t) e, or-true (ltb 0 t.percents)) (or-true (has_figures t))

  pub kind-flags : kind_told t ≡ cut_kind t.texts (ltb 0 t.generals) t.dating (has_exponent t)
  kind-flags = by_cases (has_exponent t) (λ x. rw x) (λ x. rw (x, a-solidus x))

  abbrev allowed_flags : Bool
  allowed_flags = cut_allowed t.texts (ltb 0 t.generals) t.dating (has_exponent t) t.dates (ltb 0 t.points) (ltb 0 t.percents) (has_solidus t)

  allowed-flags : allowed_told t ≡ allowed_flags
  allowed-flags = rw number-item (by_cases (has_exponent t) (λ x. rw x) (λ x. rw (x, a-solidus x)))

  pub cut-refused : (kind_told t ≡ 5 → ⊥) → (kind_told t ≡ 6 → ⊥) → false ≡ items_fit_told t
  cut-refused m n =
      let other : allowed_told t ≡ false
      = allowed-flags ∙ sym (other-refused t.texts (ltb 0 t.generals) t.dating (has_exponent t) t.dates (ltb 0 t.points) (ltb 0 t.percents) (has_solidus t) (λ k. m (kind-flags ∙ k)) (λ k. n (kind-flags ∙ k))) in
      rw other

  pub scientific-items-fit : kind_told t ≡ 5
      → ((not t.dates && (not (ltb 0 t.percents) && not (has_solidus t))) && (leb t.points 1 && (leb t.elapsed 1 && (no_plain_told t && exponent_told t)))) ≡ items_fit_told t
  scientific-items-fit k =
      let held = scientific-held t.texts (ltb 0 t.generals) t.dating (has_exponent t) t.dates (ltb 0 t.points) (ltb 0 t.percents) (has_solidus t) (sym kind-flags ∙ k) in
      let allowed : allowed_told t ≡ (not t.dates && (not (ltb 0 t.percents) && not (has_solidus t))) = allowed-flags ∙ sym held.1 in
      rw (allowed, few-generals t.generals held.0)

  pub fraction-items-fit : kind_told t ≡ 6
      → ((not t.dates && (not (ltb 0 t.points) && not (ltb 0 t.percents))) && (leb t.elapsed 1 && no_plain_told t)) ≡ items_fit_told t
  fraction-items-fit k =
      let held = fraction-held t.texts (ltb 0 t.generals) t.dating (has_exponent t) t.dates (ltb 0 t.points) (ltb 0 t.percents) (has_solidus t) (sym kind-flags ∙ k) in
      let allowed : allowed_told t ≡ (not t.dates && (not (ltb 0 t.points) && not (ltb 0 t.percents))) = allowed-flags ∙ sym held.2 in
      rw (allowed, few-generals t.generals held.0, held.1, and-true (no_plain_told t))
      (by_cases (ltb 0 t.points) (λ p. rw (p, and-false (not t.dates))) (λ p. rw (p, few-generals t.points p)))

  pub cut-decimals : (b : Bool) → leb 5 (kind_told t) ≡ b → cond b t.decimals 0 ≡ decimals_told t
  cut-decimals b h =
      let shows : leb 5 (kind_told t) ≡ (eqb (kind_told t) 2 || (eqb (kind_told t) 5 || eqb (kind_told t) 6))
      = rw kind-flags (shows-places t.texts (ltb 0 t.generals) t.dating (has_exponent t)) in
      rw (← shows, h)

-- the kind 5 is that of a section with an E
pub scientific-exponent : (t : Tally) → kind_told t ≡ 5 → 0 < t.exponents
scientific-exponent t k = ltb-true 0 t.exponents (made t.texts (ltb 0 t.generals) t.dating (has_exponent t) (has_solidus t) (has_places t) k)
  where
    made : (t g d x s n : Bool) → ◌≡◌ {A = ℕ} (cond t 3 (cond g 1 (cond d 4 (cond x 5 (cond s 6 (cond n 2 0)))))) 5 → x ≡ true
    made true g d x s n k = absurd (omega (arith, k))
    made false true d x s n k = absurd (omega (arith, k))
    made false false true x s n k = absurd (omega (arith, k))
    made false false false true s n k = refl
    made false false false false true n k = absurd (omega (arith, k))
    made false false false false false true k = absurd (omega (arith, k))
    made false false false false false false k = absurd (omega (arith, k))

-- the kind 6 is that of a section with a solidus
pub fraction-cut : (t : Tally) → kind_told t ≡ 6 → Cut t
fraction-cut t k = made t.texts (ltb 0 t.generals) t.dating (has_exponent t) (has_solidus t) (has_places t) k
  where
    made : (t g d x s n : Bool) → ◌≡◌ {A = ℕ} (cond t 3 (cond g 1 (cond d 4 (cond x 5 (cond s 6 (cond n 2 0)))))) 6 → T (x || s)
    made true g d x s n k = absurd (omega (arith, k))
    made false true d x s n k = absurd (omega (arith, k))
    made false false true x s n k = absurd (omega (arith, k))
    made false false false true s n k = tt
    made false false false false true n k = tt
    made false false false false false true k = absurd (omega (arith, k))
    made false false false false false false k = absurd (omega (arith, k))
