-- Item words gone through item by item: what is told of those that are left.
-- Assumes nothing.
use Prim.Native.Nat.{ℕ, suc, ◌+◌, ◌-◌, ◌≤◌, ◌<◌}
use native.Mathlib.Omega.{arith}
use mir.Val.{bool_byte}
use mathlib.Core.Path.{◌≡◌, refl, sym, ◌∙◌, ap}
use mathlib.Core.Bool.{Bool, true, false, cond}
use mathlib.Core.List.{List, [], ◌∷◌, ◌++◌, append_assoc, append-nil}
use lib.ListN.{length, take, drop, get_or, set, length-append, length-take, length-drop, drop_of_length-le}
use lib.Seq.{take_all, take-append_seam, drop-append_seam, get_or-append_seam, set-append_seam}
use lib.Dec.{eqb}
use Rattle.values.specs.Ranges.{between}
use Rattle.lists.proofs.Bools.{by_cases}
use Rattle.numbering.specs.Number.{integers_in, numbered_from}

-- the places among item words before a point: of the first item and those behind it, and of none
pub integers-pair : (item later ws : List ℕ) → ws ≡ item ++ later → length item ≡ 2
    → integers_in ws ≡ cond (eqb (get_or item 0 0) 7) 0 (cond (between 4 6 (get_or item 0 0)) (suc (integers_in later)) (integers_in later))
unfolding integers_in
integers-pair [] later ws e n = absurd (omega arith)
integers-pair (t ∷ []) later ws e n = absurd (omega arith)
integers-pair (t ∷ a ∷ []) later ws e n = ap integers_in e
integers-pair (t ∷ a ∷ b ∷ us) later ws e n = absurd (omega arith)

pub integers-none : (ws : List ℕ) → length ws < 2 → integers_in ws ≡ 0
unfolding integers_in
integers-none [] h = refl
integers-none (t ∷ []) h = refl
integers-none (t ∷ a ∷ ws) h = absurd (omega arith)

pub more-places : (b : Bool) (r n m : ℕ) → n ≡ cond b (suc m) m → r ≡ bool_byte b → (n ≡ r + m) × (r ≤ 1)
more-places true r n m e f = (omega arith, omega arith)
more-places false r n m e f = (omega arith, omega arith)

-- the second of the words that are left
set_next : (done : List ℕ) (t x : ℕ) (ws : List ℕ) (v : ℕ) → set (done ++ t ∷ x ∷ ws) (length done + 1) v ≡ done ++ t ∷ v ∷ ws
set_next done t x ws v =
    sym (ap (λ (us : List ℕ). set us (length done + 1) v) (append_assoc done (t ∷ []) (x ∷ ws)))
    ∙ ap (λ (k : ℕ). set ((done ++ (t ∷ [])) ++ x ∷ ws) k v) (sym (length-append done (t ∷ [])))
    ∙ set-append_seam (done ++ (t ∷ [])) x ws v ∙ append_assoc done (t ∷ []) (v ∷ ws)

-- ---- powers written anew: those of the words that are done, and what is left
pub record Going (first : ℕ) (old room : List ℕ) (digit i : ℕ) : Type 0 where
  pub done : List ℕ
  pub left : List ℕ
  pub size : length done ≡ i
  pub rest : room ≡ done ++ left
  pub whole : numbered_from first old ≡ done ++ numbered_from digit left

pub going_start : (first : ℕ) (old : List ℕ) → Going first old old first 0
going_start first old = record { done = []; left = old; size = refl; rest = refl; whole = refl }

pub going_step : {first : ℕ} {old room : List ℕ} {digit i : ℕ} (out : List ℕ) (r : ℕ) {j : ℕ} → j ≡ i + 2 → Going first old room digit i → i + 1 < length room
    → r ≡ cond (between 4 6 (get_or room i 0)) (digit - 1) digit
    → out ≡ cond (between 4 6 (get_or room i 0)) (set room (i + 1) (suc digit)) room → Going first old out r j
unfolding numbered_from
going_step {first} {old} {room} {digit} {i} out r next g h a b = rw next (from g.left g.rest g.whole)
  where
    from : (left : List ℕ) → room ≡ g.done ++ left → numbered_from first old ≡ g.done ++ numbered_from digit left → Going first old out r (i + 2)
    from [] e w = absurd (omega (arith, ap length e, length-append g.done [], g.size))
    from (t ∷ []) e w = absurd (omega (arith, ap length e, length-append g.done (t ∷ []), g.size))
    from (t ∷ x ∷ ws) e w =
        let here : get_or room i 0 ≡ t = rw (e, ← g.size) (get_or-append_seam g.done t (x ∷ ws) 0) in
        by_cases (between 4 6 t)
        (λ p. record {
          done = g.done ++ (t ∷ suc digit ∷ []);
          left = ws;
          size = length-append g.done (t ∷ suc digit ∷ []) ∙ ap (λ (n : ℕ). n + 2) g.size;
          rest = b ∙ rw (here, p, e, ← g.size) (set_next g.done t x ws (suc digit) ∙ sym (append_assoc g.done (t ∷ suc digit ∷ []) ws));
          whole = w ∙ rw (a, here, p) (sym (append_assoc g.done (t ∷ suc digit ∷ []) (numbered_from (digit - 1) ws)));
        })
        (λ p. record {
          done = g.done ++ (t ∷ x ∷ []);
          left = ws;
          size = length-append g.done (t ∷ x ∷ []) ∙ ap (λ (n : ℕ). n + 2) g.size;
          rest = b ∙ rw (here, p, e) (sym (append_assoc g.done (t ∷ x ∷ []) ws));
          whole = w ∙ rw (a, here, p) (sym (append_assoc g.done (t ∷ x ∷ []) (numbered_from digit ws)));
        })

pub going_end : {first : ℕ} {old room : List ℕ} {digit i : ℕ} → Going first old room digit i → length room ≤ i + 1 → room ≡ numbered_from first old
unfolding numbered_from
going_end {first} {old} {room} {digit} {i} g h = from g.left g.rest g.whole
  where
    from : (left : List ℕ) → room ≡ g.done ++ left → numbered_from first old ≡ g.done ++ numbered_from digit left → room ≡ numbered_from first old
    from [] e w = e ∙ sym w
    from (t ∷ []) e w = e ∙ sym w
    from (t ∷ x ∷ ws) e w = absurd (omega (arith, ap length e, length-append g.done (t ∷ x ∷ ws), g.size))

-- ---- two parts numbered, one behind the other
pub front-put : (old x y : List ℕ) (s f g : ℕ) → length x ≡ s → x ≡ numbered_from f (take s old)
    → y ≡ numbered_from g (take (length (x ++ drop s old) - s) (drop s (x ++ drop s old)))
    → take s (x ++ drop s old) ++ (y ++ drop (length (x ++ drop s old) - s) (drop s (x ++ drop s old)))
    ≡ numbered_from f (take s old) ++ numbered_from g (drop s old)
front-put old x y s f g size e h =
    let d = drop s old in
    let a : take s (x ++ d) ≡ x = ap (λ (k : ℕ). take k (x ++ d)) (sym size) ∙ take-append_seam x d in
    let b : drop s (x ++ d) ≡ d = ap (λ (k : ℕ). drop k (x ++ d)) (sym size) ∙ drop-append_seam x d in
    let n : length (x ++ d) - s ≡ length d = omega (arith, length-append x d) in
    let whole : take (length d) d ≡ d = take_all (length d) d (omega arith) in
    rw (a, ← e)
    (ap (λ (us : List ℕ). x ++ us)
    (rw (h, b, n, whole, drop_of_length-le d {i = length d} (omega arith)) (append-nil (numbered_from g d))))

pub rest-few : (old x : List ℕ) (s : ℕ) → length x ≡ s → s ≤ length old → length old ≤ 508
    → length (take (length (x ++ drop s old) - s) (drop s (x ++ drop s old))) ≤ 508
rest-few old x s size h few =
    rw (length-take (length (x ++ drop s old) - s) (drop s (x ++ drop s old)))
    (omega (arith, length-drop s (x ++ drop s old), length-append x (drop s old), length-drop s old))
