-- The laws of comparing: by whole parts and rests, with the signs, and for each comparison.
-- Assumes nothing.
use Prim.Native.Nat.{ℕ, ◌+◌, ◌-◌, ◌*◌, ◌/◌, ◌%◌, ◌^◌, ◌≤◌, ◌<◌}
use native.Mathlib.Omega.{arith}
use native.Mathlib.Nat.{mod-lt, div-add-mod', mul-lt-mul_of_pos_right, mul-le-mul_right, mul-le-mul, one-mul, mul-one}
use mathlib.Core.Path.{◌≡◌, refl, sym, ap, ◌∙◌}
use mathlib.Core.Bool.{Bool, true, false, cond, not, ◌&&◌, ◌||◌}
use lib.Dec.{ltb}
use borrow.Author.Tests.{ltb-true, ltb-false, lt-ltb, le-ltb, eq-eqb, ne_eqb}
use Rattle.lists.proofs.Bools.{by_cases}
use Rattle.figures.specs.Rounding.{Magnitude}
use Rattle.figures.proofs.Tens.{ten-pos, ten-le, ten-split}
use Rattle.formats.specs.Tokens.{Comparison, equal, less, greater, at_most, at_least, unequal}
use Rattle.formats.specs.Choice.{Exact, smaller, less_than, compared}
use Rattle.std.specs.Ordering.{is_eq, is_ne, is_lt, is_gt, is_le, is_ge, ordering_reverse, nat_cmp}
use Rattle.std.specs.declared.cmp.Ordering.{Ordering}
use Rattle.std.specs.declared.cmp.Ordering.TheVariants.{Less, Equal, Greater}
use Rattle.choosing.specs.declared.sought.Sought.{Sought}
use Rattle.choosing.specs.Seeking.{parts_of_one, exact_of}
use Rattle.choosing.specs.Comparing.{order_of, parts_order, fraction, millionths_size, signed_order, holds_for}

-- how two numbers stand, by what is known of them
whole-less : (a b : ℕ) → a < b → nat_cmp a b ≡ Less
whole-less a b h = rw (lt-ltb a b h)

whole-greater : (a b : ℕ) → b < a → nat_cmp a b ≡ Greater
whole-greater a b h = rw (le-ltb a b (omega arith), ne_eqb a b (λ e. absurd (omega arith)))

whole-equal : (a b : ℕ) → a ≡ b → nat_cmp a b ≡ Equal
whole-equal a b h = rw (le-ltb a b (omega arith), eq-eqb a b h)

-- fractions stand as their numerators do over one denominator
crossed : (x y : Magnitude) → order_of x y ≡ nat_cmp (x.above * y.below) (y.above * x.below)
unfolding order_of smaller
crossed x y =
    let a : ℕ = x.above * y.below in
    let b : ℕ = y.above * x.below in
    by_cases (ltb a b)
    (λ h. rw (whole-less a b (ltb-true a b h), h))
    (λ h. by_cases (ltb b a)
    (λ k. rw (whole-greater a b (ltb-true b a k), h, k))
    (λ k.
    let l : b ≤ a = ltb-false a b h in
    let m : a ≤ b = ltb-false b a k in
    let e : a ≡ b = omega arith in
    rw (whole-equal a b e, h, k)))

-- numbers that stand to each other as two others do
whole_same : (a b c d : ℕ) → (a < b → c < d) → (b < a → d < c) → (a ≡ b → c ≡ d) → nat_cmp c d ≡ nat_cmp a b
whole_same a b c d f g h =
    by_cases (ltb a b)
    (λ e. let l : a < b = ltb-true a b e in whole-less c d (f l) ∙ sym (whole-less a b l))
    (λ e. by_cases (ltb b a)
    (λ k. let l : b < a = ltb-true b a k in whole-greater c d (g l) ∙ sym (whole-greater a b l))
    (λ k.
    let l : b ≤ a = ltb-false a b e in
    let m : a ≤ b = ltb-false b a k in
    let s : a ≡ b = omega arith in
    whole-equal c d (h s) ∙ sym (whole-equal a b s)))

whole-times : (a b e : ℕ) → 0 < e → nat_cmp (a * e) (b * e) ≡ nat_cmp a b
whole-times a b e h =
    whole_same a b (a * e) (b * e) (λ l. mul-lt-mul_of_pos_right l h) (λ l. mul-lt-mul_of_pos_right l h) (λ s. ap (λ (x : ℕ). x * e) s)

whole-plus : (k a b : ℕ) → nat_cmp (k + a) (k + b) ≡ nat_cmp a b
whole-plus k a b = whole_same a b (k + a) (k + b) (λ l. omega arith) (λ l. omega arith) (λ s. omega arith)

-- q + r/p and w + m/u, where e and f bring the rests to one denominator
module _ (q r p w m u : ℕ) (rest : r < p) (part : m < u) where
  parts-less : q < w → (q * p + r) * u < (w * u + m) * p
  parts-less h =
      let a : (q + 1) * (p * u) ≤ w * (p * u) = mul-le-mul_right (p * u) (omega arith) in
      let b : r * u < p * u = mul-lt-mul_of_pos_right rest (omega arith) in
      omega arith

  parts-greater : w < q → (w * u + m) * p < (q * p + r) * u
  parts-greater h =
      let a : (w + 1) * (p * u) ≤ q * (p * u) = mul-le-mul_right (p * u) (omega arith) in
      let b : m * p < u * p = mul-lt-mul_of_pos_right part (omega arith) in
      omega arith

  parts-rest : (e f : ℕ) → 0 < e → e * p ≡ f * u → q ≡ w
      → nat_cmp ((q * p + r) * u) ((w * u + m) * p) ≡ nat_cmp (r * e) (m * f)
  parts-rest e f least common s =
      let a : (q * p + r) * u ≡ q * p * u + r * u = omega arith in
      let b : (q * u + m) * p ≡ q * p * u + m * p = omega arith in
      let c : r * u * e ≡ r * e * u = omega arith in
      let d : m * p * e ≡ m * f * u = m-common in
      rw (← s, a, b, whole-plus (q * p * u) (r * u) (m * p), ← (whole-times (r * u) (m * p) e least), c, d)
      (whole-times (r * e) (m * f) u (omega arith))
    where
      m-common : m * p * e ≡ m * f * u
      m-common =
          let x : m * p * e ≡ m * (e * p) = omega arith in
          let y : m * (f * u) ≡ m * f * u = omega arith in
          x ∙ ap (λ (n : ℕ). m * n) common ∙ y

  parts-order : (e f : ℕ) → 0 < e → e * p ≡ f * u
      → nat_cmp ((q * p + r) * u) ((w * u + m) * p) ≡ parts_order q (r * e) w (m * f)
  unfolding parts_order
  parts-order e f least common =
      by_cases (ltb q w)
      (λ k. let l : q < w = ltb-true q w k in rw (whole-less q w l) (whole-less ((q * p + r) * u) ((w * u + m) * p) (parts-less l)))
      (λ k. by_cases (ltb w q)
      (λ j. let l : w < q = ltb-true w q j in rw (whole-greater q w l) (whole-greater ((q * p + r) * u) ((w * u + m) * p) (parts-greater l)))
      (λ j.
      let x : w ≤ q = ltb-false q w k in
      let y : q ≤ w = ltb-false w q j in
      let s : q ≡ w = omega arith in
      rw (whole-equal q w s) (parts-rest e f least common s)))

-- a fraction and one with whole part and rest
pub order-by-parts : (a p w m u e f : ℕ) → 0 < p → m < u → 0 < e → e * p ≡ f * u
    → order_of (fraction a p) (fraction (w * u + m) u) ≡ parts_order (a / p) (a % p * e) w (m * f)
order-by-parts a p w m u e f one part least common =
    crossed (fraction a p) (fraction (w * u + m) u)
    ∙ ap (λ (x : ℕ). nat_cmp (x * u) ((w * u + m) * p)) (sym (div-add-mod' a p))
    ∙ parts-order (a / p) (a % p) p w m u (mod-lt a one) part e f least common

-- what the order of two fractions says
order-less : (x y : Magnitude) → smaller x y ≡ is_lt (order_of x y)
unfolding order_of
order-less x y = by_cases (smaller x y) (λ h. rw h) (λ h. by_cases (smaller y x) (λ k. rw (h, k)) (λ k. rw (h, k)))

smaller-once : (x y : Magnitude) → smaller x y ≡ true → smaller y x ≡ false
unfolding smaller
smaller-once x y h =
    let l : x.above * y.below < y.above * x.below = ltb-true (x.above * y.below) (y.above * x.below) h in
    le-ltb (y.above * x.below) (x.above * y.below) (omega arith)

order-greater : (x y : Magnitude) → smaller y x ≡ is_gt (order_of x y)
unfolding order_of
order-greater x y =
    by_cases (smaller x y) (λ h. rw (h, smaller-once x y h)) (λ h. by_cases (smaller y x) (λ k. rw (h, k)) (λ k. rw (h, k)))

by_order : (P : Ordering → Type 0) → P Less → P Equal → P Greater → (o : Ordering) → P o
by_order P l e g Less = l
by_order P l e g Equal = e
by_order P l e g Greater = g

reversed-less : (o : Ordering) → is_lt (ordering_reverse o) ≡ is_gt o
reversed-less = by_order (λ (o : Ordering). is_lt (ordering_reverse o) ≡ is_gt o) refl refl refl

reversed-greater : (o : Ordering) → is_gt (ordering_reverse o) ≡ is_lt o
reversed-greater = by_order (λ (o : Ordering). is_gt (ordering_reverse o) ≡ is_lt o) refl refl refl

-- with the signs
unfoldable pub exact_order : Exact → Exact → Ordering
exact_order x y = signed_order x.negative y.negative (order_of x.size y.size)

less-signed : (a b : Bool) (x y : Magnitude)
    → cond a (cond b (smaller y x) true) (cond b false (smaller x y)) ≡ is_lt (signed_order a b (order_of x y))
less-signed true true x y = order-greater x y ∙ sym (reversed-less (order_of x y))
less-signed true false x y = refl
less-signed false true x y = refl
less-signed false false x y = order-less x y

greater-signed : (a b : Bool) (x y : Magnitude)
    → cond b (cond a (smaller x y) true) (cond a false (smaller y x)) ≡ is_gt (signed_order a b (order_of x y))
greater-signed true true x y = order-less x y ∙ sym (reversed-greater (order_of x y))
greater-signed true false x y = refl
greater-signed false true x y = refl
greater-signed false false x y = order-greater x y

pub less-order : (x y : Exact) → less_than x y ≡ is_lt (exact_order x y)
unfolding less_than exact_order
less-order x y = less-signed x.negative y.negative x.size y.size

pub greater-order : (x y : Exact) → less_than y x ≡ is_gt (exact_order x y)
unfolding less_than exact_order
greater-order x y = greater-signed x.negative y.negative x.size y.size

-- a comparison by the order
pub compared-order : (c : Comparison) (x y : Exact) → compared c x y ≡ holds_for c (exact_order x y)
unfolding compared holds_for
compared-order equal x y = rw (less-order x y, greater-order x y) (by_order (λ (o : Ordering). not (is_lt o) && not (is_gt o) ≡ is_eq o) refl refl refl (exact_order x y))
compared-order less x y = less-order x y
compared-order greater x y = greater-order x y
compared-order at_most x y = rw (greater-order x y) (by_order (λ (o : Ordering). not (is_gt o) ≡ is_le o) refl refl refl (exact_order x y))
compared-order at_least x y = rw (less-order x y) (by_order (λ (o : Ordering). not (is_lt o) ≡ is_ge o) refl refl refl (exact_order x y))
compared-order unequal x y = rw (less-order x y, greater-order x y) (by_order (λ (o : Ordering). is_lt o || is_gt o ≡ is_ne o) refl refl refl (exact_order x y))

-- the magnitude of what is sought, by its kind
pub instant-size : (v : Sought) (y : Magnitude) (o : Ordering) → v.instant ≡ true
    → o ≡ order_of (fraction v.above 86400000) y → o ≡ order_of (exact_of v).size y
unfolding exact_of parts_of_one
instant-size v y o h e = rw h e

pub number_size : (v : Sought) (y : Magnitude) (o : Ordering) → v.instant ≡ false
    → o ≡ order_of (fraction v.above (10 ^ v.scale)) y → o ≡ order_of (exact_of v).size y
unfolding exact_of parts_of_one
number_size v y o h e = rw h e

-- a number of few decimals against millionths: its rest becomes millionths
pub few-decimals : (a k w m p e : ℕ) (o : Ordering) → k ≤ 6 → m ≤ 999999 → p ≡ 10 ^ k → e ≡ 10 ^ (6 - k)
    → o ≡ parts_order (a / p) (a % p * e) w m → o ≡ order_of (fraction a (10 ^ k)) (millionths_size w m)
few-decimals a k w m p e o h part is_power is_up same =
    same
    ∙ rw (is_power, is_up) (sym (order-by-parts a (10 ^ k) w m (10 ^ 6) (10 ^ (6 - k)) 1 (ten-pos k) (omega arith) (ten-pos (6 - k))
    (sym (ten-split k 6 h) ∙ sym (one-mul (10 ^ 6))) ∙ rw (mul-one m)))

-- a number of many decimals: the millionths become parts of its denominator
pub many-decimals : (a k w m p e : ℕ) (o : Ordering) → 6 < k → m ≤ 999999 → p ≡ 10 ^ k → e ≡ 10 ^ (k - 6)
    → o ≡ parts_order (a / p) (a % p) w (m * e) → o ≡ order_of (fraction a (10 ^ k)) (millionths_size w m)
many-decimals a k w m p e o h part is_power is_up same =
    same
    ∙ rw (is_power, is_up) (sym (order-by-parts a (10 ^ k) w m (10 ^ 6) 1 (10 ^ (k - 6)) (ten-pos k) (omega arith) (omega arith)
    (one-mul (10 ^ k) ∙ ten-split 6 k (omega arith)) ∙ rw (mul-one (a % 10 ^ k))))

pub instant-parts : (a w m : ℕ) (o : Ordering) → m ≤ 999999
    → o ≡ parts_order (a / 86400000) (a % 86400000 * 1000000) w (m * 86400000) → o ≡ order_of (fraction a 86400000) (millionths_size w m)
instant-parts a w m o part same =
    same ∙ sym (order-by-parts a 86400000 w m (10 ^ 6) 1000000 86400000 (omega arith) (omega arith) (omega arith) refl)

-- no product passes 64 bits
pub rest-small : (a k p e : ℕ) → k ≤ 6 → p ≡ 10 ^ k → e ≡ 10 ^ (6 - k) → a % p * e ≤ 10 ^ 12
rest-small a k p e h is_power is_up =
    let r : a % 10 ^ k < 10 ^ k = mod-lt a (ten-pos k) in
    let s : 10 ^ k ≤ 10 ^ 6 = ten-le k 6 h in
    let t : 10 ^ (6 - k) ≤ 10 ^ 6 = ten-le (6 - k) 6 (omega arith) in
    rw (is_power, is_up) (mul-le-mul {n₂ = 10 ^ 6} {m₂ = 10 ^ 6} (omega arith) t)

pub millionths-small : (m k e : ℕ) → m ≤ 999999 → k ≤ 15 → e ≡ 10 ^ (k - 6) → m * e ≤ 10 ^ 15
millionths-small m k e h most is_up =
    let p : 10 ^ (k - 6) ≤ 10 ^ 9 = ten-le (k - 6) 9 (omega arith) in
    rw is_up (mul-le-mul {n₂ = 10 ^ 6} {m₂ = 10 ^ 9} (omega arith) p)

pub power-positive : (p k : ℕ) → p ≡ 10 ^ k → 0 < p
power-positive p k is_power = rw is_power (ten-pos k)
