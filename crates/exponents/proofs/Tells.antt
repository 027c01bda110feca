-- What the code returns is the exponent and the mantissa.
-- Assumes nothing.
use mathlib.Core.Path.{◌≡◌, refl, sym, ap, ◌∙◌}
use mathlib.Core.Bool.{Bool, true, false, not}
use mathlib.Core.List.{List}
use mathlib.Core.Logic.{⊎_elim}
use Prim.Native.Nat.{ℕ, ◌+◌, ◌^◌, ◌≤◌, ◌<◌}
use native.Mathlib.Nat.{div-eq_of_lt, div_self}
use native.Mathlib.Omega.{arith}
use borrow.Author.Tests.{leb-true, leb-false, le-leb, lt-leb}
use lib.Dec.{leb, ltb, eqb}
use Rattle.figures.specs.Digits.{digit, figures}
use Rattle.figures.specs.Rounding.{Magnitude, rounded, rounds_exactly}
use Rattle.figures.specs.Powers.{powered}
use Rattle.figures.proofs.Tens.{ten-pos}
use Rattle.figures.proofs.Filling.{lt-or-le}
use Rattle.exponents.specs.declared.Scientific.{Scientific}
use Rattle.exponents.specs.Exponent.{Exponent, decimal, divided_by, mantissa_at, exponent_of, mantissa_of, mantissa_exactly}
use Rattle.exponents.specs.Least.{LeastExponent}
use Rattle.exponents.specs.Leading.{exponent_by, Leading, Next}
use Rattle.exponents.proofs.Powered.{powered-most}
use Rattle.exponents.proofs.Least.{exponent-unique}
use Rattle.exponents.proofs.Search.{exponent-least}
use Rattle.exponents.proofs.Mantissa.{exponent-nought, mantissa-nought, nought-exactly}
use Rattle.exponents.proofs.Found.{mantissa-by, exactly-by, found-least, carried-one, carried-cut, carried-least}

-- the digit at 10^q tells whether a number of at most 10^q reaches it
pub reaches : (q n : ℕ) → n ≤ 10 ^ q → not (eqb (digit n q) 0) ≡ leb (10 ^ q) n
unfolding digit
reaches q n most =
    ⊎_elim
    (λ (h : n < 10 ^ q). rw (div-eq_of_lt h, lt-leb (10 ^ q) n h))
    (λ (h : 10 ^ q ≤ n).
    let e : n ≡ 10 ^ q = omega arith in
    rw (e, div_self (ten-pos q), le-leb (10 ^ q) (10 ^ q) (omega arith)))
    (lt-or-le n (10 ^ q))

-- the digits are those of a number, exact or not, and the exponent is so far below or above 0
abbrev pub Told : Scientific → List ℕ → Bool → ℕ → ℕ → Type 0
Told r digits exact u o = (r.digits ≡ digits) × (r.exact ≡ exact) × (r.exponent ≡ u + o) × (r.below ≡ ltb 0 u)

-- they are the mantissa's and the exponent
abbrev pub Tells : Magnitude → ℕ → ℕ → List ℕ → Bool → ℕ → Bool → Type 0
Tells x n d digits exact size below =
    (digits ≡ figures (mantissa_of x n d))
    × ((exact ≡ mantissa_exactly x n d) × ((size ≡ (exponent_of x n d).size) × (below ≡ (exponent_of x n d).below)))

tells-by : (x : Magnitude) (n d : ℕ) {digits : List ℕ} {exact : Bool} {size : ℕ} {below : Bool} (e : Exponent) (v : ℕ) → exponent_of x n d ≡ e
    → mantissa_of x n d ≡ v → digits ≡ figures v → exact ≡ mantissa_exactly x n d → size ≡ e.size → below ≡ e.below
    → Tells x n d digits exact size below
tells-by x n d e v f g h t i j =
    (h ∙ ap figures (sym g), (t, (i ∙ ap (λ (y : Exponent). y.size) (sym f), j ∙ ap (λ (y : Exponent). y.below) (sym f))))

pub nought-tells : (s n d : ℕ) {m : ℕ} {digits : List ℕ} → m ≡ 0 → digits ≡ figures 0 → Tells (decimal m s) n d digits true 0 false
nought-tells s n d {m} e f =
    let x : Magnitude = decimal m s in
    tells-by x n d (record { size = 0; below = false }) 0 (exponent-nought x n d e) (mantissa-nought x n d e (ten-pos s)) f
    (sym (nought-exactly x n d e (ten-pos s))) refl refl

told-tells : (x : Magnitude) (n d u o : ℕ) {r : Scientific} {digits : List ℕ} {exact : Bool} (v : ℕ) → exponent_of x n d ≡ exponent_by u o
    → mantissa_at x d (exponent_by u o) ≡ v → digits ≡ figures v → exact ≡ rounds_exactly (divided_by x (exponent_by u o)) d → Told r digits exact u o
    → Tells x n d r.digits r.exact r.exponent r.below
unfolding mantissa_of mantissa_exactly exponent_by
told-tells x n d u o v e f g t told =
    tells-by x n d (exponent_by u o) v e (ap (mantissa_at x d) e ∙ f) (told.0 ∙ g)
    (told.1 ∙ t ∙ ap (λ (y : Exponent). rounds_exactly (divided_by x y) d) (sym e)) told.2 told.3

module _ {m s n d u o : ℕ} (l : Leading m s n u o) (most : d ≤ 15) where
  pub leading-within : rounded (powered m u (s + o)) d ≤ 10 ^ (15 + n)
  leading-within = powered-most m u (s + o) n d most (omega (arith, l.most))

  module _ (pos : 0 < m) (small : m < 10 ^ 15) (scale : s ≤ 15) (one : 1 ≤ n) where
    pub least-is : {e : Exponent} → LeastExponent (decimal m s) n d e → exponent_of (decimal m s) n d ≡ e
    least-is = exponent-unique (exponent-least m s n d pos small scale one most)

    pub found-tells : {r : Scientific} {digits : List ℕ} {exact : Bool} → digits ≡ figures (rounded (powered m u (s + o)) d)
        → exact ≡ rounds_exactly (powered m u (s + o)) d → leb (10 ^ (15 + n)) (rounded (powered m u (s + o)) d) ≡ false → Told r digits exact u o
        → Tells (decimal m s) n d r.digits r.exact r.exponent r.below
    found-tells e t f told =
        told-tells (decimal m s) n d u o (rounded (powered m u (s + o)) d) (least-is (found-least d most l (leb-false _ _ f))) (mantissa-by m s n d l.multiple) e
        (t ∙ sym (exactly-by m s n d l.multiple)) told

    pub carried-tells : {u' o' : ℕ} {r : Scientific} {digits : List ℕ} {exact : Bool} → Next n u o u' o' → digits ≡ figures (10 ^ 15)
        → leb (10 ^ (15 + n)) (rounded (powered m u (s + o)) d) ≡ true → Told r digits exact u' o' → exact ≡ false
        → Tells (decimal m s) n d r.digits r.exact r.exponent r.below
    carried-tells {u'} {o'} next e f told t =
        let carry = leb-true (10 ^ (15 + n)) (rounded (powered m u (s + o)) d) f in
        told-tells (decimal m s) n d u' o' (10 ^ 15) (least-is (carried-least d most l next carry one))
        (mantissa-by m s n d next.multiple ∙ carried-one d most l next carry) e
        (t ∙ carried-cut d most l next carry ∙ sym (exactly-by m s n d next.multiple)) told
