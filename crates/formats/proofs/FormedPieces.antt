-- The pieces of a date body: what a part of a second takes of the tokens.
-- Assumes nothing.
use Prim.Native.Nat.{◌≤◌}
use native.Mathlib.Omega.{arith}
use mathlib.Core.Path.{◌≡◌, refl}
use mathlib.Core.Bool.{Bool, true, false, ◌&&◌, true≢false}
use mathlib.Core.List.{List}
use lib.Dec.{eqb}
use Rattle.lists.proofs.Bools.{no, by_cases, cond_both}
use Rattle.formats.specs.Tokens.{Token, place, point, Place}
use Rattle.formats.specs.Kinds.{is_point, is_zero, leading_zeros, part_zeros}
use Rattle.formats.proofs.Each.{by_token}

-- what holds of the point holds of a token that is one
pub point-case : (P : Token → Type 0) → P point → (t : Token) → is_point t ≡ true → P t
point-case P p =
    by_token (λ (t : Token). is_point t ≡ true → P t) (λ us. no) (λ u. no) (λ u. no) (λ u. no) (λ q. no) (λ e. p) no no no no no
    (λ h. no) (λ l n. no) (λ x n. no) (λ n. no) (λ w. no) (λ m. no) (λ p. no) (λ p n. no)

-- what holds of every place holds of a token that is a zero
pub zero-case : (P : Token → Type 0) → ((q : Place) → P (place q)) → (t : Token) → is_zero t ≡ true → P t
unfolding is_zero
zero-case P p =
    by_token (λ (t : Token). is_zero t ≡ true → P t) (λ us. no) (λ u. no) (λ u. no) (λ u. no) (λ q e. p q) no no no no no no
    (λ h. no) (λ l n. no) (λ x n. no) (λ n. no) (λ w. no) (λ m. no) (λ p. no) (λ p n. no)

-- a part of a second takes at most three zeros, and no more than follow its point
pub zeros-most : (b : Bool) (t : Token) (ts : List Token) → part_zeros b t ts ≤ 3
unfolding part_zeros
zeros-most b t ts = cond_both (λ n. n ≤ 3) (b && is_point t) (omega arith) (omega arith)

pub zeros-follow : (b : Bool) (t : Token) (ts : List Token) → part_zeros b t ts ≤ leading_zeros ts
unfolding part_zeros
zeros-follow b t ts = cond_both (λ n. n ≤ leading_zeros ts) (b && is_point t) (omega arith) (omega arith)

-- and it starts with a point directly behind seconds
pub zeros-point : (b : Bool) (t : Token) (ts : List Token) → eqb (part_zeros b t ts) 0 ≡ false → (b ≡ true) × (is_point t ≡ true)
unfolding part_zeros
zeros-point true t ts e = (refl, by_cases (is_point t) (λ h. h) (λ h. absurd (true≢false (rw h at e))))
zeros-point false t ts e = absurd (true≢false e)
