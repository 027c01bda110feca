-- The loop that puts spaces.
-- Assumes nothing.
use Prim.Native.Nat.{ℕ, suc, ◌+◌, ◌-◌, ◌≤◌, ◌<◌}
use native.Mathlib.Omega.{arith}
use mathlib.Core.Path.{◌≡◌}
use mathlib.Core.List.{List, [], ◌∷◌}
use lib.ListN.{replicate}
use Rattle.writing.specs.Put.{Put, Rest}
use Rattle.writing.proofs.Laws.{rest-start, rest_put, rest-done}

-- up to the end as many are left
pub record Spacing (old : List ℕ) (at count : ℕ) (room : List ℕ) (o : ℕ) : Type 0 where
  pub most : o ≤ at + count
  pub rest : Rest old at (replicate count 32) room o (replicate (at + count - o) 32)

pub spacing-start : (old : List ℕ) (at count : ℕ) → Spacing old at count old at
spacing-start old at count =
    let all : at + count - at ≡ count = omega arith in record { most = omega arith; rest = rw all (rest-start old at (replicate count 32)) }

module _ {old : List ℕ} {at count : ℕ} {room : List ℕ} {o : ℕ} (s : Spacing old at count room o) where
  pub spacing-step : {r : ℕ} {out : List ℕ} → o < at + count → Put room o (32 ∷ []) r out → Spacing old at count out (o + 1)
  spacing-step {r} h p =
      let next : at + count - o ≡ suc (at + count - r) = omega (arith, p.next) in
      let one : o + 1 ≡ r = omega (arith, p.next) in
      rw one (record { most = omega (arith, p.next); rest = rest_put {p = 32 ∷ []} (rw next at s.rest) p })

  pub spacing-end : at + count ≤ o → Put old at (replicate count 32) o room
  spacing-end h = let none : at + count - o ≡ 0 = omega arith in rest-done (rw none at s.rest)
