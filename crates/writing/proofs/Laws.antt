-- Laws of runs of stores, of a piece put at a place, and of what is left to put.
-- Assumes nothing.
use mathlib.Core.Path.{◌≡◌, refl, sym, ap, ◌∙◌}
use mathlib.Core.List.{List, [], ◌∷◌, ◌++◌}
use Prim.Native.Nat.{ℕ, suc, ◌+◌, ◌<◌, ◌≤◌, min}
use native.Mathlib.Nat.{add-zero, zero-add, add-suc, suc-add}
use native.Mathlib.Numerals.{add-one}
use native.Mathlib.Omega.{arith}
use lib.ListN.{length, get_or, drop, set, length-append}
use lib.Seq.{set_out, set_comm, sets, sets-eq, length-sets, drop-cons}
use Rattle.lists.specs.Lists.{overlay}
use Rattle.writing.specs.Put.{Put, Rest}

-- the stores of two pieces, one after the other
pub sets-append : (l : List ℕ) (at : ℕ) (p q : List ℕ) → sets l at (p ++ q) ≡ sets (sets l at p) (at + length p) q
sets-append l at [] q = rw add-zero
sets-append l at (x ∷ p) q = sets-append (set l at x) (suc at) p q ∙ rw (suc-add, add-suc)

-- stores past the end
pub sets-out : (l : List ℕ) (at : ℕ) (p : List ℕ) → length l ≤ at → sets l at p ≡ l
sets-out l at [] h = refl
sets-out l at (x ∷ p) h = rw (set_out l at x h) (sets-out l (suc at) p (omega (arith, add-one at)))

-- the last unit stored first
pub sets_last : (l : List ℕ) (at : ℕ) (p : List ℕ) (x : ℕ) → sets (set l (at + length p) x) at p ≡ sets l at (p ++ (x ∷ []))
sets_last l at [] x = rw add-zero
sets_last l at (y ∷ p) x =
    rw (set_comm l (at + suc (length p)) at x y (omega arith), add-suc, ← suc-add)
    (sets_last (set l at y) (suc at) p x)

-- a text stored from the front of a room that holds it
pub sets-overlay : (room text : List ℕ) → length text ≤ length room → sets room 0 text ≡ overlay text room
unfolding overlay
sets-overlay room text h = sets-eq text room 0 (omega arith) ∙ rw zero-add

-- no piece, two pieces one after the other, and a piece at or past the room's end
pub put-none : (l : List ℕ) (at : ℕ) → Put l at [] at l
put-none l at = record { next = sym (add-zero at); room = refl }

pub put-put : {l m o p q : List ℕ} {at a r : ℕ} → Put l at p a m → Put m a q r o → Put l at (p ++ q) r o
put-put {l} {m} {o} {p} {q} {at} {a} {r} x y = record {
  next = simp length-append (omega (arith, x.next, y.next));
  room = y.room ∙ rw (x.room, x.next) (sym (sets-append l at p q));
}

pub put-out : (l : List ℕ) (at : ℕ) (p : List ℕ) → length l ≤ at → Put l at p (at + length p) l
put-out l at p h = record { next = refl; room = sym (sets-out l at p h) }

-- a room keeps its length
pub put-size : {l o p : List ℕ} {at r : ℕ} → Put l at p r o → length o ≡ length l
put-size {l} {o} {p} {at} x = ap length x.room ∙ length-sets l at p

-- all is left to put, a piece is put, and nothing is left
pub rest-start : (l : List ℕ) (at : ℕ) (p : List ℕ) → Rest l at p l at p
rest-start l at p = record { ends = refl; same = refl; size = refl }

pub rest_put : {l m o p q t : List ℕ} {s at a : ℕ} → Rest l s t m at (p ++ q) → Put m at p a o → Rest l s t o a q
rest_put {l} {m} {o} {p} {q} {t} {s} {at} {a} x y = record {
  ends = rw y.next (omega (arith, length-append p q, x.ends));
  same = rw (y.room, y.next) (sym (sets-append m at p q) ∙ x.same);
  size = put-size y ∙ x.size;
}

pub rest-done : {l m t : List ℕ} {s at : ℕ} → Rest l s t m at [] → Put l s t at m
rest-done {l} {m} {t} {s} {at} x = record { next = omega (arith, x.ends, add-zero at); room = x.same }

-- the first unit of the rest of a run
pub drop-first : (s : List ℕ) (j : ℕ) → j < length s → drop j s ≡ (get_or s j 0 ∷ []) ++ drop (j + 1) s
drop-first s j h = rw (add-one, drop-cons s j 0)

-- a copy: the next unit of a run is stored, and the copy stops where the run or the room ends
pub rest-copy : {l m t : List ℕ} {s at : ℕ} (u : List ℕ) (j : ℕ)
    → Rest l s t m at (drop j u) → j < length u → Rest l s t (set m at (get_or u j 0)) (at + 1) (drop (j + 1) u)
rest-copy u j x h = rest_put {p = get_or u j 0 ∷ []} (rw (drop-first u j h) at x) (record { next = refl; room = refl })

pub rest-stop : {l m t q : List ℕ} {s at stop : ℕ}
    → Rest l s t m at q → stop ≤ at → stop ≡ min (s + length t) (length l) → Put l s t (s + length t) m
rest-stop {l} {m} {t} {q = []} {s} {at} {stop} x h f = record { next = refl; room = x.same }
rest-stop {l} {m} {t} {q = y ∷ q} {s} {at} {stop} x h f =
    let past : length m ≤ at = omega (arith, x.size, x.ends) in
    record { next = refl; room = sym (sets-out m at (y ∷ q) past) ∙ x.same }
