-- The zeros behind a token, and the literals of units.
-- Assumes nothing.
use Prim.Native.Nat.{ℕ, zero, suc, ◌+◌, ◌*◌, ◌<◌, min}
use native.Mathlib.Omega.{arith}
use native.Mathlib.Numerals.{add-one}
use mathlib.Core.Path.{◌≡◌, refl}
use mathlib.Core.List.{List, [], ◌∷◌, ◌++◌}
use lib.ListN.{length, take, drop, get_or}
use lib.Seq.{drop-cons}
use lib.Dec.{eqb}
use Rattle.std.specs.List.{prefix_len}
use Rattle.lists.proofs.Bools.{by_cases}
use Rattle.formats.specs.Kinds.{leading_zeros}
use Rattle.marks.specs.declared.Mark.{Mark}
use Rattle.marks.specs.Marks.{token_at, marked, tokens_in}
use Rattle.emitting.specs.Emit.{literal_words}
use Rattle.marks.proofs.ByForm.{zero-form}

-- up to k zeros are told by the forms of k tokens; the code tells nothing of them
pub zeros-told : (code : List ℕ) (k : ℕ) (ms : List Mark) → prefix_len (λ (m : Mark). eqb m.form 4) (take k ms) ≡ min k (leading_zeros (tokens_in code ms))
unfolding tokens_in leading_zeros marked token_at
zeros-told code zero ms = omega arith
zeros-told code (suc k) [] = omega arith
zeros-told code (suc k) (m ∷ ms) =
    rw (zero-form m.form m.argument (drop (suc m.start) code))
    (by_cases (eqb m.form 4) (λ e. rw e (omega (arith, zeros-told code k ms))) (λ e. rw e (omega arith)))

-- the literals of the next units
pub literals-first : (us : List ℕ) (i : ℕ) → i < length us → literal_words (drop i us) ≡ (1 ∷ get_or us i 0 ∷ []) ++ literal_words (drop (i + 1) us)
unfolding literal_words
literals-first us i h = rw (add-one i, drop-cons us i 0 h)

pub literals-length : (us : List ℕ) → length (literal_words us) ≡ 2 * length us
unfolding literal_words
literals-length [] = refl
literals-length (u ∷ us) = omega (arith, literals-length us)
