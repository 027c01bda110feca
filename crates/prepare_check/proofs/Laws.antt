-- Laws of the lines that are written, and of the words that preparing reports.
-- Assumes nothing.
use Prim.Native.Nat.{ℕ, ◌+◌, ◌≤◌, ◌<◌}
use native.Mathlib.Omega.{arith}
use mathlib.Core.Path.{◌≡◌, ap}
use mathlib.Core.Bool.{Bool, true, false}
use mathlib.Core.List.{List, [], ◌∷◌, ◌++◌}
use lib.ListN.{length, get_or, drop}
use lib.Dec.{leb}
use borrow.Author.Tests.{leb-true}
use Rattle.std.proofs.Common.{Result, Ok}
use Rattle.answers.specs.declared.Refused.{Refused}
use Rattle.lists.proofs.Bools.{cond-case}
use Rattle.formats.specs.Accept.{Accepted, sections, refusal, accept}
use Rattle.tables.specs.Encode.{encode}
use Rattle.tables.specs.Calls.{prepared_as, prepared}
use Rattle.writing.specs.Put.{Put}
use Rattle.writing.proofs.Laws.{drop-first, put-none}
use Rattle.prepare_check.specs.Lines.{mark, spaced, spaced_all}

-- ---- the first of what is left
pub all_first : (ws : List ℕ) (i : ℕ) → i < length ws → spaced_all (drop i ws) ≡ spaced (get_or ws i 0) ++ spaced_all (drop (i + 1) ws)
unfolding spaced_all
all_first ws i h = ap spaced_all (drop-first ws i h)

-- ---- the words that preparing reports lie in the room
words-as : (a : Accepted) (size n : ℕ) → Ok n ≡ prepared_as a size → n ≤ size
unfolding prepared_as
words-as (refusal a k) size n = λ e. absurd (cc)
words-as (sections ss) size n =
    cond-case (λ (p : Result ℕ Refused). Ok n ≡ p → n ≤ size) (leb (length (encode ss)) size)
    (λ l e. let s : n ≡ length (encode ss) = cc in omega (arith, leb-true (length (encode ss)) size l)) (λ l e. absurd (cc))

pub words-within : (code : List ℕ) (size n : ℕ) → Ok n ≡ prepared code size → n ≤ size
unfolding prepared
words-within code = words-as (accept code)

-- ---- the mark
pub mark-none : (l : List ℕ) (at : ℕ) (sound : Bool) → sound ≡ true → Put l at (mark sound) at l
unfolding mark
mark-none l at sound e = rw e (put-none l at)

pub mark-put : {l o : List ℕ} {at r : ℕ} (sound : Bool) → sound ≡ false → Put l at (33 ∷ []) r o → Put l at (mark sound) r o
unfolding mark
mark-put sound e p = rw e p
