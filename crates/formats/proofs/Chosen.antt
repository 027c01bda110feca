-- The section that a number or an instant goes to is one of the sections: a test that all pass, it passes.
-- Assumes nothing.
use mathlib.Core.Path.{◌≡◌, subst}
use Prim.Native.Nat.{ℕ, suc}
use mathlib.Core.Bool.{Bool, not, ◌&&◌, ◌||◌}
use mathlib.Core.List.{List, [], ◌∷◌}
use lib.Dec.{T, eqb}
use Rattle.lists.specs.Lists.{every}
use Rattle.lists.proofs.Bools.{cond_both, every-head, every-tail}
use Rattle.formats.specs.Items.{Section}
use Rattle.formats.specs.Where.{is_text}
use Rattle.formats.specs.Choice.{Exact, counted, Reason, reason_for, reason_holds, Choice, nothing, chosen, choose_from, choose_first, choose}

abbrev Passes : (Section → Bool) → Choice → Type 0
Passes f nothing = Unit {0}
Passes f (chosen i s why) = T (f s)

from-passes : (f : Section → Bool) (n i : ℕ) (ss : List Section) (x : Exact) → T (every f ss) → Passes f (choose_from n i ss x)
unfolding choose_from
from-passes f n i [] x t = tt
from-passes f n i (s ∷ ss) x t =
    cond_both (Passes f) (not (is_text s || eqb i 3) && reason_holds (reason_for n i s) s x)
    (every-head f s ss t) (from-passes f n (suc i) ss x (every-tail f s ss t))

first_passes : (f : Section → Bool) (ss : List Section) → T (every f ss) → Passes f (choose_first ss)
unfolding choose_first
first_passes f [] t = tt
first_passes f (s ∷ ss) t = every-head f s ss t

pub chosen-passes : (f : Section → Bool) (ss : List Section) (x : Exact) (i : ℕ) (s : Section) (why : Reason)
    → T (every f ss) → choose ss x ≡ chosen i s why → T (f s)
unfolding choose
chosen-passes f ss x i s why t e =
    subst (Passes f) e (cond_both (Passes f) (eqb (counted ss) 0) (first_passes f ss t) (from-passes f (counted ss) 0 ss x t))
