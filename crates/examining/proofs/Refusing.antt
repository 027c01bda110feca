-- What the tests on drafts say of the sections: the verdicts 4, 5 and 6.
-- Assumes nothing.
use Prim.Native.Nat.{ℕ, suc, ◌≤◌}
use native.Mathlib.Omega.{arith}
use mathlib.Core.Path.{◌≡◌, refl, sym, ◌∙◌}
use mathlib.Core.Bool.{Bool}
use mathlib.Core.List.{List, [], ◌∷◌, map}
use lib.ListN.{length, take, length-map}
use lib.Seq.{length-take-le}
use Rattle.lists.specs.Lists.{first_failing}
use Rattle.formats.specs.Kinds.{Parts, fits, condition_of, section_of}
use Rattle.formats.specs.Where.{has_condition, stands_at}
use Rattle.formats.specs.Limits.{within_limits}
use Rattle.formats.specs.Accept.{or_else, kind_verdict, where_verdict, limit_verdict}
use Rattle.tables.proofs.MadeHeads.{operator-some}
use Rattle.tables.proofs.Standing.{head-stands}
use Rattle.drafting.specs.declared.Draft.{Draft}
use Rattle.drafting.specs.Draft.{DraftOf, Drafted, has_condition_by}
use Rattle.examining.specs.Examine.{fits_by, stands_by, within_by, drafts_verdict}

-- ---- one section
module _ (p : Parts) (d : Draft) (h : DraftOf p d) where
  pub condition-same : has_condition_by d ≡ has_condition (section_of p)
  unfolding section_of
  condition-same = rw h.operator (operator-some (condition_of p.condition))

  colour-same : d.colour ≡ (section_of p).colour
  unfolding section_of
  colour-same = h.colour

  stands_same : (n i : ℕ) → stands_by n i d ≡ stands_at n i (section_of p)
  stands_same n i = rw (h.body.kind, colour-same, condition-same) (sym (head-stands n i (section_of p)))

-- ---- the first section that fails
pub drafted-enough : (ps : List Parts) (ds : List Draft) → Drafted ps ds → length ps ≤ length ds
drafted-enough [] ds h = omega arith
drafted-enough (p ∷ ps) [] h = absurd h
drafted-enough (p ∷ ps) (d ∷ ds) h = omega (arith, drafted-enough ps ds h.1)

module _ (g : ℕ → Parts → Bool) (f : ℕ → Draft → Bool) (same : (i : ℕ) (p : Parts) (d : Draft) → DraftOf p d → f i d ≡ g i p) where
  failing-same : (k : ℕ) (ps : List Parts) (ds : List Draft) → Drafted ps ds → first_failing g k ps ≡ first_failing f k (take (length ps) ds)
  unfolding first_failing
  failing-same k [] ds h = refl
  failing-same k (p ∷ ps) [] h = absurd h
  failing-same k (p ∷ ps) (d ∷ ds) h = rw (same k p d h.0, failing-same (suc k) ps ds h.1)

stands-map : (n k : ℕ) (ps : List Parts) → first_failing (stands_at n) k (map section_of ps) ≡ first_failing (λ (i : ℕ) (p : Parts). stands_at n i (section_of p)) k ps
unfolding first_failing
stands-map n k [] = refl
stands-map n k (p ∷ ps) = rw (stands-map n (suc k) ps)

-- ---- the verdicts
module _ (ps : List Parts) (ds : List Draft) (h : Drafted ps ds) where
  abbrev few : List Draft
  few = take (length ps) ds

  kinds-told : first_failing (λ (i : ℕ) (p : Parts). fits p) 0 ps ≡ first_failing fits_by 0 few
  kinds-told = failing-same (λ (i : ℕ) (p : Parts). fits p) fits_by (λ i p d x. x.body.fits) 0 ps ds h

  stand-told : first_failing (stands_at (length ps)) 0 (map section_of ps) ≡ first_failing (stands_by (length ps)) 0 few
  stand-told =
      stands-map (length ps) 0 ps
      ∙ failing-same (λ (i : ℕ) (p : Parts). stands_at (length ps) i (section_of p)) (stands_by (length ps)) (λ i p d x. stands_same p d x (length ps) i) 0 ps ds h

  limits-told : first_failing (λ (i : ℕ) (p : Parts). within_limits p) 0 ps ≡ first_failing within_by 0 few
  limits-told = failing-same (λ (i : ℕ) (p : Parts). within_limits p) within_by (λ i p d x. x.within) 0 ps ds h

  pub drafts-told : drafts_verdict few ≡ or_else (kind_verdict ps) (or_else (where_verdict (map section_of ps)) (limit_verdict ps))
  unfolding drafts_verdict kind_verdict where_verdict limit_verdict
  drafts-told =
      rw (length-take-le (length ps) ds (drafted-enough ps ds h), length-map ps section_of, kinds-told, stand-told, limits-told)
