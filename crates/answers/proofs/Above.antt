-- No refusal has the number 0.
-- Assumes nothing.
use mathlib.Core.Path.{◌≡◌, refl}
use mathlib.Core.Bool.{false}
use lib.Dec.{eqb}
use Rattle.answers.specs.declared.Refusal.{Refusal}
use Rattle.answers.specs.declared.Refusal.TheVariants as answer
use Rattle.answers.specs.Number.{number_of}

pub refusal-above : (a : Refusal) → eqb (number_of a) 0 ≡ false
refusal-above a =
    elim a as (λ (k : Refusal). eqb (number_of k) 0 ≡ false) [
      | answer.CodeLength ↦ refl
      | answer.Token ↦ refl
      | answer.SectionCount ↦ refl
      | answer.Kind ↦ refl
      | answer.Standing ↦ refl
      | answer.Limit ↦ refl
      | answer.TableRoom ↦ refl
      | answer.Table ↦ refl
      | answer.Range ↦ refl
      | answer.NoSection ↦ refl
      | answer.Sort ↦ refl
      | answer.General ↦ refl
      | answer.TextRoom ↦ refl
      | answer.Line ↦ refl
      | answer.Ended ↦ refl
      | answer.Row ↦ refl
    ]
