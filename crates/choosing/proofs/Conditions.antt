-- A section's condition, by the words of its head.
-- Assumes nothing.
use Prim.Native.Nat.{ℕ, ◌+◌, ◌*◌, ◌^◌}
use mathlib.Core.Path.{◌≡◌, sym, ap, ◌∙◌}
use mathlib.Core.Bool.{Bool, true, false, not}
use lib.Dec.{eqb}
use borrow.Author.Tests.{not-true}
use Rattle.formats.specs.Items.{Condition, Section}
use Rattle.formats.specs.Where.{has_condition}
use Rattle.formats.specs.Choice.{condition_exact, condition_holds}
use Rattle.tables.specs.Words.{Head}
use Rattle.tables.specs.Encode.{head_of}
use Rattle.tables.specs.Decode.{comparison_at, whole_at, millionths_at, condition_at}
use Rattle.tables.proofs.MadeHeads.{operator-some, says, condition-back}
use Rattle.std.specs.declared.cmp.Ordering.{Ordering}
use Rattle.choosing.specs.declared.sought.Sought.{Sought}
use Rattle.choosing.specs.Comparing.{order_of, millionths_size, signed_order, holds_for}
use Rattle.choosing.specs.Seeking.{exact_of}
use Rattle.choosing.proofs.Comparing.{exact_order, compared-order}

-- the condition that these words tell, where there is one
abbrev condition_in : Head → Condition
condition_in h =
    record {
      comparison = comparison_at h.operator;
      negative = eqb h.negative 1;
      millionths = whole_at h * 10 ^ 6 + millionths_at h;
    }

-- a section's own condition, by its words
pub condition-read : (n i : ℕ) (first_has : Bool) (s : Section) (h : Head) (v : Sought) {o p : Ordering} {r : Bool}
    → h ≡ head_of n i first_has s → has_condition s ≡ true
    → o ≡ order_of (exact_of v).size (millionths_size (whole_at h) (millionths_at h))
    → p ≡ signed_order v.negative (eqb h.negative 1) o
    → r ≡ holds_for (comparison_at h.operator) p
    → r ≡ condition_holds s.condition (exact_of v)
unfolding head_of condition_at condition_holds condition_exact exact_order exact_of
condition-read n i first_has s h v {o} {p} {r} eh has eo ep er =
    let some : eqb h.operator 0 ≡ false =
    not-true (eqb h.operator 0) (ap (λ (x : Head). not (eqb x.operator 0)) eh ∙ operator-some s.condition ∙ has) in
    let is : condition_at h ≡ s.condition = ap condition_at eh ∙ condition-back (head_of n i first_has s) s.condition (says n i first_has s) in
    er ∙ rw (← is, some, ep, eo) (sym (compared-order (comparison_at h.operator) (exact_of v) (condition_exact (condition_in h))))
