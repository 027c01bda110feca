use Rattle.std.proofs.Common.{rules, arith, ◌+◌, ◌≤◌, length, length-take, length-drop}
use Rattle.bodies.proofs.Inside.{parted, from-inside, number-digits, compared-inside}
use Rattle.bodies.proofs.conditions.written.Goals as goal

pub slice_bounds-amount_of-count : goal.slice_bounds-amount_of-count
slice_bounds-amount_of-count c =
    from-inside _ c.requires.1 _ _ _ (parted _ _ _ _ _ _ _ c.unit_at.ensures c.unit_at-2.ensures c.operator_by-operator.ensures c.operator_width-width.ensures c.unit_at-negative.ensures (search rules))

pub slice_bounds-amount_of-start : goal.slice_bounds-amount_of-start
slice_bounds-amount_of-start c =
    let h : c.operator_width-width.result + c.from.result ≤ length c.args.us.now = from-inside _ c.requires.1 _ _ _ (parted _ _ _ _ _ _ _ c.unit_at.ensures c.unit_at-2.ensures c.operator_by-operator.ensures c.operator_width-width.ensures c.unit_at-negative.ensures (search rules)) in
    search rules

pub amount_of-requires : goal.amount_of-requires
amount_of-requires c = (
  simp (length-take, length-drop) (omega arith),
  number-digits _ c.requires.1 _ _ _ (parted _ _ _ _ _ _ _ c.unit_at.ensures c.unit_at-2.ensures c.operator_by-operator.ensures c.operator_width-width.ensures c.unit_at-negative.ensures (search rules)),
)

pub returns : goal.returns
returns c =
    let p = parted _ _ _ _ _ _ _ c.unit_at.ensures c.unit_at-2.ensures c.operator_by-operator.ensures c.operator_width-width.ensures c.unit_at-negative.ensures (search rules) in
    compared-inside _ c.requires.1 _ _ _ p _ c.amount_of.ensures
