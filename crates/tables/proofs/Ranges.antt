-- The ranges of a head's words, as facts.
-- Assumes nothing.
use Prim.Native.Nat.{◌≤◌, ◌<◌}
use lib.Dec.{T, leb→le, le→leb}
use Rattle.lists.proofs.Bools.{and_left, and_right, and_in}
use Rattle.tables.specs.Words.{Head}
use Rattle.tables.specs.Decode.{whole_at, millionths_at}
use Rattle.tables.specs.Rules.{head_in_range}

pub record HeadRanges (h : Head) : Type 0 where
  pub kind : h.kind ≤ 6
  pub colour : h.colour ≤ 56
  pub operator : h.operator ≤ 6
  pub negative : h.negative ≤ 1
  pub whole_low : h.whole_low < 65536
  pub whole_high : h.whole_high < 65536
  pub whole : whole_at h ≤ 999999999
  pub millionths_low : h.millionths_low < 65536
  pub millionths_high : h.millionths_high < 65536
  pub millionths : millionths_at h ≤ 999999
  pub shift : h.shift ≤ 25
  pub flags : h.flags ≤ 7
  pub decimals : h.decimals ≤ 15
  pub items : h.items ≤ 254

pub head-ranges : (h : Head) → T (head_in_range h) → HeadRanges h
unfolding head_in_range
head-ranges h t = search (and_left, and_right, leb→le) depth 18

pub head-in-ranges : (h : Head) → HeadRanges h → T (head_in_range h)
unfolding head_in_range
head-in-ranges h r = search (and_in, le→leb) depth 20
