-- The section that parts in range stand for is well formed where it fits its kind and keeps the limits.
-- Assumes nothing.
use mathlib.Core.Path.{◌≡◌}
use lib.Dec.{T, leb}
use Rattle.lists.specs.Lists.{every, count}
use Rattle.lists.proofs.Bools.{and_left, and_right, and_in, nought-unless}
use Rattle.formats.specs.Items.{item_in_range, number_kind, same_kind, kind_of, items_fit}
use Rattle.formats.specs.Kinds.{Parts, body_kind, comma_uses, is_dividing, body_items, last_fill, section_of, fits}
use Rattle.formats.specs.Limits.{elapsed_short, fixed_small, section_within, written_within, within_limits}
use Rattle.formats.specs.WellFormed.{condition_in_range, parts_follow, one_fill, is_settled, dividing_fits, section_formed, section_fits}
use Rattle.formats.proofs.TokenRanges.{token_in_range, condition_digits, parts_pass, parts_in_range}
use Rattle.formats.proofs.FormedItems.{settling-settles, fills_one}
use Rattle.formats.proofs.FormedKinds.{kind-of-body}
use Rattle.formats.proofs.FormedParts.{parts-follow}
use Rattle.formats.proofs.FormedGrouping.{grouping-fits}
use Rattle.formats.proofs.FormedLengths.{items-in-range}
use Rattle.formats.proofs.FormedCondition.{condition-in-range}

-- the kind of a section is the kind of its body
pub kind-of-section : (p : Parts) → kind_of (section_of p) ≡ body_kind p.body
unfolding kind_of section_of
kind-of-section p = kind-of-body p.body

dividing-fits : (p : Parts) → T (dividing_fits (section_of p))
unfolding dividing_fits section_of
dividing-fits p =
    rw (kind-of-section p) (nought-unless (same_kind (body_kind p.body) number_kind) (count is_dividing (comma_uses p.body)))

-- the items of a section keep the limits on elapsed runs and fixed numbers
within-short : (p : Parts) → T (section_within (section_of p)) → T (every elapsed_short (section_of p).items)
unfolding section_within
within-short p t = search (and_left, and_right)

within-small : (p : Parts) → T (section_within (section_of p)) → T (every fixed_small (section_of p).items)
unfolding section_within
within-small p t = search (and_left, and_right)

-- the rules for the items that hold of every section made of tokens
items-follow : (p : Parts) → T (parts_follow (section_of p).items)
unfolding section_of
items-follow p = parts-follow p.body

items-fill : (p : Parts) → T (one_fill (section_of p).items)
unfolding section_of
items-fill p = fills_one (body_items p.body)

items-settle : (p : Parts) → T (is_settled (section_of p).items)
unfolding section_of
items-settle p = settling-settles (last_fill (body_items p.body))

items-ranged : (p : Parts) → T (every token_in_range p.body) → T (section_within (section_of p)) → T (every item_in_range (section_of p).items)
unfolding section_of
items-ranged p t w = items-in-range p t (within-short p w) (within-small p w)

condition-ranged : (p : Parts) → T (condition_digits p.condition) → T (written_within p.condition) → T (condition_in_range (section_of p).condition)
unfolding section_of
condition-ranged p t w = condition-in-range p.condition t w

colour-ranged : (p : Parts) → T (leb p.colour 56) → T (leb (section_of p).colour 56)
unfolding section_of
colour-ranged p t = t

pub section-formed : (p : Parts) → T (parts_in_range p) → T (fits p) → T (within_limits p) → T (section_formed (section_of p))
unfolding parts_pass fits within_limits section_formed section_fits
section-formed p r f w =
    let a : T (leb p.colour 56) = search (and_left, and_right) in
    let b : T (condition_digits p.condition) = search (and_left, and_right) in
    let c : T (every token_in_range p.body) = search (and_left, and_right) in
    let d : T (items_fit (section_of p).items) = search (and_left, and_right) in
    let e : T (written_within p.condition) = search and_left in
    let g : T (section_within (section_of p)) = search and_right in
    search (and_in, colour-ranged, condition-ranged, items-ranged, items-follow, items-fill, items-settle, grouping-fits, dividing-fits) depth 12
