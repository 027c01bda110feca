-- Rows that fit the table rules are the rows of the sections that they stand for, and those are well formed.
-- Assumes nothing.
use Prim.Native.Nat.{ℕ, suc}
use mathlib.Core.Path.{◌≡◌, refl, sym, ◌∙◌}
use mathlib.Core.Bool.{Bool}
use mathlib.Core.List.{List, [], ◌∷◌, map}
use lib.ListN.{length}
use lib.Dec.{T, eqb→eq, le→leb}
use Rattle.lists.specs.Lists.{every, count}
use Rattle.lists.proofs.Bools.{and_left, and_right, and_in, nought-unless, every-head, every-tail, every-cons}
use Rattle.formats.specs.Items.{number_kind, same_kind, kind_of, items_kind, is_percent, items_fit, item_in_range}
use Rattle.formats.specs.Limits.{section_within}
use Rattle.formats.specs.WellFormed.{condition_in_range, one_fill, parts_follow, is_settled, grouping_fits, dividing_fits, section_formed, section_fits}
use Rattle.tables.specs.Words.{Head, Row}
use Rattle.tables.specs.Encode.{shift_word, head_of, entries_of, row_of, rows_from}
use Rattle.tables.specs.Decode.{whole_at, millionths_at, items_at, thousands_at, section_at}
use Rattle.tables.specs.Rules.{head_in_range, entry_in_range, row_in_range, condition_fits, powers_run_down, shift_fits, kind_fits, decimals_fit, flags_fit, flags_from, row_fits}
use Rattle.tables.proofs.Words.{Counted}
use Rattle.tables.proofs.Ranges.{HeadRanges, head-ranges}
use Rattle.tables.proofs.BackEntries.{made-entries, items-ranged, items-length}
use Rattle.tables.proofs.BackHead.{condition-facts, ConditionBack, condition-back, condition-ranged, low-back, high-back, shift_back}

-- the rules for one row as facts
pub record RowFacts (r : Row) : Type 0 where
  pub section : T (section_fits (section_at r))
  pub head : T (head_in_range r.head)
  pub entries : T (every entry_in_range r.entries)
  pub condition : T (condition_fits r.head)
  pub items : T (items_fit (section_at r).items)
  pub parts : T (parts_follow (section_at r).items)
  pub fill : T (one_fill (section_at r).items)
  pub within : T (section_within (section_at r))
  pub powers : T (powers_run_down r.entries)
  pub grouping : T (grouping_fits (section_at r))
  pub settled : T (is_settled (section_at r).items)
  pub kind : T (kind_fits r)
  pub shift : T (shift_fits r)
  pub decimals : T (decimals_fit r)

pub row-facts : (r : Row) → T (row_fits r) → RowFacts r
unfolding row_fits section_fits row_in_range
row-facts r t = search (and_left, and_right) depth 16

-- heads with the same words are the same
head-same : (h k : Head) → h.kind ≡ k.kind → h.colour ≡ k.colour → h.operator ≡ k.operator → h.negative ≡ k.negative
    → h.whole_low ≡ k.whole_low → h.whole_high ≡ k.whole_high → h.millionths_low ≡ k.millionths_low → h.millionths_high ≡ k.millionths_high
    → h.shift ≡ k.shift → h.flags ≡ k.flags → h.decimals ≡ k.decimals → h.items ≡ k.items → h ≡ k
head-same h k kind colour operator negative whole_low whole_high millionths_low millionths_high shift flags decimals items =
    λ j. record {
      kind = kind j;
      colour = colour j;
      operator = operator j;
      negative = negative j;
      whole_low = whole_low j;
      whole_high = whole_high j;
      millionths_low = millionths_low j;
      millionths_high = millionths_high j;
      shift = shift j;
      flags = flags j;
      decimals = decimals j;
      items = items j;
    }

shift_same : (r : Row) → T (shift_fits r) → shift_word (section_at r) ≡ r.head.shift
unfolding shift_fits shift_word section_at kind_of
shift_same r t =
    shift_back (same_kind (items_kind (items_at r.entries)) number_kind) r.head.shift (count is_percent (items_at r.entries)) t

pub head-back : (n i : ℕ) (first_has : Bool) (r : Row) → RowFacts r → T (flags_fit n i first_has r) → r.head.items ≡ length r.entries
    → head_of n i first_has (section_at r) ≡ r.head
unfolding head_of section_at kind_fits decimals_fit flags_fit whole_at millionths_at
head-back n i first_has r f g counted =
    head-same (head_of n i first_has (section_at r)) r.head
    (sym (eqb→eq r.head.kind _ f.kind))
    refl
    c.operator
    c.negative
    (rw c.whole (low-back r.head.whole_low r.head.whole_high h.whole_low))
    (rw c.whole (high-back r.head.whole_low r.head.whole_high h.whole_low))
    (rw c.millionths (low-back r.head.millionths_low r.head.millionths_high h.millionths_low))
    (rw c.millionths (high-back r.head.millionths_low r.head.millionths_high h.millionths_low))
    (shift_same r f.shift)
    (sym (eqb→eq r.head.flags _ g))
    (sym (eqb→eq r.head.decimals _ f.decimals))
    (items-length r.entries ∙ sym counted)
  where
    h : HeadRanges r.head
    h = head-ranges r.head f.head

    c : ConditionBack r.head (section_at r).condition
    c = condition-back r.head h (condition-facts r.head f.condition)

pub row_back : (n i : ℕ) (first_has : Bool) (r : Row) → T (row_fits r) → T (flags_fit n i first_has r) → r.head.items ≡ length r.entries
    → row_of n i first_has (section_at r) ≡ r
unfolding row_of section_at
row_back n i first_has r t g counted =
    let f : RowFacts r = row-facts r t in
    let heads : head_of n i first_has (section_at r) ≡ r.head = head-back n i first_has r f g counted in
    let bodies : entries_of (section_at r).items ≡ r.entries = made-entries r.entries f.entries f.powers in
    λ j. record { head = heads j; entries = bodies j }

dividing : (r : Row) → T (dividing_fits (section_at r))
unfolding dividing_fits section_at kind_of
dividing r =
    nought-unless (same_kind (items_kind (items_at r.entries)) number_kind)
    (thousands_at r.head.shift (count is_percent (items_at r.entries)))

pub section-formed : (r : Row) → T (row_fits r) → T (section_formed (section_at r))
unfolding section_formed section_at
section-formed r t =
    let f : RowFacts r = row-facts r t in
    let h : HeadRanges r.head = head-ranges r.head f.head in
    let condition : T (condition_in_range (section_at r).condition) =
    condition-ranged r.head h (condition-facts r.head f.condition) in
    let ranged : T (every item_in_range (section_at r).items) = items-ranged r.entries f.entries in
    let divides : T (dividing_fits (section_at r)) = dividing r in
    let colour = le→leb r.head.colour 56 h.colour in
    let fits : T (section_fits (section_at r)) = f.section in
    search and_in depth 12

pub rows_back : (n i : ℕ) (first_has : Bool) (rs : List Row) → Counted rs → T (every row_fits rs) → T (flags_from n i first_has rs)
    → rows_from n i first_has (map section_at rs) ≡ rs
unfolding rows_from flags_from
rows_back n i first_has [] counted t g = refl
rows_back n i first_has (r ∷ rs) counted t g =
    let here : T (flags_fit n i first_has r) = and_left (flags_fit n i first_has r) (flags_from n (suc i) first_has rs) g in
    let later : T (flags_from n (suc i) first_has rs) = and_right (flags_fit n i first_has r) (flags_from n (suc i) first_has rs) g in
    rw (
      row_back n i first_has r (every-head row_fits r rs t) here counted.0,
      rows_back n (suc i) first_has rs counted.1 (every-tail row_fits r rs t) later,
    )

pub sections-formed : (rs : List Row) → T (every row_fits rs) → T (every section_formed (map section_at rs))
unfolding every
sections-formed [] t = tt
sections-formed (r ∷ rs) t =
    every-cons section_formed (section_at r) (map section_at rs) (section-formed r (every-head row_fits r rs t))
    (sections-formed rs (every-tail row_fits r rs t))
