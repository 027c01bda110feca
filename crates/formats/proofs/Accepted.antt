-- The sections that a code is accepted as are well formed.
-- Assumes nothing.
use Prim.Native.Nat.{ℕ, suc, ◌≤◌}
use native.Mathlib.Omega.{arith}
use mathlib.Core.Path.{◌≡◌, refl}
use mathlib.Core.List.{List, [], ◌∷◌, map}
use lib.ListN.{length}
use lib.Dec.{T, le→leb}
use Rattle.answers.specs.declared.Refusal.TheVariants as answer
use Rattle.lists.specs.Lists.{every, first_failing, is_some}
use Rattle.lists.proofs.Bools.{and_in, every-head, every-tail, every-cons}
use Rattle.lists.proofs.First.{none-every}
use Rattle.formats.specs.Items.{Section, is_unit}
use Rattle.formats.specs.Kinds.{Parts, section_of, fits}
use Rattle.formats.specs.Where.{stands_at}
use Rattle.formats.specs.Limits.{within_limits}
use Rattle.formats.specs.WellFormed.{section_formed, items_in_all, all_stand, well_formed}
use Rattle.formats.specs.Accept.{parts_in, sections_in, semicolons, placed_of, Verdict, fine, refused, kind_verdict, where_verdict, limit_verdict, verdict, sections, accepted_by, accept}
use Rattle.formats.specs.Tokens.{lex}
use Rattle.formats.proofs.TokenRanges.{parts_in_range, parts-pass}
use Rattle.formats.proofs.ItemCount.{items-most, section-count}
use Rattle.formats.proofs.Formed.{section-formed}
use Rattle.formats.proofs.First.{AllFine, verdict-fine, length-bounds, fine-none, count-few}

-- every section of parts that are in range, fit and keep the limits is formed
all-formed : (ps : List Parts) → T (every parts_in_range ps) → T (every fits ps) → T (every within_limits ps)
    → T (every section_formed (map section_of ps))
unfolding every
all-formed [] r f w = tt
all-formed (p ∷ ps) r f w =
    every-cons section_formed (section_of p) (map section_of ps)
    (section-formed p (every-head parts_in_range p ps r) (every-head fits p ps f) (every-head within_limits p ps w))
    (all-formed ps (every-tail parts_in_range p ps r) (every-tail fits p ps f) (every-tail within_limits p ps w))

stand-all : (ss : List Section) → where_verdict ss ≡ fine → T (all_stand ss)
unfolding where_verdict all_stand is_some
stand-all ss e = rw (fine-none answer.Standing (first_failing (stands_at (length ss)) 0 ss) e) tt

-- of a code that no test refuses
fine-formed : (code : List ℕ) → T (every is_unit code) → verdict code ≡ fine → T (well_formed (sections_in code))
unfolding kind_verdict limit_verdict well_formed sections_in
fine-formed code u e =
    let a : AllFine code = verdict-fine code e in
    let ss : List Section = sections_in code in
    let n : length ss ≡ suc (length (semicolons (placed_of (lex code)))) = section-count code in
    let few : length (semicolons (placed_of (lex code))) ≤ 3 = count-few (semicolons (placed_of (lex code))) a.count-fine in
    let most : items_in_all ss ≤ 254 = omega (arith, items-most code, length-bounds code a.length-fine) in
    let least : 1 ≤ length ss = omega arith in
    let greatest : length ss ≤ 4 = omega arith in
    let formed : T (every section_formed ss) =
    all-formed (parts_in code) (parts-pass is_unit code u)
    (none-every fits 0 (parts_in code) (fine-none answer.Kind _ a.kinds-fine))
    (none-every within_limits 0 (parts_in code) (fine-none answer.Limit _ a.limits-fine)) in
    let stand : T (all_stand ss) = stand-all ss a.standing-fine in
    search (and_in, le→leb) depth 8

-- what acceptance says
pub accepted-sections : (code : List ℕ) (ss : List Section) → accept code ≡ sections ss → (verdict code ≡ fine) × (sections_in code ≡ ss)
unfolding accept accepted_by
accepted-sections code ss e = by-verdict (verdict code) refl e
  where
    by-verdict : (v : Verdict) → verdict code ≡ v → accepted_by v (sections_in code) ≡ sections ss → (verdict code ≡ fine) × (sections_in code ≡ ss)
    by-verdict fine h e = (h, cc)
    by-verdict (refused a k) h e = let z : ◌≡◌ {A = ℕ} 0 1 = cc in absurd (omega arith)

pub accepted-formed : (code : List ℕ) (ss : List Section) → T (every is_unit code) → accept code ≡ sections ss → T (well_formed ss)
accepted-formed code ss u e =
    let a = accepted-sections code ss e in
    rw (← a.1) (fine-formed code u a.0)
