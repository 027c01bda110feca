-- By what a section was chosen, and what is said of those before it, as the code finds it.
-- Assumes nothing.
use mathlib.Core.Path.{◌≡◌, refl, sym, ap, ◌∙◌}
use Prim.Native.Nat.{ℕ, zero, suc, ◌<◌}
use native.Mathlib.Omega.{arith}
use mathlib.Core.Bool.{Bool, true, false}
use mathlib.Core.List.{List, [], ◌∷◌}
use lib.ListN.{length, get_or}
use Rattle.formats.specs.Items.{Section}
use Rattle.formats.specs.Where.{has_condition}
use Rattle.formats.specs.Choice.{Exact, counted, Reason, reason_for, chosen, choose}
use Rattle.tables.specs.Decode.{decode}
use Rattle.table_words.specs.declared.Table.{Table}
use Rattle.table_words.specs.declared.TableSection.{TableSection}
use Rattle.table_words.specs.Tabled.{sections_of, section_of}
use Rattle.table_words.specs.Sections.{no_section, section_in}
use Rattle.table_words.proofs.Heads.{sections-length}
use Rattle.choosing.proofs.Finding.{chosen-placed}
use Rattle.grounds.specs.declared.ChosenBy.{ChosenBy}
use Rattle.grounds.specs.declared.Tried.{Tried}
use Rattle.grounds.specs.declared.Tried.TheVariants as tried
use Rattle.grounds.specs.declared.Minus.{Minus}
use Rattle.grounds.specs.Why.{choice_of, failure_of, tried_at, chosen_grounds}
use Rattle.reasons.specs.Told.{choice_at}

-- ---- what is said of a section before it
tried-there : (ss : List Section) (d : Section) (i k : ℕ) → k < i → k < length ss → tried_at ss i k ≡ failure_of (get_or ss k d)
unfolding tried_at
tried-there [] d i k less inside = absurd (omega arith)
tried-there (s ∷ ss) d zero k less inside = absurd (omega arith)
tried-there (s ∷ ss) d (suc i) zero less inside = refl
tried-there (s ∷ ss) d (suc i) (suc k) less inside = tried-there ss d i k (omega arith) (omega arith)

module _ (z earlier : TableSection) (less : earlier.place < z.place) (same : earlier.table ≡ z.table)
    {has : Bool} (e : has ≡ has_condition (section_of earlier)) where
  failure-is : tried_at (sections_of z.table) z.place earlier.place ≡ failure_of (section_of earlier)
  unfolding section_in
  failure-is =
      ap (λ (t : Table). tried_at (sections_of t) z.place earlier.place) (sym same)
      ∙ tried-there (sections_of earlier.table) no_section z.place earlier.place less (omega (arith, earlier.there, sections-length earlier.table.words.now))

  pub tried-own : has ≡ true → tried.OwnFalse ≡ tried_at (sections_of z.table) z.place earlier.place
  unfolding failure_of
  tried-own h = sym (failure-is ∙ rw (sym e ∙ h))

  pub tried-fallback : has ≡ false → tried.FallbackFalse ≡ tried_at (sections_of z.table) z.place earlier.place
  unfolding failure_of
  tried-fallback h = sym (failure-is ∙ rw (sym e ∙ h))

-- ---- all of it, where the section was chosen
choice-is : (ss : List Section) (x : Exact) (i : ℕ) (s : Section) (why : Reason) → choose ss x ≡ chosen i s why
    → choice_at (counted ss) i (has_condition s) ≡ choice_of (counted ss) why
unfolding choice_at reason_for
choice-is ss x i s why e = ap (choice_of (counted ss)) (sym (chosen-placed ss s x i s why e).reason)

pub grounds-told : (ws : List ℕ) (x : Exact) (i : ℕ) (why : Reason) {n : ℕ} {own : Bool} {choice : ChosenBy} {first second : Tried} (minus : Minus) (cut : ℕ)
    → choose (decode ws) x ≡ chosen i (section_in ws i) why → n ≡ counted (decode ws) → own ≡ has_condition (section_in ws i)
    → choice ≡ choice_at n i own → first ≡ tried_at (decode ws) i 0 → second ≡ tried_at (decode ws) i 1
    → record { section = i; choice = choice; first = first; second = second; minus = minus; cut = cut } ≡ chosen_grounds (decode ws) i why minus cut
unfolding chosen_grounds
grounds-told ws x i why {n} {own} {choice} minus cut e en eo ec ef es =
    let told : choice_at n i own ≡ choice_of (counted (decode ws)) why = rw (en, eo) (choice-is (decode ws) x i (section_in ws i) why e) in
    let c : choice ≡ choice_of (counted (decode ws)) why = ec ∙ told in
    λ j. record { section = i; choice = c j; first = ef j; second = es j; minus = minus; cut = cut }
