-- What an item's tag tells the rule for m is what the item tells it.
-- Assumes nothing.
use Prim.Native.Nat.{ℕ, ◌<◌}
use native.Mathlib.Omega.{arith}
use mathlib.Core.Path.{◌≡◌, refl, sym, ◌∙◌, ap}
use mathlib.Core.Bool.{Bool, false, cond, ◌&&◌, ◌||◌}
use mathlib.Core.List.{List, [], ◌∷◌, ◌++◌}
use lib.ListN.{length, get_or}
use lib.Dec.{T, leb, eqb}
use Rattle.lists.proofs.Bools.{by_cases}
use Rattle.formats.specs.Tokens.{Elapsed}
use Rattle.formats.specs.Items.{Item, place, elapsed, exponent, Run, is_hour_run, is_second_run, run_of, run_of_elapsed, nearer, first_run, means_minutes, month_or_minute, settled_item}
use Rattle.formats.proofs.Each.{by-item, by_place, by-elapsed, by-exponent}
use Rattle.tables.specs.Words.{entries_words}
use Rattle.tables.specs.Encode.{entry, tag_of, entry_of, entries_from}
use Rattle.settling.specs.Settle.{is_no_minute, is_run_tag, seconds_in, hours_after}
use Rattle.formats.specs.Text.{along, digit_after}

-- the run of an item, before or behind another one
abbrev Tells : Item → Type 0
Tells i =
    (r : Run) → (is_second_run (nearer (run_of i) r) ≡ cond (is_run_tag (tag_of i)) (eqb (tag_of i) 16 || eqb (tag_of i) 20) (is_second_run r))
    × (is_hour_run (nearer (run_of i) r) ≡ hours_after (tag_of i) (is_hour_run r))

pub tag-tells : (i : Item) → Tells i
unfolding run_of run_of_elapsed nearer
tag-tells =
    by-item Tells (λ u r. (refl, refl)) (λ u r. (refl, refl)) (λ u r. (refl, refl))
    (by_place (λ p. Tells (place p)) (λ r. (refl, refl)) (λ r. (refl, refl)) (λ r. (refl, refl)))
    (λ r. (refl, refl)) (λ r. (refl, refl)) (λ r. (refl, refl)) (λ r. (refl, refl)) (λ n r. (refl, refl)) (λ n r. (refl, refl)) (λ n r. (refl, refl))
    (λ n r. (refl, refl)) (λ n r. (refl, refl)) (λ n r. (refl, refl)) (λ n r. (refl, refl))
    (λ e n. by-elapsed (λ (d : Elapsed). Tells (elapsed d n)) (λ r. (refl, refl)) (λ r. (refl, refl)) (λ r. (refl, refl)) e) (λ h r. (refl, refl))
    (by-exponent (λ m. Tells (exponent m)) (λ r. (refl, refl)) (λ r. (refl, refl))) (λ r. (refl, refl)) (λ n r. (refl, refl))

-- the nearest run of items is seconds
pub seconds-first : (anew q : ℕ) (is : List Item) → seconds_in (entries_words (entries_from anew q is) []) ≡ is_second_run (first_run is)
unfolding seconds_in entries_words entry_of first_run along
seconds-first anew q [] = refl
seconds-first anew q (i ∷ is) =
    ap (λ (r : Bool). cond (is_run_tag (tag_of i)) (eqb (tag_of i) 16 || eqb (tag_of i) 20) r) (seconds-first anew (digit_after anew q i) is) ∙ sym (tag-tells i (first_run is)).0

-- the tag of a settled item
abbrev Settles : ℕ → Run → Run → Item → Type 0
Settles q e l i =
    T (is_no_minute i) → entry_of q (settled_item e l i)
    ≡ entry (cond (eqb (tag_of i) 12 && leb (entry_of q i).argument 2) (cond (is_hour_run e || is_second_run l) 15 12) (tag_of i)) (entry_of q i).argument

pub tag-settled : (q : ℕ) (e l : Run) (i : Item) → Settles q e l i
unfolding settled_item month_or_minute means_minutes entry_of
tag-settled q e l =
    by-item (Settles q e l) (λ u t. refl) (λ u t. refl) (λ u t. refl)
    (by_place (λ p. Settles q e l (place p)) (λ t. refl) (λ t. refl) (λ t. refl))
    (λ t. refl) (λ t. refl) (λ t. refl) (λ t. refl) (λ n t. refl)
    (λ n t. by_cases (leb n 2) (λ s. rw s (by_cases (is_hour_run e || is_second_run l) (λ h. rw h) (λ h. rw h))) (λ s. rw s (by_cases (is_hour_run e || is_second_run l) (λ h. rw h) (λ h. rw h))))
    (λ n t. refl) (λ n t. refl) (λ n t. absurd t) (λ n t. refl) (λ n t. refl)
    (λ x n. by-elapsed (λ (d : Elapsed). Settles q e l (elapsed d n)) (λ t. refl) (λ t. refl) (λ t. refl) x) (λ h t. refl)
    (by-exponent (λ m. Settles q e l (exponent m)) (λ t. refl) (λ t. refl)) (λ t. refl) (λ n t. refl)

-- the nearest run among item words: of the first of them and those behind it, and of none
pub seconds-pair : (item later ws : List ℕ) → ws ≡ item ++ later → length item ≡ 2
    → seconds_in ws ≡ cond (is_run_tag (get_or item 0 0)) (eqb (get_or item 0 0) 16 || eqb (get_or item 0 0) 20) (seconds_in later)
unfolding seconds_in
seconds-pair [] later ws e n = absurd (omega arith)
seconds-pair (t ∷ []) later ws e n = absurd (omega arith)
seconds-pair (t ∷ a ∷ []) later ws e n = ap seconds_in e
seconds-pair (t ∷ a ∷ b ∷ us) later ws e n = absurd (omega arith)

pub seconds-none : (ws : List ℕ) → length ws < 2 → seconds_in ws ≡ false
unfolding seconds_in
seconds-none [] h = refl
seconds-none (t ∷ []) h = refl
seconds-none (t ∷ a ∷ ws) h = absurd (omega arith)
