-- The table rules are the tests in the order of the code.
-- Assumes nothing.
use Prim.Native.Nat.{ℕ, ◌+◌, ◌*◌, ◌≤◌}
use mathlib.Core.Path.{◌≡◌, refl, sym, ◌∙◌, ap}
use mathlib.Core.Bool.{Bool, true, false, ◌&&◌}
use mathlib.Core.List.{List}
use lib.ListN.{length, get_or, drop}
use lib.Dec.{T, leb, eqb, leb→le}
use borrow.Author.Tests.{le-leb}
use Rattle.lists.specs.Lists.{every}
use Rattle.lists.proofs.Counts.{every-and}
use Rattle.lists.proofs.Bools.{and_left, and_right, by_cases, true-T}
use Rattle.formats.specs.WellFormed.{items_in_all, all_stand}
use Rattle.formats.specs.Choice.{counted}
use Rattle.formats.specs.Minus.{first_has_condition}
use Rattle.tables.specs.Words.{Row, heads_in, rows_in, items_said, exact_words}
use Rattle.tables.specs.Standing.{counted_kinds}
use Rattle.tables.specs.Decode.{decode}
use Rattle.tables.specs.Rules.{row_fits, flags_from, passes}
use Rattle.tables.proofs.Words.{rows-counted, rows-heads, Exactly, exactly, heads_of}
use Rattle.checking.specs.Checking.{sized, Sized, half_fits, row_good, kinds_in, first_has_in, places_fit}
use Rattle.checking.proofs.Places.{places_same, counted-told, first-told, items-said, sections-said}

pub sized-facts : (ws : List ℕ) → T (sized ws) → Sized ws
unfolding sized
sized-facts ws t =
    let x : Exactly ws = exactly ws (and_left (exact_words ws) (leb (items_said (heads_in ws)) 254) t) in
    record {
      least = x.least;
      most = x.most;
      words = x.size;
      items = leb→le (items_said (heads_in ws)) 254 (and_right (exact_words ws) (leb (items_said (heads_in ws)) 254) t);
    }

-- what a table of another size is answered
pub not-sized-so : (ws : List ℕ) → (Sized ws → ⊥) → false ≡ sized ws
not-sized-so ws refuted = by_cases (sized ws) (λ e. absurd (refuted (sized-facts ws (true-T e)))) (λ e. sym e)

pub sized-so : (ws : List ℕ) (n items : ℕ) → n ≡ get_or ws 0 0 → 1 ≤ n → n ≤ 4 → items ≡ items_said (heads_in ws)
    → (eqb (length ws) (1 + 12 * n + 2 * items) && leb items 254) ≡ sized ws
unfolding sized exact_words
sized-so ws n items h least most e = rw (e, ← h, le-leb 1 n least, le-leb n 4 most)

module _ (ws : List ℕ) where
  heads-are : heads_of (rows_in ws) ≡ heads_in ws
  unfolding rows_in
  heads-are = rows-heads (heads_in ws) (drop (1 + 12 * get_or ws 0 0) ws)

  items-are : items_in_all (decode ws) ≡ items_said (heads_in ws)
  unfolding decode
  items-are = items-said (rows_in ws) (rows-counted ws) ∙ ap items_said heads-are

  rows_both : every row_good (rows_in ws) ≡ (every row_fits (rows_in ws) && every half_fits (rows_in ws))
  unfolding row_good
  rows_both = every-and row_fits half_fits (rows_in ws)

  places-told : T (every row_fits (rows_in ws))
      → (all_stand (decode ws) && flags_from (counted (decode ws)) 0 (first_has_condition (decode ws)) (rows_in ws))
      ≡ (every half_fits (rows_in ws) && places_fit (heads_in ws))
  unfolding all_stand decode counted places_fit
  places-told t =
      let rs : List Row = rows_in ws in
      rw (sections-said rs, counted-told rs t, first-told rs, heads-are)
      (rw heads-are at (places_same (length (heads_in ws)) (counted_kinds 0 (kinds_in (heads_in ws))) (first_has_in (heads_in ws)) 0 rs t))

-- the tests of all rows move in front of the test of each place
and-moved : (x i r s f h p : Bool) → (T r → (s && f) ≡ (h && p)) → (x && r && (i && s) && f) ≡ ((x && i) && ((r && h) && p))
and-moved true true true s f h p e = e tt
and-moved true true false s f h p e = refl
and-moved true false true s f h p e = refl
and-moved true false false s f h p e = refl
and-moved false i r s f h p e = refl

pub passes-told : (ws : List ℕ) → passes ws ≡ (sized ws && (every row_good (rows_in ws) && places_fit (heads_in ws)))
unfolding passes sized
passes-told ws =
    rw (rows_both ws, items-are ws)
    (and-moved (exact_words ws) (leb (items_said (heads_in ws)) 254) (every row_fits (rows_in ws)) (all_stand (decode ws))
    (flags_from (counted (decode ws)) 0 (first_has_condition (decode ws)) (rows_in ws)) (every half_fits (rows_in ws)) (places_fit (heads_in ws))
    (places-told ws))

-- the three returns
pub not-sized : (ws : List ℕ) → sized ws ≡ false → false ≡ passes ws
not-sized ws e = sym (passes-told ws ∙ rw e)

pub not_good : (ws : List ℕ) → sized ws ≡ true → every row_good (rows_in ws) ≡ false → false ≡ passes ws
not_good ws e g = sym (passes-told ws ∙ rw (e, g))

pub all-good : (ws : List ℕ) → sized ws ≡ true → every row_good (rows_in ws) ≡ true → places_fit (heads_in ws) ≡ passes ws
all-good ws e g = sym (passes-told ws ∙ rw (e, g))
