-- What the rule for m changed (R125). 01's sentence alone looks at no later run: "m and mm mean minutes when the nearest earlier date or
-- time run or elapsed token is hours, else the month." It is the rule as it is told where nothing follows.
-- Assumes nothing.
use mathlib.Core.Path.{◌≡◌, refl, sym, ◌∙◌}
use mathlib.Core.Bool.{or-false}
use mathlib.Core.List.{List, [], ◌∷◌, map}
use Rattle.formats.specs.Items.{Item, Run, no_run, is_hour_run, run_of, nearer, first_run, means_minutes, settled_item, settled_from, settled}
use Rattle.formats.specs.Kinds.{Parts, body_items, last_fill, section_of}
use Rattle.formats.proofs.FormedItems.{settled-kept}

pub former-means : (earlier : Run) → means_minutes earlier no_run ≡ is_hour_run earlier
unfolding means_minutes
former-means earlier = or-false (is_hour_run earlier)

-- the items by that sentence
pub former_from : Run → List Item → List Item
former_from earlier [] = []
former_from earlier (i ∷ is) = settled_item earlier no_run i ∷ former_from (nearer (run_of i) earlier) is

-- an item with every m as a month
abbrev pub as_month : Item → Item
as_month i = settled_item no_run no_run i

month-alike : (e l f m : Run) (i : Item) → as_month (settled_item e l i) ≡ as_month (settled_item f m i)
unfolding settled_item
month-alike e l f m i = settled-kept as_month (λ n. refl) e l i ∙ sym (settled-kept as_month (λ n. refl) f m i)

former-alike : (e : Run) (is : List Item) → map as_month (settled_from e is) ≡ map as_month (former_from e is)
unfolding settled_from former_from
former-alike e [] = refl
former-alike e (i ∷ is) = rw (month-alike e (first_run is) e no_run i, former-alike (nearer (run_of i) e) is)

-- the items of a section are those of before but for months and minutes
pub former-items : (p : Parts) → map as_month (section_of p).items ≡ map as_month (former_from no_run (last_fill (body_items p.body)))
unfolding section_of settled
former-items p = former-alike no_run (last_fill (body_items p.body))
