-- What is shown, by whether the words are a table.
-- Assumes nothing.
use Prim.Native.Nat.{ℕ}
use mathlib.Core.Path.{◌≡◌, sym, subst}
use mathlib.Core.Bool.{false}
use mathlib.Core.List.{List}
use Rattle.std.specs.Prelude.{Result, Err}
use Rattle.answers.specs.declared.Refusal.{Refusal}
use Rattle.answers.specs.declared.Refusal.TheVariants as answer
use Rattle.answers.specs.declared.Shown.{Shown}
use Rattle.values.specs.declared.Ask.{Ask}
use Rattle.lists.proofs.Bools.{T_true}
use Rattle.formats.specs.Reading.{Reading, reading}
use Rattle.tables.specs.Rules.{passes}
use Rattle.tables.specs.Calls.{table_reading}
use Rattle.table_words.specs.declared.Table.{Table}
use Rattle.table_words.specs.Tabled.{sections_of}
use Rattle.section_text.specs.Show.{Shows}
use Rattle.section_text.proofs.Fitting.{shows-refused}

pub shows-as : {old out : List ℕ} {r : Result Shown Refusal} {y z : Reading} → z ≡ y → Shows y old r out → Shows z old r out
shows-as {old} {out} {r} e x = subst (λ (z : Reading). Shows z old r out) (sym e) x

module _ (ask : Ask) (text : List ℕ) (size : ℕ) where
  pub table-shows : (t : Table) {ws old out : List ℕ} {r : Result Shown Refusal} → t.words.now ≡ ws
      → Shows (reading (sections_of t) ask text size) old r out → Shows (table_reading ws ask text size) old r out
  unfolding table_reading
  table-shows t e y = rw (← e, T_true (passes t.words.now) t.passes) y

  pub table-refused : (ws old : List ℕ) → passes ws ≡ false → Shows (table_reading ws ask text size) old (Err answer.Table) old
  unfolding table_reading
  table-refused ws old f = rw f (shows-refused old answer.Table)
