-- Which sections take a number, and which an instant, by their kinds.
-- Assumes nothing.
use Prim.Native.Nat.{ℕ}
use mathlib.Core.Path.{◌≡◌, refl}
use mathlib.Core.Bool.{false}
use mathlib.Core.Logic.{◌⊎◌, inl, inr}
use lib.Dec.{T}
use mathlib.Core.List.{List}
use Rattle.answers.specs.declared.Refusal.TheVariants as answer
use Rattle.values.specs.declared.Number as values
use Rattle.formats.specs.Items.{Section, Kind, date_kind, kind_of}
use Rattle.formats.specs.Choice.{Reason, chosen}
use Rattle.formats.specs.Reading.{refused, takes_number, takes_instant, shows_general, read_number}
use Rattle.table_words.specs.declared.Kind as named
use Rattle.table_words.specs.declared.Kind.TheVariants.{Literal, General, Number, Text, DateTime, Scientific, Fraction}
use Rattle.table_words.specs.Tabled.{kind_named}

-- a section of any other kind takes no instant
pub other-sort : (k : named.Kind) {kind : Kind} → kind_named k ≡ kind → (k ≡ DateTime → ⊥) → (k ≡ Literal → ⊥) → takes_instant kind ≡ false
unfolding takes_instant
other-sort Literal e d l = absurd (l refl)
other-sort General e d l = rw (← e)
other-sort Number e d l = rw (← e)
other-sort Text e d l = rw (← e)
other-sort DateTime e d l = absurd (d refl)
other-sort Scientific e d l = rw (← e)
other-sort Fraction e d l = rw (← e)

-- General sections and text sections show General
pub general-sort : (k : named.Kind) {kind : Kind} → kind_named k ≡ kind → (k ≡ General) ⊎ (k ≡ Text) → T (shows_general kind)
unfolding shows_general
general-sort k e (inl g) = rw (← e, g) tt
general-sort k e (inr g) = rw (← e, g) tt

pub date-refused : (ss : List Section) (z : Section) (i : ℕ) (why : Reason) (x : values.Number) → kind_of z ≡ date_kind
    → (size : ℕ) → read_number ss x size (chosen i z why) ≡ refused answer.Sort
unfolding read_number takes_number
date-refused ss z i why x e size = rw e
