-- What a section's kind says of its places, and of the subject that it shows.
-- Assumes nothing.
use Prim.Native.Nat.{ℕ}
use mathlib.Core.Path.{◌≡◌, refl}
use mathlib.Core.Bool.{false}
use mathlib.Core.List.{List, [], ◌∷◌}
use lib.Dec.{T}
use Rattle.lists.specs.Lists.{every}
use Rattle.lists.proofs.Bools.{every-head, every-tail}
use Rattle.formats.specs.Items.{Item, Kind, date_kind, number_kind, scientific_kind, fraction_kind, literal_kind, same_kind, shows_places, item_allowed, kind_of, integer_places}
use Rattle.formats.specs.Text.{Context}
use Rattle.formats.proofs.Each.{by-item}
use Rattle.table_words.specs.declared.TableSection.{TableSection}
use Rattle.table_words.specs.Tabled.{section_of}
use Rattle.table_words.proofs.Bodies.{section-allowed}
use Rattle.figure_text.specs.Shown.{FiguresAre}
use Rattle.section_text.specs.declared.Subject.{Subject}
use Rattle.section_text.specs.Subject.{StandsFor, SubjectIs}

-- a section of this kind shows no places, no instant, no exponent and no fraction
abbrev pub Unfigured : Kind → Type 0
Unfigured k = (shows_places k ≡ false) × (same_kind date_kind k ≡ false) × (same_kind scientific_kind k ≡ false) × (same_kind fraction_kind k ≡ false)

-- where no places are shown there is no integer place
no-places : (k : Kind) (is : List Item) → T (every (item_allowed k) is) → shows_places k ≡ false → 0 ≡ integer_places is
unfolding integer_places item_allowed
no-places k [] t e = refl
no-places k (i ∷ is) t e =
    by-item (λ j. T (item_allowed k j) → 0 ≡ integer_places is → 0 ≡ integer_places (j ∷ is)) (λ u t r. r) (λ u t r. r) (λ u t r. r)
    (λ p t r. absurd (rw e at t)) (λ t r. refl) (λ t r. r) (λ t r. r) (λ t r. r)
    (λ n t r. r) (λ n t r. r) (λ n t r. r) (λ n t r. r) (λ n t r. r) (λ n t r. r) (λ n t r. r) (λ o n t r. r) (λ h t r. r) (λ m t r. refl)
    (λ t r. refl) (λ n t r. r)
    i (every-head (item_allowed k) i is t) (no-places k is (every-tail (item_allowed k) i is t) e)

pub section-places : (z : TableSection) → shows_places (kind_of (section_of z)) ≡ false → 0 ≡ integer_places (section_of z).items
section-places z e =
    no-places (kind_of (section_of z)) (section_of z).items (section-allowed _ _ z.table.passes z.there) e

module _ {k : Kind} {digits : List ℕ} {s : Subject} {text : List ℕ} (c : Context) where
  -- nothing is asked of the subject of a literal section, its figures alone of a number section's
  pub literal-subject : k ≡ literal_kind → SubjectIs k digits s text c
  literal-subject e =
      rw e (record { numeric = λ t. absurd t; general = λ t. absurd t; textual = λ t. absurd t; undated = refl; unscientific = refl; unfractional = refl })

  pub number-subject : k ≡ number_kind → FiguresAre digits s.figures c → SubjectIs k digits s text c
  number-subject e are =
      rw e (record { numeric = λ t. are; general = λ t. absurd t; textual = λ t. absurd t; undated = refl; unscientific = refl; unfractional = refl })

  -- in a section of another kind, what General and `@` stand for
  pub standing-subject : Unfigured k → StandsFor s.lent digits s.figures text c.standing → SubjectIs k digits s text c
  standing-subject u p =
      record { numeric = λ t. absurd (rw u.0 at t); general = λ t. p; textual = λ t. p; undated = u.1; unscientific = u.2; unfractional = u.3 }
