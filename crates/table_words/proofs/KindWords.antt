-- A head's kind word, and the kind of its section.
-- Assumes nothing.
use Prim.Native.Nat.{ℕ, zero, suc, ◌≤◌}
use native.Mathlib.Omega.{arith}
use mathlib.Core.Path.{◌≡◌, refl, ap, ◌∙◌}
use mathlib.Core.List.{List}
use Rattle.formats.specs.Items.{Kind, text_kind, general_kind, date_kind, number_kind, scientific_kind, fraction_kind, literal_kind, kind_of}
use Rattle.tables.specs.Words.{Head}
use Rattle.tables.specs.Encode.{kind_word, head_of}
use Rattle.formats.proofs.Each.{by_kind}
use Rattle.table_words.specs.Sections.{section_in, head_in}

-- the kind with this word
abbrev pub kind_with : ℕ → Kind
kind_with zero = literal_kind
kind_with (suc zero) = general_kind
kind_with (suc (suc zero)) = number_kind
kind_with (suc (suc (suc zero))) = text_kind
kind_with (suc (suc (suc (suc zero)))) = date_kind
kind_with (suc (suc (suc (suc (suc zero))))) = scientific_kind
kind_with (suc (suc (suc (suc (suc (suc n)))))) = fraction_kind

kind-back : (k : Kind) → kind_with (kind_word k) ≡ k
unfolding kind_word
kind-back = by_kind (λ k. kind_with (kind_word k) ≡ k) refl refl refl refl refl refl refl

-- the words of a head that is the one of section i
pub kind-told : (ws : List ℕ) (i : ℕ) {h : Head} → h ≡ head_in ws i → kind_with h.kind ≡ kind_of (section_in ws i)
unfolding head_of
kind-told ws i e = ap (λ (x : Head). kind_with x.kind) e ∙ kind-back (kind_of (section_in ws i))

-- a word past the others' is a fraction's
pub past-words : (n : ℕ) → 6 ≤ n → kind_with n ≡ fraction_kind
past-words zero h = absurd (omega arith)
past-words (suc zero) h = absurd (omega arith)
past-words (suc (suc zero)) h = absurd (omega arith)
past-words (suc (suc (suc zero))) h = absurd (omega arith)
past-words (suc (suc (suc (suc zero)))) h = absurd (omega arith)
past-words (suc (suc (suc (suc (suc zero))))) h = absurd (omega arith)
past-words (suc (suc (suc (suc (suc (suc n)))))) h = refl
