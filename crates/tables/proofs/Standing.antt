-- Where a section stands, N and the shift are what the words of its head tell.
-- Assumes nothing.
use Prim.Native.Nat.{ℕ, suc, ◌+◌, ◌≤◌}
use native.Mathlib.Omega.{arith}
use native.Mathlib.Numerals.{add-one}
use mathlib.Core.Path.{◌≡◌, refl}
use mathlib.Core.Bool.{Bool, true, false, cond, ◌||◌}
use mathlib.Core.List.{List, [], ◌∷◌, map}
use lib.Dec.{eqb}
use Rattle.lists.specs.Lists.{count}
use Rattle.lists.proofs.Bools.{cond_both}
use Rattle.formats.specs.Items.{Section, Kind, text_kind, general_kind, date_kind, scientific_kind, fraction_kind, number_kind, literal_kind, same_kind, kind_of, is_percent}
use Rattle.formats.specs.Where.{has_condition, stands_at}
use Rattle.formats.proofs.Each.{by_kind}
use Rattle.formats.specs.Choice.{counted_from}
use Rattle.tables.specs.Encode.{kind_word, shift_word}
use Rattle.tables.specs.Standing.{head_stands, counted_one, counted_kinds, shift_of}

-- kinds are told apart by their words
pub same_word : (j k : Kind) → eqb (kind_word j) (kind_word k) ≡ same_kind j k
unfolding kind_word
same_word j k =
    let Same : Kind → Kind → Type 0 = λ x y. eqb (kind_word x) (kind_word y) ≡ same_kind x y in
    by_kind (λ x. Same x k) (by_kind (Same text_kind) refl refl refl refl refl refl refl k) (by_kind (Same general_kind) refl refl refl refl refl refl refl k)
    (by_kind (Same date_kind) refl refl refl refl refl refl refl k) (by_kind (Same number_kind) refl refl refl refl refl refl refl k)
    (by_kind (Same literal_kind) refl refl refl refl refl refl refl k) (by_kind (Same scientific_kind) refl refl refl refl refl refl refl k)
    (by_kind (Same fraction_kind) refl refl refl refl refl refl refl k) j

pub kind-most : (k : Kind) → kind_word k ≤ 6
unfolding kind_word
kind-most = by_kind (λ k. kind_word k ≤ 6) (omega arith) (omega arith) (omega arith) (omega arith) (omega arith) (omega arith) (omega arith)

-- each kind that a rule names, by its word
pub literal-word : (k : Kind) → eqb (kind_word k) 0 ≡ same_kind k literal_kind
unfolding kind_word
literal-word k = same_word k literal_kind

pub general-word : (k : Kind) → eqb (kind_word k) 1 ≡ same_kind k general_kind
unfolding kind_word
general-word k = same_word k general_kind

pub number_word : (k : Kind) → eqb (kind_word k) 2 ≡ same_kind k number_kind
unfolding kind_word
number_word k = same_word k number_kind

pub text-word : (k : Kind) → eqb (kind_word k) 3 ≡ same_kind k text_kind
unfolding kind_word
text-word k = same_word k text_kind

-- the kind word of a section
abbrev pub section_kind : Section → ℕ
section_kind s = kind_word (kind_of s)

pub head-stands : (n i : ℕ) (s : Section) → stands_at n i s ≡ head_stands n i (section_kind s) s.colour (has_condition s)
unfolding stands_at head_stands
head-stands n i s = rw (text-word (kind_of s), general-word (kind_of s), literal-word (kind_of s), add-one i)

one_more : (b : Bool) (m : ℕ) → cond b m (suc m) ≡ cond b 0 1 + m
one_more true m = omega arith
one_more false m = omega arith

pub counted-kinds : (i : ℕ) (ss : List Section) → counted_from i ss ≡ counted_kinds i (map section_kind ss)
unfolding counted_from counted_kinds counted_one
counted-kinds i [] = refl
counted-kinds i (s ∷ ss) =
    rw (counted-kinds (suc i) ss, text-word (kind_of s), add-one i)
    (one_more (same_kind (kind_of s) text_kind || eqb i 3) (counted_kinds (suc i) (map section_kind ss)))

pub one-most : (i kind : ℕ) → counted_one i kind ≤ 1
unfolding counted_one
one-most i kind = cond_both (λ n. n ≤ 1) (eqb kind 3 || eqb i 3) (omega arith) (omega arith)

pub shift_word_lem : (s : Section) → shift_word s ≡ shift_of (section_kind s) (count is_percent s.items) s.thousands
unfolding shift_word shift_of
shift_word_lem s = rw (number_word (kind_of s))
