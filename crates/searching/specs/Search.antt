-- "The search sees no table: it names an entry, is handed its number, and within ten such turns names the last entry not above the
-- day, or none, for any 401 rising numbers." (R124)
-- Assumes nothing.
use Rattle.std.specs.Prelude.{ℕ, zero, suc, ◌≤◌, ◌<◌, cond, List, [], ◌∷◌, leb, ltb, length, get_or}
use Rattle.std.proofs.Math.Option.{Option, none, some}
use Rattle.searching.specs.declared.Turn.{Turn}
use Rattle.searching.specs.declared.Turn.TheVariants.{Read, Found, Nothing}
use Rattle.searching.specs.Machine.{told_of}

-- no entry is below an earlier one
abbrev pub Rising : List ℕ → Type 0
Rising numbers = (i j : ℕ) → i ≤ j → j < length numbers → get_or numbers i 0 ≤ get_or numbers j 0

-- the last entry from place k on that is not above the day, else the one kept so far
unfoldable pub last_from : ℕ → ℕ → Option ℕ → List ℕ → Option ℕ
last_from day k kept [] = kept
last_from day k kept (x ∷ xs) = last_from day (suc k) (cond (leb x day) (some k) kept) xs

-- "the last entry not above the day, or none"
unfoldable pub last_not_above : ℕ → List ℕ → Option ℕ
last_not_above day numbers = last_from day 0 none numbers

-- the search when the entry that it names is handed over; one that is not there is not, and then it asks for ever
unfoldable pub handed : List ℕ → Turn → Turn
handed numbers (Found k) = Found k
handed numbers Nothing = Nothing
handed numbers (Read k s) = cond (ltb k (length numbers)) (told_of s (get_or numbers k 0)) (Read k s)

-- the search when so many entries at most are handed over
unfoldable pub driven : ℕ → List ℕ → Turn → Turn
driven zero numbers t = t
driven (suc turns) numbers t = driven turns numbers (handed numbers t)

-- the turn that answers an entry, or none
unfoldable pub answered : Option ℕ → Turn
answered none = Nothing
answered (some k) = Found k
