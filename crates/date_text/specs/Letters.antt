-- A name in one number.
-- Assumes nothing.
use Rattle.std.specs.Prelude.{ℕ, zero, suc, ◌+◌, ◌*◌, ◌/◌, ◌%◌, ◌≤◌, ◌≡◌, cond, List, [], ◌∷◌, length, take, eqb}

-- the letters are digits to the base 128, the first letter the lowest
unfoldable pub packed : List ℕ → ℕ
packed [] = 0
packed (x ∷ xs) = x + 128 * packed xs

-- the letters of a number, at most k of them; no letter is 0
unfoldable pub letters_up_to : ℕ → ℕ → List ℕ
letters_up_to zero n = []
letters_up_to (suc k) n = let r = letters_up_to k (n / 128) in cond (eqb n 0) [] (n % 128 ∷ r)

-- how many letters of a name a run of n shows, from three on
abbrev pub most_letters : ℕ → ℕ
most_letters n = cond (eqb n 3) 3 (cond (eqb n 4) 9 1)

-- a number has the letters of a name, which are at most nine
pub record Spells (letters : ℕ) (name : List ℕ) : Type 0 where
  pub first : (k : ℕ) → letters_up_to k letters ≡ take k name
  pub short : length name ≤ 9
