-- Level 2, number bodies: the places, the point and the commas fit exactly when NFPartNum derives the tokens.
-- Assumes nothing.
use Prim.Native.Nat.{ℕ, suc, ◌≤◌}
use native.Mathlib.Omega.{arith}
use mathlib.Core.Path.{◌≡◌, refl, ap, ◌∙◌}
use mathlib.Core.Bool.{Bool, true, false, cond, not, true≢false}
use mathlib.Core.List.{List, ◌∷◌}
use borrow.Author.Tests.{not-true}
use Rattle.lists.specs.Lists.{any, count}
use Rattle.lists.proofs.Bools.{no, by_cases}
use Rattle.formats.specs.Tokens.{Token, comma}
use Rattle.formats.specs.Items.{number_kind}
use Rattle.formats.specs.Kinds.{is_place, is_point, CommaUse, groups, divides, misplaced, is_misplaced, is_dividing, integer_place_in}
use Rattle.formats.proofs.CommaUses.{comma_use, comma_uses_from}
use Rattle.grammar.specs.Bodies.{Part, leading, wholes, grouping, dividing, bared, decimals, trailing, Beside, beside-free, beside-percent, NFPartNum, beside, leading-place, leading-point, wholes-place, wholes-group, wholes-divide, wholes-point, wholes-end, grouping-place, grouping-comma, dividing-comma, dividing-point, dividing-end, bared-place, decimals-place, decimals-comma, decimals-end, trailing-comma, trailing-end}
use Rattle.grammar.proofs.Quiet.{Quiet, free-quiet, percent-quiet, passed_over, quiet-commas, quiet-any, quiet-integers}
use Rattle.grammar.proofs.Plain.{View, v-free, v-comma, v-place, v-point, v-percent, Views, v-end, v_next}

-- ---- what the tests of a number see at each part

-- whether the point stands before, and whether a place does
abbrev behind : Part → Bool × Bool
behind leading = (false, false)
behind wholes = (false, true)
behind grouping = (false, true)
behind dividing = (false, true)
behind bared = (true, false)
behind decimals = (true, true)
behind trailing = (true, true)

abbrev uses : Part → List Token → List CommaUse
uses p ts = comma_uses_from (behind p).0 (behind p).1 ts

-- what must still come, or may not
abbrev needs : Part → List Token → Bool
needs leading ts = any is_place ts
needs wholes ts = true
needs grouping ts = integer_place_in ts
needs dividing ts = not (integer_place_in ts)
needs bared ts = any is_place ts
needs decimals ts = true
needs trailing ts = not (any is_place ts)

pub record Holds (p : Part) (ts : List Token) : Type 0 where
  pub placed : any is_misplaced (uses p ts) ≡ false
  pub points : count is_point ts ≤ cond (behind p).0 0 1
  pub ahead : needs p ts ≡ true

-- ---- what stands beside the places

beside-quiet : {t : Token} → Beside t → Quiet t
beside-quiet (beside-free g) = free-quiet g
beside-quiet beside-percent = percent-quiet

beside-needs : {t : Token} (p : Part) (ts : List Token) → Quiet t → needs p (t ∷ ts) ≡ needs p ts
beside-needs leading ts q = quiet-any ts q
beside-needs wholes ts q = refl
beside-needs grouping ts q = quiet-integers ts q
beside-needs dividing ts q = ap not (quiet-integers ts q)
beside-needs bared ts q = quiet-any ts q
beside-needs decimals ts q = refl
beside-needs trailing ts q = ap not (quiet-any ts q)

-- ---- what a comma is

groups-between : (ts : List Token) → integer_place_in ts ≡ true → comma_uses_from false true (comma ∷ ts) ≡ groups ∷ comma_uses_from false true ts
unfolding comma_uses_from comma_use
groups-between ts e = rw e

divides-before : (ts : List Token) → integer_place_in ts ≡ false → comma_uses_from false true (comma ∷ ts) ≡ divides ∷ comma_uses_from false true ts
unfolding comma_uses_from comma_use
divides-before ts e = rw e

divides-behind : (ts : List Token) → any is_place ts ≡ false → comma_uses_from true true (comma ∷ ts) ≡ divides ∷ comma_uses_from true true ts
unfolding comma_uses_from comma_use
divides-behind ts e = rw e

abbrev divisions : Part → List Token → ℕ
divisions p ts = count is_dividing (uses p ts)

-- ---- from the grammar to the tests

pub record Counted (p : Part) (n : ℕ) (ts : List Token) : Type 0 where
  pub views : Views number_kind ts
  pub holds : Holds p ts
  pub counted : divisions p ts ≡ n

beside-view : {t : Token} → Beside t → View number_kind t
beside-view (beside-free g) = v-free g
beside-view beside-percent = v-percent

counted-beside : {t : Token} (p : Part) (n : ℕ) (ts : List Token) → Beside t → Counted p n ts → Counted p n (t ∷ ts)
counted-beside {t} p n ts b c =
    let q = beside-quiet b in
    record {
      views = v_next (beside-view b) c.views;
      holds = record {
        placed = rw (quiet-commas ts q (behind p).0 (behind p).1) c.holds.placed;
        points = rw (passed_over is_point t ts q.no-point) c.holds.points;
        ahead = beside-needs p ts q ∙ c.holds.ahead;
      };
      counted = rw (quiet-commas ts q (behind p).0 (behind p).1) c.counted;
    }

-- a comma in front, by its use
comma-groups : (p q : Part) (n : ℕ) (ts : List Token) → uses p (comma ∷ ts) ≡ groups ∷ uses q ts → (behind q).0 ≡ (behind p).0 → needs p (comma ∷ ts) ≡ true
    → Counted q n ts → Counted p n (comma ∷ ts)
unfolding any count
comma-groups p q n ts e b a c =
    record { views = v_next v-comma c.views; holds = record { placed = rw e c.holds.placed; points = rw b at c.holds.points; ahead = a }; counted = rw e c.counted }

comma-divides : (p q : Part) (n : ℕ) (ts : List Token) → uses p (comma ∷ ts) ≡ divides ∷ uses q ts → (behind q).0 ≡ (behind p).0 → needs p (comma ∷ ts) ≡ true
    → Counted q n ts → Counted p (suc n) (comma ∷ ts)
unfolding any count
comma-divides p q n ts e b a c =
    record { views = v_next v-comma c.views; holds = record { placed = rw e c.holds.placed; points = rw b at c.holds.points; ahead = a }; counted = rw e (ap suc c.counted) }

-- a place, or the point, in front
counted-by : (p q : Part) (n : ℕ) {t : Token} (ts : List Token) → View number_kind t → uses q (t ∷ ts) ≡ uses p ts → count is_point (t ∷ ts) ≤ cond (behind q).0 0 1
    → needs q (t ∷ ts) ≡ true → Counted p n ts → Counted q n (t ∷ ts)
counted-by p q n ts v u c a d =
    record { views = v_next v d.views; holds = record { placed = rw u d.holds.placed; points = c; ahead = a }; counted = rw u d.counted }

pub num-counted : {p : Part} {n : ℕ} {ts : List Token} → NFPartNum p n ts → Counted p n ts
unfolding comma_uses_from any count integer_place_in
num-counted {p} {n} (beside {ts = ts} b d) = counted-beside p n ts b (num-counted d)
num-counted (leading-place d) = let c = num-counted d in counted-by wholes leading _ _ v-place refl c.holds.points refl c
num-counted (leading-point d) = let c = num-counted d in let k = c.holds.points in counted-by bared leading _ _ v-point refl (omega arith) c.holds.ahead c
num-counted (wholes-place d) = let c = num-counted d in counted-by wholes wholes _ _ v-place refl c.holds.points refl c
num-counted (wholes-group {ts = ts} d) =
    let c = num-counted d in comma-groups wholes grouping _ ts (groups-between ts c.holds.ahead) refl refl c
num-counted (wholes-divide {ts = ts} d) =
    let c = num-counted d in comma-divides wholes dividing _ ts (divides-before ts (not-true (integer_place_in ts) c.holds.ahead)) refl refl c
num-counted (wholes-point d) = let c = num-counted d in let k = c.holds.points in counted-by decimals wholes _ _ v-point refl (omega arith) refl c
num-counted wholes-end = record { views = v-end; holds = record { placed = refl; points = omega arith; ahead = refl }; counted = refl }
num-counted (grouping-place d) = let c = num-counted d in counted-by wholes grouping _ _ v-place refl c.holds.points refl c
num-counted (grouping-comma {ts = ts} d) =
    let c = num-counted d in comma-groups grouping grouping _ ts (groups-between ts c.holds.ahead) refl c.holds.ahead c
num-counted (dividing-comma {ts = ts} d) =
    let c = num-counted d in comma-divides dividing dividing _ ts (divides-before ts (not-true (integer_place_in ts) c.holds.ahead)) refl c.holds.ahead c
num-counted (dividing-point d) = let c = num-counted d in let k = c.holds.points in counted-by decimals dividing _ _ v-point refl (omega arith) refl c
num-counted dividing-end = record { views = v-end; holds = record { placed = refl; points = omega arith; ahead = refl }; counted = refl }
num-counted (bared-place d) = let c = num-counted d in counted-by decimals bared _ _ v-place refl c.holds.points refl c
num-counted (decimals-place d) = let c = num-counted d in counted-by decimals decimals _ _ v-place refl c.holds.points refl c
num-counted (decimals-comma {ts = ts} d) =
    let c = num-counted d in comma-divides decimals trailing _ ts (divides-behind ts (not-true (any is_place ts) c.holds.ahead)) refl refl c
num-counted decimals-end = record { views = v-end; holds = record { placed = refl; points = omega arith; ahead = refl }; counted = refl }
num-counted (trailing-comma {ts = ts} d) =
    let c = num-counted d in comma-divides trailing trailing _ ts (divides-behind ts (not-true (any is_place ts) c.holds.ahead)) refl c.holds.ahead c
num-counted trailing-end = record { views = v-end; holds = record { placed = refl; points = omega arith; ahead = refl }; counted = refl }

-- ---- from the tests to the grammar

past-beside : {t : Token} (p : Part) (ts : List Token) → Quiet t → Holds p (t ∷ ts) → Holds p ts
past-beside {t} p ts q h =
    record {
      placed = rw (quiet-commas ts q (behind p).0 (behind p).1) at h.placed;
      points = rw (passed_over is_point t ts q.no-point) at h.points;
      ahead = rw (beside-needs p ts q) at h.ahead;
    }

before-beside : {t : Token} {ts : List Token} (p : Part) → Beside t → NFPartNum p (divisions p ts) ts → NFPartNum p (divisions p (t ∷ ts)) (t ∷ ts)
before-beside {ts = ts} p b d = rw (quiet-commas ts (beside-quiet b) (behind p).0 (behind p).1) (beside b d)

tail-placed : (u : CommaUse) (us : List CommaUse) → any is_misplaced (u ∷ us) ≡ false → any is_misplaced us ≡ false
unfolding any
tail-placed groups us e = e
tail-placed divides us e = e
tail-placed misplaced us e = absurd (true≢false e)

-- a comma of this use at part p, with part q behind it
at-comma : (p q : Part) (u : CommaUse) (ts : List Token) → uses p (comma ∷ ts) ≡ u ∷ uses q ts → (behind p).0 ≡ (behind q).0 → needs q ts ≡ true
    → ((r : Part) → Holds r ts → NFPartNum r (divisions r ts) ts) → Holds p (comma ∷ ts)
    → (NFPartNum q (divisions q ts) ts → NFPartNum p (count is_dividing (u ∷ uses q ts)) (comma ∷ ts)) → NFPartNum p (divisions p (comma ∷ ts)) (comma ∷ ts)
unfolding count
at-comma p q u ts e b n f h g =
    rw e (g (f q (record { placed = tail-placed u (uses q ts) (rw e at h.placed); points = rw b at h.points; ahead = n })))

pub num_of : {ts : List Token} → Views number_kind ts → (p : Part) → Holds p ts → NFPartNum p (divisions p ts) ts
unfolding comma_uses_from comma_use any count integer_place_in
num_of v-end leading h = no h.ahead
num_of v-end wholes h = wholes-end
num_of v-end grouping h = no h.ahead
num_of v-end dividing h = dividing-end
num_of v-end bared h = no h.ahead
num_of v-end decimals h = decimals-end
num_of v-end trailing h = trailing-end
num_of (v_next {ts = ts} (v-free g) vs) p h = before-beside p (beside-free g) (num_of vs p (past-beside p ts (free-quiet g) h))
num_of (v_next {ts = ts} v-percent vs) p h = before-beside p beside-percent (num_of vs p (past-beside p ts percent-quiet h))
num_of (v_next v-comma vs) leading h = absurd (true≢false h.placed)
num_of (v_next {ts = ts} v-comma vs) wholes h =
    by_cases (integer_place_in ts)
    (λ e. at-comma wholes grouping groups ts (groups-between ts e) refl e (num_of vs) h (λ d. wholes-group d))
    (λ e. at-comma wholes dividing divides ts (divides-before ts e) refl (rw e) (num_of vs) h (λ d. wholes-divide d))
num_of (v_next {ts = ts} v-comma vs) grouping h =
    at-comma grouping grouping groups ts (groups-between ts h.ahead) refl h.ahead (num_of vs) h (λ d. grouping-comma d)
num_of (v_next {ts = ts} v-comma vs) dividing h =
    at-comma dividing dividing divides ts (divides-before ts (not-true (integer_place_in ts) h.ahead)) refl h.ahead (num_of vs) h (λ d. dividing-comma d)
num_of (v_next v-comma vs) bared h = absurd (true≢false h.placed)
num_of (v_next {ts = ts} v-comma vs) decimals h =
    by_cases (any is_place ts)
    (λ e. absurd (true≢false (rw e at h.placed)))
    (λ e. at-comma decimals trailing divides ts (divides-behind ts e) refl (rw e) (num_of vs) h (λ d. decimals-comma d))
num_of (v_next {ts = ts} v-comma vs) trailing h =
    at-comma trailing trailing divides ts (divides-behind ts (not-true (any is_place ts) h.ahead)) refl h.ahead (num_of vs) h (λ d. trailing-comma d)
num_of (v_next v-place vs) leading h = leading-place (num_of vs wholes (record { placed = h.placed; points = h.points; ahead = refl }))
num_of (v_next v-place vs) wholes h = wholes-place (num_of vs wholes (record { placed = h.placed; points = h.points; ahead = refl }))
num_of (v_next v-place vs) grouping h = grouping-place (num_of vs wholes (record { placed = h.placed; points = h.points; ahead = refl }))
num_of (v_next v-place vs) dividing h = no h.ahead
num_of (v_next v-place vs) bared h = bared-place (num_of vs decimals (record { placed = h.placed; points = h.points; ahead = refl }))
num_of (v_next v-place vs) decimals h = decimals-place (num_of vs decimals (record { placed = h.placed; points = h.points; ahead = refl }))
num_of (v_next v-place vs) trailing h = no h.ahead
num_of (v_next v-point vs) leading h =
    let n = h.points in leading-point (num_of vs bared (record { placed = h.placed; points = omega arith; ahead = h.ahead }))
num_of (v_next v-point vs) wholes h =
    let n = h.points in wholes-point (num_of vs decimals (record { placed = h.placed; points = omega arith; ahead = refl }))
num_of (v_next v-point vs) grouping h = no h.ahead
num_of (v_next v-point vs) dividing h =
    let n = h.points in dividing-point (num_of vs decimals (record { placed = h.placed; points = omega arith; ahead = refl }))
num_of (v_next v-point vs) bared h = let n = h.points in absurd (omega arith)
num_of (v_next v-point vs) decimals h = let n = h.points in absurd (omega arith)
num_of (v_next v-point vs) trailing h = let n = h.points in absurd (omega arith)
