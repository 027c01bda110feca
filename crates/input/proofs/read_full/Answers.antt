-- What `read` gave stands behind what was there.
-- Assumes nothing.
use Rattle.std.proofs.Common.{◌≡◌, ℕ, ◌+◌, ◌-◌, ◌≤◌, List, ◌++◌, length, take, drop, sym, ap, ◌∙◌, arith, rules, length-take-le}
use Rattle.std.proofs.Math.Seq.{take-append-add, take-append-le}
use Rattle.std.proofs.KnownBytes.{Consumes-trans}
use borrow.Rule.Slice.PartMut.{put_mid}
use Rattle.input.proofs.read_full.Goals as goal

-- the front with n elements more of the part that was written
take-put : (at k n : ℕ) (xs ys : List ℕ) → at ≤ length xs → n ≤ length ys → take (at + n) (put_mid at k xs ys) ≡ take at xs ++ take n ys
take-put at k n xs ys h l =
    let front = take at xs in
    let rest = ys ++ drop k (drop at xs) in
    ap (λ (m : ℕ). take (m + n) (front ++ rest)) (sym (length-take-le at xs h)) ∙ take-append-add front rest n
    ∙ ap (λ (us : List ℕ). front ++ us) (take-append-le n ys (drop k (drop at xs)) l)

-- no element is written
take-none : (at k n : ℕ) (xs ys : List ℕ) → n ≡ 0 → at ≤ length xs → n ≤ length ys → take at (put_mid at k xs ys) ≡ take at xs ++ take n ys
take-none at k n xs ys none h l =
    let same : at ≡ at + n = omega (arith, none) in
    ap (λ (m : ℕ). take m (put_mid at k xs ys)) same ∙ take-put at k n xs ys h l

pub loop-done-init : goal.loop-done-init
loop-done-init g c = search rules

pub loop-done-preserved : goal.loop-done-preserved
loop-done-preserved g c =
    let i = c.loop-done.invariant in
    let at = c.loop-done.done in
    let n = c.in_ok-n.n in
    let e = take-put at (length c.loop-done.buf - at) n c.loop-done.buf c.read.new.buf i.0 c.in_ok-n.ensures.bound.0 in
    (search rules, rw e (Consumes-trans _ _ _ _ _ i.1 c.in_ok-n.ensures.bytes.0))

pub returns-after-loop-done-clause-bound : goal.returns-after-loop-done-clause-bound
returns-after-loop-done-clause-bound g c = c.loop-done.invariant.0

pub returns-after-loop-done-clause-bytes : goal.returns-after-loop-done-clause-bytes
returns-after-loop-done-clause-bytes g c = c.loop-done.invariant.1

pub returns-then-n-eq0-clause-bytes : goal.returns-then-n-eq0-clause-bytes
returns-then-n-eq0-clause-bytes g c =
    let i = c.loop-done.invariant in
    let at = c.loop-done.done in
    let n = c.in_ok-n.n in
    let e = take-none at (length c.loop-done.buf - at) n c.loop-done.buf c.read.new.buf c.if-n-eq0.true i.0 c.in_ok-n.ensures.bound.0 in
    rw e (Consumes-trans _ _ _ _ _ i.1 c.in_ok-n.ensures.bytes.0)
