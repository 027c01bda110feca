-- Where a section of an accepted code stands.
-- Assumes nothing.
use Prim.Native.Nat.{ℕ, ◌+◌, ◌≤◌}
use native.Mathlib.Omega.{arith}
use mathlib.Core.Path.{◌≡◌, refl}
use mathlib.Core.List.{List}
use lib.ListN.{length}
use Rattle.formats.specs.Accept.{Verdict, fine, refused, verdict, span_by, section_span}
use Rattle.formats.proofs.First.{verdict-fine, length-bounds}

-- a section stands among the first 254 units: a code that is not refused has no more
small_by : (v : Verdict) (code : List ℕ) (n : ℕ) → verdict code ≡ v → (span_by v n code).start + (span_by v n code).size ≤ length code
    → (span_by v n code).start + (span_by v n code).size ≤ 254
unfolding span_by
small_by fine code n e h = omega (arith, length-bounds code (verdict-fine code e).length-fine)
small_by (refused a k) code n e h = omega arith

pub section-small : (code : List ℕ) (n : ℕ) {start size : ℕ} → start ≡ (section_span n code).start → size ≡ (section_span n code).size
    → start + size ≤ length code → start + size ≤ 254
unfolding section_span
section-small code n es ez h = rw (es, ez) (small_by (verdict code) code n refl (rw (es, ez) at h))
