-- The decimals that a section cuts, as the code counts them, and whether nothing is left.
-- Assumes nothing.
use mathlib.Core.Path.{◌≡◌, sym, ap, ap₂, ◌∙◌}
use Prim.Native.Nat.{ℕ, ◌+◌, ◌-◌, ◌*◌, ◌≤◌}
use native.Mathlib.Nat.{mul-one}
use native.Mathlib.Omega.{arith}
use mathlib.Core.Bool.{Bool}
use lib.Dec.{T, eqb}
use lib.IntN.{nat_abs}
use Rattle.values.specs.declared.Number.{Number}
use Rattle.lists.specs.Lists.{count}
use Rattle.lists.proofs.Bools.{T_true}
use Rattle.figures.specs.declared.Signed.{Signed}
use Rattle.figures.specs.Sign.{signed_of}
use Rattle.figures.specs.Rounding.{Magnitude, scaled, rounded}
use Rattle.figures.specs.General.{general_rounded}
use Rattle.figures.specs.Powers.{powered}
use Rattle.figures.proofs.Rounding.{scaled-powered, powered-net}
use Rattle.exponents.specs.Exponent.{decimal}
use Rattle.cuts.specs.Cut.{decimals_cut, general_cut, mantissa_cut}
use Rattle.cuts.proofs.Counting.{cut-net}
use Rattle.formats.specs.Choice.{number_exact}
use Rattle.formats.specs.Items.{Section, decimal_places, general_kind, text_kind, number_kind, scientific_kind, kind_of, is_percent}
use Rattle.formats.specs.Reading.{shows_general, section_rounded, standing_rounded}
use Rattle.planning.proofs.Numbers.{exact}
use Rattle.planning.proofs.Sections.{NumberWords}
use Rattle.showing.proofs.Mantissas.{ScientificWords}
use Rattle.grounds.specs.Why.{number_cut}
use Rattle.reasons.specs.declared.Scaling.{Scaling}
use Rattle.reasons.specs.Told.{ScalingOf}
use Rattle.grounds.proofs.Holding.{cut-number, cut-scientific, cut-general}

-- the scaling of a number section, by its shift
pub scaling-is : {shift decimals scale up down : ℕ} {s : Section} → NumberWords shift decimals s → s.thousands ≤ 5 → scale ≤ 15 → up ≡ shift - 15 → down ≡ 15 - shift
    → ScalingOf s scale (record { up = up; down = scale + down; decimals = decimals })
scaling-is w few hs eu ed =
    record {
      net = omega (arith, w.net);
      decimals = w.places;
      few = few;
      up_most = omega (arith, w.shift_most);
      down_most = omega arith;
      decimals_most = w.decimals_most;
    }

-- the number that it scales: only the net power of ten counts
module _ {s : Section} {k : Scaling} (v : Signed) (x : Number) (z : ScalingOf s v.scale k) (kind : kind_of s ≡ number_kind) (ev : v ≡ signed_of x) where
  abbrev p : ℕ
  p = count is_percent s.items

  abbrev t : ℕ
  t = s.thousands

  pub number-cuts : {r : ℕ} → v.scale ≤ 15 → r ≡ decimals_cut (powered v.magnitude k.up k.down) k.decimals → r ≡ number_cut s x
  unfolding signed_of
  number-cuts hs er =
      er
      ∙ cut-net v.magnitude k.up k.down (2 * p) (v.scale + 3 * t) k.decimals z.down_most (omega (arith, z.few)) z.net
      ∙ ap (λ (m : Magnitude). decimals_cut m k.decimals) (sym (scaled-powered v.magnitude v.scale p t))
      ∙ ap₂ (λ (u : Signed). decimals_cut (scaled u.magnitude u.scale p t)) ev z.decimals
      ∙ sym (cut-number s x kind)

  rounded-scaled : rounded (scaled (nat_abs x.coefficient) x.scale p t) (decimal_places s.items) ≡ section_rounded s x
  unfolding section_rounded
  rounded-scaled = rw kind

  pub number-vanishes : {b : Bool} → b ≡ eqb (rounded (powered v.magnitude k.up k.down) k.decimals) 0 → b ≡ eqb (section_rounded s x) 0
  unfolding signed_of
  number-vanishes eb =
      eb
      ∙ ap (λ (n : ℕ). eqb n 0)
      (powered-net v.magnitude k.up k.down (2 * p) (v.scale + 3 * t) k.decimals z.net
      ∙ ap (λ (m : Magnitude). rounded m k.decimals) (sym (scaled-powered v.magnitude v.scale p t))
      ∙ ap₂ (λ (u : Signed). rounded (scaled u.magnitude u.scale p t)) ev z.decimals
      ∙ rounded-scaled)

-- of a scientific section
pub mantissa-cuts : {integers decimals r : ℕ} {s : Section} (v : Signed) (x : Number) → ScientificWords integers decimals s → kind_of s ≡ scientific_kind
    → v ≡ signed_of x → r ≡ mantissa_cut (decimal v.magnitude v.scale) integers decimals → r ≡ number_cut s x
mantissa-cuts v x w k ev er = er ∙ rw (exact v x ev, w.places, w.decimals-are) (sym (cut-scientific _ x k))

-- of General, which a General section shows, and a text section
pub general-named : (s : Section) → kind_of s ≡ general_kind → T (shows_general (kind_of s))
unfolding shows_general
general-named s k = rw k tt

pub text-named : (s : Section) → kind_of s ≡ text_kind → T (shows_general (kind_of s))
unfolding shows_general
text-named s k = rw k tt

exact-is : (v : Signed) (x : Number) → v ≡ signed_of x → powered v.magnitude 0 v.scale ≡ (number_exact x).size
unfolding powered
exact-is v x ev = ap (λ (a : ℕ). decimal a v.scale) (mul-one v.magnitude) ∙ exact v x ev

pub general-cuts : {r : ℕ} (s : Section) (v : Signed) (x : Number) → T (shows_general (kind_of s)) → v ≡ signed_of x
    → r ≡ general_cut (powered v.magnitude 0 v.scale) → r ≡ number_cut s x
general-cuts s v x t ev er =
    er
    ∙ ap general_cut (exact-is v x ev)
    ∙ sym (cut-general s x (T_true (shows_general (kind_of s)) t))

pub general-vanishes : {b : Bool} (v : Signed) (x : Number) → v ≡ signed_of x → b ≡ eqb (general_rounded (powered v.magnitude 0 v.scale)) 0 → b ≡ eqb (standing_rounded x) 0
unfolding standing_rounded
general-vanishes v x ev eb = eb ∙ ap (λ (m : Magnitude). eqb (general_rounded m) 0) (exact-is v x ev)
