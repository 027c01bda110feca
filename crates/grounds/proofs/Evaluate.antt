-- For cases that are computed: to open `reasoned` is to open every definition that the reason of a code goes through, beside its reading's.
-- Assumes nothing.
use Prim.Native.Nat.{ℕ}
use mathlib.Core.List.{List}
use Rattle.std.specs.Prelude.{Result}
use Rattle.answers.specs.declared.Refusal.{Refusal}
use Rattle.values.specs.declared.Ask.{Ask}
use Rattle.formats.proofs.Evaluate.{evaluated}
use Rattle.cuts.specs.Cut.{whole_at, decimals_from, decimals_of, decimals_cut, general_cut, mantissa_cut}
use Rattle.grounds.specs.declared.Grounds.{Grounds}
use Rattle.grounds.specs.Why.{choice_of, failure_of, tried_at, minus_of, number_cut, chosen_grounds, untried, no_grounds, number_grounds, instant_grounds, text_grounds, grounds_of, why_read, why_of, why_accepted, code_why}

unfoldable pub reasoned : List ℕ → Ask → List ℕ → ℕ → Result Grounds Refusal
unfolding evaluated whole_at decimals_from decimals_of decimals_cut general_cut mantissa_cut choice_of failure_of tried_at minus_of number_cut chosen_grounds untried no_grounds number_grounds instant_grounds text_grounds grounds_of why_read why_of why_accepted code_why
reasoned code ask text room = code_why code ask text room
