-- Repeated steps followed by a further step.
use Rattle.std.proofs.Common.{ℕ, zero, suc, ◌+◌, refl, subst, sym, add-one}
use Rattle.tcp_server.specs.Repeats.{HasRepeated, Repeats}

module _ {A : Type 0} (step : A → A → Type 0) where
  append_step : (count : ℕ) (old now new : A) → Repeats step count old now → step now new → Repeats step (suc count) old new
  append_step zero old now new same last = (new, subst (λ now. step now new) same last, refl)
  append_step (suc count) old now new (next, first, steps) last = (next, first, append_step count next now new steps last)

  pub one_more : (old now new : A) → HasRepeated step old now → step now new → HasRepeated step old new
  one_more old now new made last = record { count = suc made.count; steps = append_step made.count old now new made.steps last }

  pub one_more_of : (count : ℕ) (old now new : A) → Repeats step count old now → step now new → Repeats step (count + 1) old new
  one_more_of count old now new steps last = subst (λ n. Repeats step n old new) (sym (add-one count)) (append_step count old now new steps last)
