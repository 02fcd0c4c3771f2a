-- Steps repeated one after the other.
use Rattle.std.specs.Prelude.{◌≡◌, ℕ, zero, suc}

-- `count` steps lead from the first value to the last
abbrev pub Repeats : {A : Type 0} → (A → A → Type 0) → ℕ → A → A → Type 0
Repeats step zero old new = new ≡ old
Repeats {A} step (suc count) old new = (now : A) × step old now × Repeats step count now new

-- some number of steps
pub record HasRepeated {A : Type 0} (step : A → A → Type 0) (old new : A) : Type 0 where
  pub count : ℕ
  pub steps : Repeats step count old new
