-- Checks in sequence.
use Rattle.std.specs.Prelude.{Result, Ok, Err}
use Rattle.bpf_meaning.specs.declared.cause.Cause.{Cause}

-- the first check that fails determines the cause
infixl 10 ◌>>=◌
abbrev pub ◌>>=◌ : {A B : Type 0} → Result A Cause → (A → Result B Cause) → Result B Cause
(Ok x) >>= f = f x
(Err cause) >>= f = Err cause

-- checks are sound for others: if they pass, the others pass too, and `Holds` relates the results of both
abbrev pub Sound : {A B : Type 0} → (A → B → Type 0) → Result A Cause → Result B Cause → Type 0
Sound Holds (Err cause) others = Unit {0}
Sound Holds (Ok x) (Ok y) = Holds x y
Sound Holds (Ok x) (Err cause) = ⊥
