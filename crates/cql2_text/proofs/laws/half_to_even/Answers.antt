use Rattle.std.proofs.Common.{refl}
use Rattle.cql2_text.proofs.laws.half_to_even.Goals as goal

pub returns-clause-down : goal.returns-clause-down
returns-clause-down c = λ numeral sign whole decimals. rw (sign, whole, decimals) refl

pub returns-clause-up : goal.returns-clause-up
returns-clause-up c = λ numeral sign whole decimals. rw (sign, whole, decimals) refl
