-- Numbers that casts leave unchanged.
use Rattle.std.proofs.Common.{◌≡◌, ℕ, ◌<◌, ◌^◌, ℤ, pos, refl, ap, ◌∙◌, arith, to_z, of_z, w64}
use Rattle.std.specs.Int.{w32, cast_signed}
use Rattle.std.proofs.lemmas.Int.{to_z_pos}
use Rattle.bpf_helpers.specs.Helper.{signature}
use Rattle.bpf_helpers.specs.declared.helper.Helper.{Helper}
use Rattle.bpf_helpers.specs.declared.helper.Helper.TheVariants.{Field, HasField, NameCount, RangeCount, InRange, NameCopy, NameIs, Emit, Coord}

pub unchanged_64 : (z : ℤ) (n : ℕ) → z ≡ pos n → n < 2 ^ 63 → to_z w64 (of_z w64 z) ≡ pos n
unchanged_64 z n is small = ap (λ (z : ℤ). to_z w64 (of_z w64 z)) is ∙ to_z_pos w64 n (omega arith)

pub number_signed : (helper : Helper) → cast_signed w32 (signature helper).number ≡ pos (signature helper).number
number_signed Field = refl
number_signed HasField = refl
number_signed NameCount = refl
number_signed RangeCount = refl
number_signed InRange = refl
number_signed NameCopy = refl
number_signed NameIs = refl
number_signed Emit = refl
number_signed Coord = refl
