-- Operations on tagged values of two kinds agree, if the operations on their numbers and offsets agree.
use Rattle.std.proofs.Common.{◌≡◌, Result, Ok, sym, subst}
use Rattle.bpf_insn.specs.declared.instruction.Operation.{Operation}
use Rattle.bpf_insn.specs.declared.instruction.Operation.TheVariants.{Add, Subtract}
use Rattle.bpf_insn.specs.declared.instruction.Width.{Width}
use Rattle.bpf_insn.specs.declared.instruction.Width.TheVariants.{Bits32, Bits64}
use Rattle.bpf_insn.specs.declared.value.Area.{Area}
use Rattle.bpf_meaning.specs.Checks.{◌>>=◌, Sound}
use Rattle.bpf_meaning.specs.declared.cause.Cause.{Cause}
use Rattle.bpf_meaning.proofs.CheckLemmas.{then_sound}
use Rattle.bpf_meaning.specs.Tags.{Tagged, Empty, Number, Pointer, Tags, operate_on_pointer, operate_with_pointer, operate_tagged, operate}
use Rattle.bpf_meaning.specs.Tags.{move_tagged, move}

-- Empty is related to every value; otherwise numbers are related to numbers, and pointers to pointers into the same area
abbrev pub Relate : {N O M P : Type 0} → (N → M → Type 0) → (O → P → Type 0) → Tagged N O → Tagged M P → Type 0
Relate Numbers Offsets Empty held = Unit {0}
Relate Numbers Offsets (Number x) (Number n) = Numbers x n
Relate Numbers Offsets (Pointer into x) (Pointer area offset) = (area ≡ into) × Offsets x offset
Relate Numbers Offsets x held = ⊥

pub record Agree (S T : Tags) : Type 1 where
  pub Numbers : S.Numbers → T.Numbers → Type 0
  pub Offsets : S.Offsets → T.Offsets → Type 0
  pub Distances : S.Distances → T.Distances → Type 0
  pub Values : S.Values → T.Values → Type 0
  pub tagged : (x : S.Values) (v : T.Values) → Values x v → Relate Numbers Offsets (S.tagged x) (T.tagged v)
  pub number : (x : S.Numbers) (n : T.Numbers) → Numbers x n → Values (S.number x) (T.number n)
  pub pointer : (area : Area) (x : S.Offsets) (offset : T.Offsets) → Offsets x offset → Values (S.pointer area x) (T.pointer area offset)
  pub result : (operation : Operation) (width : Width) (x y : S.Numbers) (m n : T.Numbers) → Numbers x m → Numbers y n
      → Numbers (S.result operation width x y) (T.result operation width m n)
  pub low_half : (x : S.Numbers) (n : T.Numbers) → Numbers x n → Numbers (S.low_half x) (T.low_half n)
  pub distance : (x : S.Numbers) (n : T.Numbers) → Numbers x n → Sound Distances (S.distance x) (T.distance n)
  pub forwards : (x : S.Offsets) (offset : T.Offsets) (d : S.Distances) (distance : T.Distances) → Offsets x offset → Distances d distance
      → Sound Offsets (S.forwards x d) (T.forwards offset distance)
  pub backwards : (x : S.Offsets) (offset : T.Offsets) (d : S.Distances) (distance : T.Distances) → Offsets x offset → Distances d distance
      → Sound Offsets (S.backwards x d) (T.backwards offset distance)

module _ (S T : Tags) (f : Agree S T) where
  on_pointer_agrees : (operation : Operation) (x : S.Offsets) (y : S.Numbers) (offset : T.Offsets) (n : T.Numbers) → f.Offsets x offset
      → f.Numbers y n → Sound f.Offsets (operate_on_pointer S operation x y) (operate_on_pointer T operation offset n)
  on_pointer_agrees Add x y offset n here by = then_sound f.Distances f.Offsets _ _ _ _ (f.distance y n by)
      (λ d distance. f.forwards x offset d distance here)
  on_pointer_agrees Subtract x y offset n here by = then_sound f.Distances f.Offsets _ _ _ _ (f.distance y n by)
      (λ d distance. f.backwards x offset d distance here)
  on_pointer_agrees operation x y offset n here by = tt

  with_pointer_agrees : (operation : Operation) (x : S.Offsets) (y : S.Numbers) (offset : T.Offsets) (n : T.Numbers) → f.Offsets x offset
      → f.Numbers y n → Sound f.Offsets (operate_with_pointer S operation y x) (operate_with_pointer T operation n offset)
  with_pointer_agrees Add x y offset n here by = then_sound f.Distances f.Offsets _ _ _ _ (f.distance y n by)
      (λ d distance. f.forwards x offset d distance here)
  with_pointer_agrees operation x y offset n here by = tt

  moved_agrees : (into area : Area) (a : Result S.Offsets Cause) (b : Result T.Offsets Cause) → area ≡ into → Sound f.Offsets a b
      → Sound f.Values (a >>= λ moved. Ok (S.pointer into moved)) (b >>= λ moved. Ok (T.pointer area moved))
  moved_agrees into area a b same sound =
      subst (λ (there : Area). Sound f.Values (a >>= λ moved. Ok (S.pointer into moved)) (b >>= λ moved. Ok (T.pointer there moved)))
      (sym same)
      (then_sound f.Offsets f.Values a b _ _ sound (f.pointer into))

  operate_tagged_agrees : (operation : Operation) (width : Width) (x y : Tagged S.Numbers S.Offsets) (v w : Tagged T.Numbers T.Offsets)
      → Relate f.Numbers f.Offsets x v → Relate f.Numbers f.Offsets y w
      → Sound f.Values (operate_tagged S operation width x y) (operate_tagged T operation width v w)
  operate_tagged_agrees operation width (Number x) (Number y) (Number m) (Number n) left right =
      f.number _ _ (f.result operation width x y m n left right)
  operate_tagged_agrees operation Bits64 (Number x) (Pointer into y) (Number m) (Pointer area offset) left right =
      moved_agrees into area _ _ right.0 (with_pointer_agrees operation y x offset m right.1 left)
  operate_tagged_agrees operation Bits64 (Pointer into x) (Number y) (Pointer area offset) (Number n) left right =
      moved_agrees into area _ _ left.0 (on_pointer_agrees operation x y offset n left.1 right)
  operate_tagged_agrees operation width (Number x) y Empty w left right = absurd left
  operate_tagged_agrees operation width (Number x) y (Pointer area offset) w left right = absurd left
  operate_tagged_agrees operation width (Pointer into x) y Empty w left right = absurd left
  operate_tagged_agrees operation width (Pointer into x) y (Number m) w left right = absurd left
  operate_tagged_agrees operation width x (Number y) v Empty left right = absurd right
  operate_tagged_agrees operation width x (Number y) v (Pointer area offset) left right = absurd right
  operate_tagged_agrees operation width x (Pointer into y) v Empty left right = absurd right
  operate_tagged_agrees operation width x (Pointer into y) v (Number n) left right = absurd right
  operate_tagged_agrees operation Bits64 x y v w left right = tt
  operate_tagged_agrees operation Bits32 x y v w left right = tt

  pub operate_agrees : (operation : Operation) (width : Width) (x y : S.Values) (v w : T.Values) → f.Values x v → f.Values y w
      → Sound f.Values (operate S operation width x y) (operate T operation width v w)
  operate_agrees operation width x y v w left right = operate_tagged_agrees operation width (S.tagged x) (S.tagged y) (T.tagged v)
      (T.tagged w) (f.tagged x v left) (f.tagged y w right)

  move_tagged_agrees : (width : Width) (held : S.Values) (found : T.Values) (x : Tagged S.Numbers S.Offsets)
      (v : Tagged T.Numbers T.Offsets) → f.Values held found → Relate f.Numbers f.Offsets x v
      → Sound f.Values (move_tagged S width held x) (move_tagged T width found v)
  move_tagged_agrees Bits64 held found x v values parts = values
  move_tagged_agrees Bits32 held found (Number x) (Number n) values parts = f.number _ _ (f.low_half x n parts)
  move_tagged_agrees Bits32 held found (Number x) v values parts = absurd parts
  move_tagged_agrees Bits32 held found x v values parts = tt

  pub move_agrees : (width : Width) (x : S.Values) (v : T.Values) → f.Values x v → Sound f.Values (move S width x) (move T width v)
  move_agrees width x v values = move_tagged_agrees width x v (S.tagged x) (T.tagged v) values (f.tagged x v values)
