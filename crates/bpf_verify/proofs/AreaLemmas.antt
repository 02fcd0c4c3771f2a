-- The areas of bases hold in every run of an accepted code.
use Rattle.std.proofs.Common.{◌≡◌, ℕ, zero, suc, ◌+◌, ◌-◌, ◌<◌, ◌≤◌, IfSome, List, [], ◌∷◌, ◌++◌, ◌⊎◌, length, get_or}
use Rattle.std.proofs.Common.{Option, Some, None, option_map, option_and_then, Result, Ok, Err, is_some, refl, sym, ap, ◌∙◌, subst, arith}
use Rattle.std.proofs.Common.{inl, inr}
use Rattle.std.specs.Prelude.{slice_get}
use Rattle.std.proofs.lemmas.Bool.{cases_lt}
use Rattle.std.proofs.lemmas.Option.{get_or_from_slice_get, none-some}
use Rattle.bpf_insn.proofs.PlaceLemmas.{index_at-after, index_within, instruction_at-index, instruction_at-inside, instruction_at-after}
use Rattle.bpf_insn.proofs.PlaceLemmas.{instruction_within, word_count-cons}
use Rattle.bpf_insn.specs.Code.{index_at, instruction_at, spelling, word_count}
use Rattle.bpf_insn.specs.declared.instruction.Insn.{Insn}
use Rattle.bpf_insn.specs.declared.instruction.Insn.TheVariants as insn
use Rattle.bpf_insn.specs.declared.instruction.Source.TheVariants.{Immediate, Register}
use Rattle.bpf_insn.specs.declared.value.Area.{Area}
use Rattle.bpf_insn.specs.declared.value.Value.{Value}
use Rattle.bpf_insn.specs.declared.value.Value.TheVariants as value
use Rattle.bpf_insn.specs.Immediates.{HasImmediates, HaveImmediates}
use Rattle.bpf_flow.specs.Flow.{IsForward}
use Rattle.bpf_kinds.specs.Kind as kind
use Rattle.bpf_kinds.specs.declared.kind.Kind.{Kind}
use Rattle.bpf_kinds.specs.declared.kind.Kind.TheVariants.{Record, Frame}
use Rattle.bpf_meaning.specs.Checks.{◌>>=◌}
use Rattle.bpf_meaning.specs.State.{register_value}
use Rattle.bpf_meaning.specs.Walk as walk_of
use Rattle.bpf_meaning.specs.Walk.{walk, load_value}
use Rattle.bpf_meaning.specs.declared.cause.Cause.{Cause}
use Rattle.bpf_meaning.specs.declared.state.State.{State}
use Rattle.bpf_verify.specs.Annotation.{Annotation, IsAccepted, area_of, area_of_kind, areas_from}
use Rattle.bpf_verify.specs.LiftedState.{LiftedState, Unreached, Reached, Edges, Admits, kind_of}
use Rattle.bpf_verify.specs.Transfer.{kinds, only_pointers, pointers_in, read_kind, transfer}
use Rattle.bpf_verify.specs.Verified.{HasBaseAreas, IsPointerInto, base_of}
use Rattle.bpf_verify.specs.declared.memory.Pointers.{Pointers}
use Rattle.bpf_verify.specs.declared.abstract_state.AbstractState.{AbstractState}
use Rattle.bpf_verify.proofs.SoundRuns.{IsAdmitted, end_admitted}
use Rattle.bpf_verify.proofs.SoundSteps.{IsVerified}

-- The areas of consecutive instructions.

pub length-areas_from : (annotation : Annotation) (place : ℕ) (code : List Insn) → length (areas_from annotation place code) ≡ length code
length-areas_from annotation place [] = refl
length-areas_from annotation place (insn ∷ code) = ap suc (length-areas_from annotation (place + length (spelling insn)) code)

-- one more instruction
pub areas_from-more : (annotation : Annotation) (place : ℕ) (code : List Insn) (insn : Insn)
    → areas_from annotation place (code ++ insn ∷ []) ≡ areas_from annotation place code ++ area_of
    (annotation (place + word_count code)) insn ∷ []
areas_from-more annotation place [] insn = ap (λ (p : ℕ). area_of (annotation p) insn ∷ []) (omega arith)
areas_from-more annotation place (first ∷ code) insn =
    let rest = areas_from-more annotation (place + length (spelling first)) code insn in
    let sum : place + length (spelling first) + word_count code ≡ place + word_count (first ∷ code) =
    omega (arith, word_count-cons first code) in
    ap (λ (areas : List (Option Area)). area_of (annotation place) first ∷ areas)
    (rest ∙ ap (λ (p : ℕ). areas_from annotation (place + length (spelling first)) code ++ area_of (annotation p) insn ∷ []) sum)

-- an annotation that agrees with another one up to their end
pub areas_from-same : (old new : Annotation) (end place : ℕ) (code : List Insn) → ((other : ℕ) → other ≤ end → new other ≡ old other)
    → place + word_count code ≤ end → areas_from new place code ≡ areas_from old place code
areas_from-same old new end place [] same ends = refl
areas_from-same old new end place (insn ∷ code) same ends =
    let sum = word_count-cons insn code in
    ap (λ (state : LiftedState). area_of state insn ∷ areas_from new (place + length (spelling insn)) code) (same place (omega arith))
    ∙ ap (λ (areas : List (Option Area)). area_of (old place) insn ∷ areas)
    (areas_from-same old new end (place + length (spelling insn)) code same (omega arith))

-- the area of the instruction at a place, by its index

get_or-next : {A : Type 0} (x : A) (xs : List A) (d y : A) (found : Option ℕ) (index : ℕ) → option_map (λ (i : ℕ). suc i) found ≡ Some index
    → ((i : ℕ) → found ≡ Some i → get_or xs i d ≡ y) → get_or (x ∷ xs) index d ≡ y
get_or-next x xs d y None index is each = absurd (none-some index is)
get_or-next x xs d y (Some i) index is each = let same : suc i ≡ index = cc in subst (λ (n : ℕ). get_or (x ∷ xs) n d ≡ y) same (each i refl)

area_at : (annotation : Annotation) (from : ℕ) (code : List Insn) (place index : ℕ) (insn : Insn) → index_at code place ≡ Some index
    → instruction_at code place ≡ Some insn → get_or (areas_from annotation from code) index None ≡ area_of (annotation (from + place)) insn
area_at annotation from [] place index insn is is_insn = absurd (none-some index is)
area_at annotation from (first ∷ code) zero index insn is is_insn =
    let here : 0 ≡ index = cc in
    let one : first ≡ insn = cc in
    subst (λ (n : ℕ). get_or (areas_from annotation from (first ∷ code)) n None ≡ area_of (annotation (from + 0)) insn) here
    (ap (area_of (annotation from)) one ∙ ap (λ (p : ℕ). area_of (annotation p) insn) (omega arith))
area_at annotation from (first ∷ code) (suc place) index insn is is_insn =
    elim (cases_lt (suc place) (length (spelling first))) as
    (λ _. get_or (areas_from annotation from (first ∷ code)) index None ≡ area_of (annotation (from + suc place)) insn) [
      | inl below ↦ absurd (none-some insn (sym (instruction_at-inside first code (suc place) (omega arith) below) ∙ is_insn))
      | inr past ↦
          let left : ℕ = suc place - length (spelling first) in
          let sum : from + length (spelling first) + left ≡ from + suc place = omega arith in
          get_or-next _ (areas_from annotation (from + length (spelling first)) code) None _ (index_at code left) index
          (sym (index_at-after first code (suc place) past) ∙ is)
          (λ i found. area_at annotation (from + length (spelling first)) code left i insn found
          (sym (instruction_at-after first code (suc place) past) ∙ is_insn) ∙ ap (λ (p : ℕ). area_of (annotation p) insn) sum)
    ]

-- If an instruction passes its checks, its base holds a pointer.

first_passes : {A B : Type 0} (first : Result A Cause) (others : A → Result B Cause) (end : B) → first >>= others ≡ Ok end → (x : A)
    × (first ≡ Ok x)
first_passes (Ok x) others end is = (x, refl)
first_passes (Err cause) others end is = absurd (let no : ⊥ = cc in no)

abbrev HasPointers : AbstractState → ℕ → Type 0
HasPointers known base = (pointers : Pointers) × (pointers_in known base ≡ Ok pointers)

base_passes : (known : AbstractState) (insn : Insn) (base : ℕ) (edges : Edges) → base_of insn ≡ Some base → walk (kinds known) insn ≡ Ok edges
    → HasPointers known base
base_passes known (insn.Load format destination register offset) base edges is passes =
    let loaded = first_passes (load_value (kinds known) format register.number offset) _ edges passes in
    let same : register.number ≡ base = cc in
    subst (HasPointers known) same (first_passes (pointers_in known register.number) _ loaded.0 loaded.1)
base_passes known (insn.StoreImmediate size register offset immediate) base edges is passes =
    let stored = first_passes (walk_of.store (kinds known) size register.number offset (Immediate immediate)) _ edges passes in
    let same : register.number ≡ base = cc in
    subst (HasPointers known) same (first_passes (pointers_in known register.number) _ stored.0 stored.1)
base_passes known (insn.Store size register offset source) base edges is passes =
    let stored = first_passes (walk_of.store (kinds known) size register.number offset (Register source)) _ edges passes in
    let same : register.number ≡ base = cc in
    subst (HasPointers known) same (first_passes (pointers_in known register.number) _ stored.0 stored.1)
base_passes known insn base edges is passes = absurd (none-some base is)

points_into : (x : Kind) (held : Value) (register : ℕ) (pointers : Pointers) → kind.Admits x held
    → read_kind register x >>= only_pointers ≡ Ok pointers → IsPointerInto held (area_of_kind x)
points_into (Record x) (value.Pointer pointer) register pointers admits passes =
    record { pointer = pointer; is = refl; into = ap Some (sym admits.0) }
points_into (Frame x) (value.Pointer pointer) register pointers admits passes =
    record { pointer = pointer; is = refl; into = ap Some (sym admits.0) }
points_into (Record x) held register pointers admits passes = absurd admits
points_into (Frame x) held register pointers admits passes = absurd admits
points_into x held register pointers admits passes = absurd (let no : ⊥ = cc in no)

by_state : (abstract : LiftedState) (state : State) (insn : Insn) (base : ℕ) (edges : Edges) → Admits abstract state
    → transfer abstract insn ≡ Ok edges → base_of insn ≡ Some base → IsPointerInto (register_value state base) (area_of abstract insn)
by_state Unreached state insn base edges admits passes is = absurd admits
by_state (Reached known) state insn base edges admits passes is =
    let pointers = base_passes known insn base edges is passes in
    subst (IsPointerInto (register_value state base)) (sym (ap (option_and_then (λ (base : ℕ). area_of_kind (kind_of known base))) is))
    (points_into (kind_of known base) (register_value state base) base pointers.0 (admits.registers base) pointers.1)

pub areas_hold : (code : List Insn) (areas : List (Option Area)) → IsForward code → HaveImmediates code → IsAccepted code areas
    → HasBaseAreas code areas
areas_hold code areas forward immediates accepted = record {
  count = ap length accepted.are ∙ length-areas_from accepted.annotation 0 code;
  bases = λ segment is_segment run is_run state end index insn base at is_insn is.
      let verified : IsVerified code segment accepted.annotation =
      record { forward = forward; good = accepted.is_least.good; is_segment = is_segment; immediates = immediates } in
      let place : get_or areas index None ≡ area_of (accepted.annotation state.place) insn =
      ap (λ (areas : List (Option Area)). get_or areas index None) accepted.are
      ∙ area_at accepted.annotation 0 code state.place index insn at is_insn
      ∙ ap (λ (p : ℕ). area_of (accepted.annotation p) insn) (omega arith) in
      let admitted_state = subst (IsAdmitted code accepted.annotation) end (end_admitted code segment accepted.annotation verified run is_run) in
      let passes = verified.good.passes state.place insn (instruction_within code state.place (ap is_some is_insn)) is_insn in
      subst (IsPointerInto (register_value state base)) (sym place)
      (by_state (accepted.annotation state.place) state insn base passes.edges admitted_state.admits passes.passes is);
}

-- The immediates of a code.

-- those of the instructions before an index
abbrev pub HaveImmediatesBefore : List Insn → ℕ → Type 0
HaveImmediatesBefore code count = (index : ℕ) (insn : Insn) → index < count → slice_get code index ≡ Some insn → HasImmediates insn

pub all_have_immediates : (code : List Insn) (count : ℕ) → length code ≤ count → HaveImmediatesBefore code count → HaveImmediates code
all_have_immediates code count all have place insn is_insn =
    by_index (index_at code place) (index_within code place) (sym (instruction_at-index code place) ∙ is_insn)
  where
    by_index : (found : Option ℕ) → IfSome found (λ index. index < length code) → option_and_then (slice_get code) found ≡ Some insn
        → HasImmediates insn
    by_index None within is = absurd (let no : ⊥ = cc in no)
    by_index (Some index) within is = have index insn (omega arith) is

pub one_more_has_immediates : (code : List Insn) (count : ℕ) (next : Insn) → next ≡ get_or code count next → HasImmediates next
    → HaveImmediatesBefore code count → HaveImmediatesBefore code (count + 1)
one_more_has_immediates code count next is has have = λ index insn below found. by_place index insn below found (cases_lt index count)
  where
    by_place : (index : ℕ) (insn : Insn) → index < count + 1 → slice_get code index ≡ Some insn → (index < count) ⊎ (count ≤ index)
        → HasImmediates insn
    by_place index insn below found (inl before) = have index insn before found
    by_place index insn below found (inr not_before) =
        let here : count ≡ index = omega arith in
        let at_index = subst (λ (at : ℕ). next ≡ get_or code at next) here is in
        subst HasImmediates (at_index ∙ get_or_from_slice_get code index insn next found) has
