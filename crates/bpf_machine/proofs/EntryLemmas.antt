-- The entry of an instruction, and its place.
use Rattle.std.proofs.Common.{◌≡◌, ℕ, zero, suc, ◌<◌, inl, inr, List, [], ◌∷◌, length, take, get_or, Some, option_map, refl, ap, ◌∙◌}
use Rattle.std.proofs.Common.{arith, is_some}
use Rattle.std.proofs.lemmas.Bool.{cases_lt}
use Rattle.std.proofs.lemmas.List.{get_or_default, take_all}
use Rattle.bpf_insn.specs.Code.{index_at, instruction_at, place_of, word_count}
use Rattle.bpf_insn.specs.declared.instruction.Insn.{Insn}
use Rattle.bpf_insn.proofs.PlaceLemmas.{index_at-after, instruction_within, word_count-cons}
use Rattle.bpf_insn.proofs.SpanLemmas.{begins_at_its_place}

-- the index found at the place of an instruction
pub place_found : (code : List Insn) (index : ℕ) → index < length code → index_at code (place_of code index) ≡ Some index
place_found [] index within = absurd (omega arith)
place_found (first ∷ code) zero within = refl
place_found (first ∷ code) (suc index) within =
    let sum = word_count-cons first (take index code) in
    index_at-after first code (place_of (first ∷ code) (suc index)) (omega arith)
    ∙ ap (λ (at : ℕ). option_map (λ (i : ℕ). suc i) (index_at code at)) (omega arith)
    ∙ ap (option_map (λ (i : ℕ). suc i)) (place_found code index (omega arith))

-- an instruction that begins at the place of an index has this index

pub within_code : (code : List Insn) (index : ℕ) (insn : Insn) → instruction_at code (place_of code index) ≡ Some insn → index < length code
within_code code index insn is_insn = elim (cases_lt index (length code)) as (λ _. index < length code) [
  | inl below ↦ below
  | inr past ↦
      let all : place_of code index ≡ word_count code = ap word_count (take_all index code past) in
      let inside = instruction_within code (place_of code index) (ap is_some is_insn) in absurd (omega arith)
]

pub instruction_at-place_of : (code : List Insn) (index : ℕ) (insn : Insn) → instruction_at code (place_of code index) ≡ Some insn
    → insn ≡ get_or code index insn
instruction_at-place_of code index insn is_insn =
    let within = within_code code index insn is_insn in
    let begins = begins_at_its_place code index (get_or code index insn) within
    (get_or_default code index insn (get_or code index insn) within) in cc
