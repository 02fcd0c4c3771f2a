-- Places in a code that ends in EXIT: what follows an instruction, and how many instructions are left from a place on.
use Rattle.std.proofs.Common.{◌≡◌, ℕ, zero, suc, ◌+◌, ◌-◌, ◌<◌, ◌≤◌, IsSome, List, [], ◌∷◌, length, Some, refl, sym, ◌∙◌, subst, inl, inr}
use Rattle.std.proofs.Common.{arith}
use Rattle.std.proofs.lemmas.Bool.{cases_lt}
use Rattle.bpf_insn.specs.Code.{instruction_at, spelling}
use Rattle.bpf_insn.specs.declared.instruction.Insn.{Insn}
use Rattle.bpf_insn.specs.declared.instruction.Insn.TheVariants.{Exit}
use Rattle.bpf_insn.proofs.PlaceLemmas.{instruction_at-inside, instruction_at-after}
use Rattle.bpf_insn.proofs.SpanLemmas.{next_begins}
use Rattle.bpf_flow.specs.Flow.{EndsInExit}

-- an instruction other than EXIT is followed by another one
pub is_followed : (code : List Insn) → EndsInExit code → (place : ℕ) (insn : Insn) → instruction_at code place ≡ Some insn
    → (insn ≡ Exit → ⊥) → IsSome (instruction_at code (place + length (spelling insn)))
is_followed code ends place insn is_insn other =
    subst (λ (c : List Insn). instruction_at c place ≡ Some insn → IsSome (instruction_at c (place + length (spelling insn)))) (sym ends.1)
    (λ there. next_begins ends.0 Exit place insn there other) is_insn

-- an instruction found after the start of the first one is after its words, and in the rest of the code

insn_in_rest : (first : Insn) (code : List Insn) (place : ℕ) (insn : Insn) → instruction_at (first ∷ code) (suc place) ≡ Some insn
    → length (spelling first) ≤ suc place
insn_in_rest first code place insn is_insn = elim (cases_lt (suc place) (length (spelling first))) as
    (λ _. length (spelling first) ≤ suc place) [
      | inl below ↦ let nothing = instruction_at-inside first code (suc place) (omega arith) below in absurd (let no : ⊥ = cc in no)
      | inr past ↦ past
    ]

insn_at-rest : (first : Insn) (code : List Insn) (place : ℕ) (insn : Insn) → instruction_at (first ∷ code) (suc place) ≡ Some insn
    → instruction_at code (suc place - length (spelling first)) ≡ Some insn
insn_at-rest first code place insn is_insn = sym (instruction_at-after first code (suc place)
    (insn_in_rest first code place insn is_insn)) ∙ is_insn

-- the number of instructions that begin at a place or after it
abbrev pub count_from : List Insn → ℕ → ℕ
count_from [] place = 0
count_from (insn ∷ code) zero = suc (length code)
count_from (insn ∷ code) (suc place) = count_from code (suc place - length (spelling insn))

pub count_from-start : (code : List Insn) → count_from code 0 ≡ length code
count_from-start [] = refl
count_from-start (insn ∷ code) = refl

count_from-most : (code : List Insn) (place : ℕ) → count_from code place ≤ length code
count_from-most [] place = omega arith
count_from-most (insn ∷ code) zero = omega arith
count_from-most (insn ∷ code) (suc place) = let rest = count_from-most code (suc place - length (spelling insn)) in omega arith

-- fewer instructions are left from a later place on
pub count_from-later : (code : List Insn) (place later : ℕ) (insn : Insn) → instruction_at code place ≡ Some insn → place < later
    → count_from code later < count_from code place
count_from-later [] place later insn is_insn less = absurd (let no : ⊥ = cc in no)
count_from-later (first ∷ code) zero zero insn is_insn less = absurd (omega arith)
count_from-later (first ∷ code) zero (suc later) insn is_insn less = let rest = count_from-most code (suc later - length (spelling first)) in
    omega arith
count_from-later (first ∷ code) (suc place) zero insn is_insn less = absurd (omega arith)
count_from-later (first ∷ code) (suc place) (suc later) insn is_insn less =
    let past = insn_in_rest first code place insn is_insn in
    count_from-later code (suc place - length (spelling first)) (suc later - length (spelling first)) insn
    (insn_at-rest first code place insn is_insn) (omega arith)
