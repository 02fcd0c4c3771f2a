-- Which instruction bytes begin with.
use Rattle.std.proofs.Common.{◌≡◌, ◌⊎◌, inl, inr, ℕ, ◌*◌, ◌/◌, ◌≤◌, List, [], ◌∷◌, length, take, refl, sym, ap, ◌∙◌, arith, subst}
use Rattle.std.specs.Prelude.{Option, Some, None}
use Rattle.std.proofs.lemmas.List.{length-take, length-take-le}
use Rattle.bpf_insn.proofs.CodeLemmas.{word_count_of}
use Rattle.bpf_insn.proofs.PlaceLemmas.{word_count-one}
use Rattle.bpf_insn.specs.Code.{IsCodeOf, spelling}
use Rattle.bpf_insn.specs.declared.instruction.Insn.{Insn}
use Rattle.bpf_insn.specs.declared.instruction.Insn.TheVariants as insn
use Rattle.listing_excerpt.specs.Reading.{Begins, IsOnly, sole}

-- an instruction has one word or two
pub one-or-two : (insn : Insn) → (length (spelling insn) ≡ 1) ⊎ (length (spelling insn) ≡ 2)
one-or-two (insn.WideLoad destination value next) = inr refl
one-or-two insn = inl refl

-- an instruction's words, from the number of its bytes
pub words-are : (bytes : List ℕ) (insn : Insn) → IsCodeOf bytes (insn ∷ []) → length (spelling insn) ≡ length bytes / 8
words-are bytes insn is = sym (word_count-one insn) ∙ word_count_of bytes (insn ∷ []) is.words

-- the first words of the bytes are an instruction
pub begins-with : (count : ℕ) (bytes : List ℕ) (insn : Insn) → count * 8 ≤ length bytes → IsCodeOf (take (count * 8) bytes) (insn ∷ [])
    → Begins bytes (Some insn)
begins-with count bytes insn long is =
    let taken : length (take (count * 8) bytes) ≡ count * 8 = length-take-le (count * 8) bytes long in
    let words : length (spelling insn) ≡ length (take (count * 8) bytes) / 8 = words-are (take (count * 8) bytes) insn is in
    let same : count ≡ length (spelling insn) = omega (arith, taken, words) in
    subst (λ (n : ℕ). IsCodeOf (take (n * 8) bytes) (insn ∷ [])) same is

-- no instruction of one word or of two begins there
none-of : (bytes : List ℕ) (insn : Insn) → (length (spelling insn) ≡ 1) ⊎ (length (spelling insn) ≡ 2) → IsOnly (take 8 bytes) None
    → ¬ (IsCodeOf (take 16 bytes) (insn ∷ [])) → ¬ (IsCodeOf (take (length (spelling insn) * 8) bytes) (insn ∷ []))
none-of bytes insn (inl one) not_one not_two is = not_one insn (subst (λ (n : ℕ). IsCodeOf (take (n * 8) bytes) (insn ∷ [])) one is)
none-of bytes insn (inr two) not_one not_two is = not_two (subst (λ (n : ℕ). IsCodeOf (take (n * 8) bytes) (insn ∷ [])) two is)

-- there is a second word
pub begins-wide : (bytes : List ℕ) (found : Option Insn) → 16 ≤ length bytes → IsOnly (take 8 bytes) None → IsOnly (take 16 bytes) found
    → Begins bytes found
begins-wide bytes (Some insn) long not_one is = begins-with 2 bytes insn long is
begins-wide bytes None long not_one is = λ insn is_code. none-of bytes insn (one-or-two insn) not_one (is insn) is_code

-- a code with one instruction has the bytes of exactly this one; any other has those of several
pub sole-only : (bytes : List ℕ) (code : List Insn) → IsCodeOf bytes code → ((other : List Insn) → IsCodeOf bytes other → code ≡ other)
    → IsOnly bytes (sole code)
sole-only bytes [] is only = λ insn is_code. absurd (let no = ap length (only (insn ∷ []) is_code) in omega (arith, no))
sole-only bytes (first ∷ []) is only = is
sole-only bytes (first ∷ next ∷ code) is only = λ insn is_code. absurd (let no = ap length (only (insn ∷ []) is_code) in omega (arith, no))
