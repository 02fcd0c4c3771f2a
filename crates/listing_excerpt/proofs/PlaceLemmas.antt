-- The place of a fault is one of the program's.
use Rattle.std.proofs.Common.{◌≡◌, ℕ, ◌/◌, ◌<◌, List, [], ◌∷◌, length, ap, arith, length-append}
use Rattle.std.specs.Prelude.{is_some}
use Rattle.bpf_flow.specs.Flow as flow
use Rattle.bpf_flow.specs.declared.fault.FlowFault.{FlowFault}
use Rattle.bpf_flow.specs.declared.fault.FlowFault.TheVariants.{BackwardJump, OutOfProgram, IntoWide, LastNotExit}
use Rattle.bpf_insn.proofs.CodeLemmas.{length-spelling_positive}
use Rattle.bpf_insn.proofs.PlaceLemmas.{instruction_within, word_count-append, word_count-one}
use Rattle.bpf_insn.proofs.WordLemmas.{length-first_words}
use Rattle.bpf_insn.specs.Code.{HasFaultAt, code_words, word_count}
use Rattle.bpf_insn.specs.Word.{words_of}
use Rattle.bpf_insn.specs.declared.fault.WordFault.{WordFault}
use Rattle.bpf_insn.specs.declared.instruction.Insn.{Insn}
use Rattle.listing_excerpt.specs.Reason.{place_of}

pub word-within : (bytes : List ℕ) (place : ℕ) (fault : WordFault) → HasFaultAt bytes place fault → place < length bytes / 8
word-within bytes place fault has =
    let count : length (words_of bytes) ≡ length bytes / 8 = length-first_words (length bytes / 8) bytes in
    let sum = ap length has.3 in
    let split = length-append (code_words has.0) (has.1 ∷ has.2) in
    omega (arith, count, sum, split, has.4)

pub flow-within : (code : List Insn) (fault : FlowFault) → flow.IsFirstFault code fault → place_of fault < word_count code
flow-within code (BackwardJump place) is = instruction_within code place (ap is_some is.jumps.is_insn)
flow-within code (OutOfProgram place) is = instruction_within code place (ap is_some is.jumps.is_insn)
flow-within code (IntoWide place) is = instruction_within code place (ap is_some is.jumps.is_insn)
flow-within code (LastNotExit place) is =
    let ends = ap word_count is.1.ends in
    let sum = word_count-append is.1.before (is.1.last ∷ []) in
    let one = word_count-one is.1.last in
    let some = length-spelling_positive is.1.last in
    omega (arith, ends, sum, one, some, is.1.at)
