-- The words at the start of a program hold the state at its start.
use Rattle.std.proofs.Common.{◌≡◌, ℕ, zero, suc, List, length, get_or, refl, ◌∙◌, arith}
use Rattle.std.specs.Prelude.{slice_set}
use Rattle.std.proofs.Math.ListN.{length-set}
use Rattle.std.proofs.lemmas.Grind.{common_steps}
use Rattle.bpf_insn.specs.declared.memory.TheConstants.{FRAME_LENGTH, SLOTS}
use Rattle.bpf_meaning.specs.State.{register_value, start}
use Rattle.bpf_machine.specs.Words.{Holds, IsWordOf}
use Rattle.bpf_machine.proofs.WordMemory.{unwritten-bytes_of}
use Rattle.bpf_machine.proofs.WordSlots.{none-words_of}

first_set : (words : List ℕ) → length words ≡ 11 → get_or (slice_set (slice_set words 1 0) 10 512) 1 0 ≡ 0
first_set words count = grind (arith, common_steps)

last_set : (words : List ℕ) → length words ≡ 11 → get_or (slice_set (slice_set words 1 0) 10 512) 10 0 ≡ 512
last_set words count = grind (arith, common_steps)

registers_hold : (words : List ℕ) → length words ≡ 11 → (register : ℕ)
    → IsWordOf (register_value start register) (get_or (slice_set (slice_set words 1 0) 10 512) register 0)
registers_hold words count (suc zero) = (first_set words count, refl)
registers_hold words count (suc (suc (suc (suc (suc (suc (suc (suc (suc (suc zero)))))))))) = (last_set words count, refl)
registers_hold words count register = tt

pub start_held : (words frame : List ℕ) → length words ≡ 11 → length frame ≡ FRAME_LENGTH
    → Holds start (record { registers = slice_set (slice_set words 1 0) 10 512; frame = frame; score = 0 })
start_held words frame count whole = record {
  count = length-set (slice_set words 1 0) 10 512 ∙ length-set words 1 0 ∙ count;
  registers = registers_hold words count;
  whole = whole;
  frame = unwritten-bytes_of FRAME_LENGTH frame;
  slots = none-words_of SLOTS frame;
  score = refl;
}
