use Rattle.std.proofs.Common.{◌≤◌, ◌+◌, length}
use Rattle.bpf_insn.specs.declared.code.TheConstants.{MAX_WORDS}
use Rattle.bpf_assembler.specs.Notes.{HasRead, places_in}
use Rattle.bpf_assembler.proofs.assembler.Notes.read.Given as goal

abbrev pub invariant-loop-rest : goal.invariant-loop-rest
invariant-loop-rest g l = record {
  read : HasRead l.text l.rest l.number l.notes.items.items (places_in l.notes.labels) l.notes.words;
  few : l.number + length l.rest ≤ length l.text;
  within : l.notes.words ≤ MAX_WORDS;
}

abbrev pub decreases-loop-rest : goal.decreases-loop-rest
decreases-loop-rest g l = length l.rest
