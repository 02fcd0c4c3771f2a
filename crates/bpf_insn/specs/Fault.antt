-- The first fault of words that are no instruction (RFC 9669, sections 3 to 5). The order of the tests is this project's own.
use Rattle.std.specs.Prelude.{◌==◌, ◌&&◌, pos, List, [], ◌∷◌, Option, Some, None, if◌then◌else◌}
use Rattle.std.specs.Ordering.{int_eq}
use Rattle.bpf_insn.specs.Row.{fault}
use Rattle.bpf_insn.specs.Opcode.{form_of, row}
use Rattle.bpf_insn.specs.declared.opcode_form.OpcodeForm.{OpcodeForm}
use Rattle.bpf_insn.specs.declared.opcode_form.OpcodeForm.TheVariants.{WideLoad}
use Rattle.bpf_insn.specs.declared.word.Word.{Word}
use Rattle.bpf_insn.specs.declared.fault.WordFault.{WordFault}
use Rattle.bpf_insn.specs.declared.fault.WordFault.TheVariants.{UnknownOpcode, UnusedNotZero, CutWide}

-- the second word of a wide load contains only an immediate (section 5.4)
abbrev pub second_fault : Word → Option WordFault
second_fault word =
    if word.opcode == 0 && word.destination == 0 && word.source == 0 && int_eq word.offset (pos 0) then None else Some UnusedNotZero

-- a wide load's first fault, from that of its first word and the words that follow
abbrev pub wide_fault : Option WordFault → List Word → Option WordFault
wide_fault first [] = Some CutWide
wide_fault None (next ∷ rest) = second_fault next
wide_fault (Some fault) (next ∷ rest) = Some fault

abbrev pub form_fault : Option OpcodeForm → Word → List Word → Option WordFault
form_fault None word rest = Some UnknownOpcode
form_fault (Some WideLoad) word rest = wide_fault (fault (row WideLoad) word) rest
form_fault (Some form) word rest = fault (row form) word

-- the first fault, if any, of the instruction that would begin with this word and continue with the next ones
abbrev pub first_fault : Word → List Word → Option WordFault
first_fault word rest = form_fault (form_of word.opcode) word rest
