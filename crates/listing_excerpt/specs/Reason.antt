-- Why a word or a jump is refused, in words.
use Rattle.std.specs.Prelude.{ℕ, ℤ, negsuc, ◌==◌, if◌then◌else◌, List, [], ◌++◌, codes, Option, Some, None}
use Rattle.std.specs.Fmt.{signed_decimal}
use Rattle.std.specs.Ordering.{int_eq}
use Rattle.bpf_flow.specs.Flow.{target_of}
use Rattle.bpf_flow.specs.declared.fault.FlowFault.{FlowFault}
use Rattle.bpf_flow.specs.declared.fault.FlowFault.TheVariants.{BackwardJump, OutOfProgram, IntoWide, LastNotExit}
use Rattle.bpf_insn.specs.Jump.{jump_distance}
use Rattle.bpf_insn.specs.declared.fault.WordFault.{WordFault}
use Rattle.bpf_insn.specs.declared.fault.WordFault.TheVariants.{UnknownOpcode, BadRegister, UnusedNotZero, BadWidth, CutWide, WritesFramePointer}
use Rattle.bpf_insn.specs.declared.instruction.Insn.{Insn}
use Rattle.bpf_insn.specs.declared.word.Word.{Word}

abbrev pub unused_field : List ℕ
unused_field = codes "a field that the instruction doesn't use isn't zero"

-- A call of anything but a helper function (RFC 9669, section 4.3.1). Clang writes the immediate -1 where it expects a linker to write the distance.
abbrev pub call_reason : ℕ → ℤ → List ℕ
call_reason source immediate =
    if source == 1
    then (if int_eq immediate (negsuc 0)
    then codes "calls another function (src_reg 1), whose place clang left to a linker"
    else codes "calls another function (src_reg 1)")
    else (if source == 2 then codes "calls a function of the kernel (src_reg 2)" else unused_field)

-- a wide load of anything but a number (section 5.4)
abbrev pub address_reason : ℕ → List ℕ
address_reason source = if source == 0 then unused_field else codes "loads the address of a map or a variable (src_reg isn't 0)"

abbrev pub unused_reason : Word → List ℕ
unused_reason word =
    if word.opcode == 0x85
    then call_reason word.source word.immediate
    else (if word.opcode == 0x18 then address_reason word.source else unused_field)

-- why no instruction begins with a word
abbrev pub word_reason : WordFault → Word → List ℕ
word_reason UnknownOpcode word = codes "no instruction has this opcode"
word_reason BadRegister word = codes "there is no register above r10"
word_reason UnusedNotZero word = unused_reason word
word_reason BadWidth word = codes "the instruction has no such width"
word_reason CutWide word = codes "the second word of the wide load is missing"
word_reason WritesFramePointer word = codes "writes r10, which is read-only"

abbrev pub flow_words : FlowFault → List ℕ
flow_words (BackwardJump place) = codes "jumps back"
flow_words (OutOfProgram place) = codes "jumps past the last word"
flow_words (IntoWide place) = codes "jumps to the second word of a wide load"
flow_words (LastNotExit place) = codes "the last instruction isn't exit"

-- where a jump by a distance leads
abbrev pub distance_text : ℕ → Option ℤ → List ℕ
distance_text place None = []
distance_text place (Some distance) = codes ", to place " ++ signed_decimal (target_of place distance)

-- where an instruction jumps to
abbrev pub target_text : ℕ → Option Insn → List ℕ
target_text place None = []
target_text place (Some insn) = distance_text place (jump_distance insn)

abbrev pub place_of : FlowFault → ℕ
place_of (BackwardJump place) = place
place_of (OutOfProgram place) = place
place_of (IntoWide place) = place
place_of (LastNotExit place) = place

-- why the flow is refused at an instruction
abbrev pub flow_reason : FlowFault → Option Insn → List ℕ
flow_reason (LastNotExit place) insn = flow_words (LastNotExit place)
flow_reason fault insn = flow_words fault ++ target_text (place_of fault) insn
