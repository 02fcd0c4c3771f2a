-- Codes that read nothing of a segment but its type 1 record. Loads read nothing else (RFC 9669, section 5), so this depends on which helper
-- functions are called.
use Rattle.std.specs.Prelude.{Bool, true, List, Option, Some, None}
use Rattle.std.specs.Int.{cast_unsigned, w32}
use Rattle.std.specs.List.{list_all}
use Rattle.bpf_insn.specs.declared.instruction.Insn.{Insn}
use Rattle.bpf_insn.specs.declared.instruction.Insn.TheVariants.{Call}
use Rattle.bpf_helpers.specs.Helper as helper
use Rattle.bpf_helpers.specs.Helper.{by_number}
use Rattle.bpf_helpers.specs.declared.helper.Helper.{Helper}

-- a call of a helper function reads only the record; if there is no such function, nothing is called
abbrev pub call_reads_record_alone : Option Helper → Bool
call_reads_record_alone None = true
call_reads_record_alone (Some called) = helper.reads_record_alone called

-- an instruction reads only the record: only a call may read anything else, and its immediate is the number of the helper function (section 4.3.1)
abbrev pub instruction_reads_record_alone : Insn → Bool
instruction_reads_record_alone (Call immediate) = call_reads_record_alone (by_number (cast_unsigned w32 immediate))
instruction_reads_record_alone insn = true

-- all instructions of a code read only the record
abbrev pub reads_record_alone : List Insn → Bool
reads_record_alone code = list_all instruction_reads_record_alone code
