-- What the assembler's values mean: a borrowed name is its bytes.
use Rattle.std.specs.Prelude.{ℕ, ℤ, List, option_map, Option, Result, Ok, Err}
use denote.Ref.{Bor}
use Rattle.bpf_insn.specs.declared.instruction.Source.{Source}
use Rattle.bpf_assembler.specs.declared.fault.TextFaultKind.{TextFaultKind}
use Rattle.bpf_assembler.specs.declared.statement.Statement.{Statement}
use Rattle.bpf_assembler.specs.declared.statement.Statement.TheVariants.{Blank, Label, Instruction}
use Rattle.bpf_assembler.specs.Statement as line

-- a borrowed name, if there is one
abbrev pub name_view : Option (Bor (List ℕ)) → Option (List ℕ)
name_view target = option_map (λ name. name.now) target

abbrev pub target_view : Result (ℤ × Option (Bor (List ℕ))) TextFaultKind → Result (ℤ × Option (List ℕ)) TextFaultKind
target_view (Ok target) = Ok (target.0, name_view target.1)
target_view (Err fault) = Err fault

abbrev pub comparand_view : Result (Source × (ℤ × Option (Bor (List ℕ)))) TextFaultKind → Result (Source × (ℤ × Option (List ℕ))) TextFaultKind
comparand_view (Ok read) = Ok (read.0, (read.1.0, name_view read.1.1))
comparand_view (Err fault) = Err fault

abbrev pub parts_view : Result (Bor (List ℕ) × Bor (List ℕ)) TextFaultKind → Result (List ℕ × List ℕ) TextFaultKind
parts_view (Ok parts) = Ok (parts.0.now, parts.1.now)
parts_view (Err fault) = Err fault

abbrev pub meaning_of : Statement → line.Statement
meaning_of Blank = line.Blank
meaning_of (Label name) = line.Label name.now
meaning_of (Instruction insn target) = line.Instruction insn (name_view target)

abbrev pub statement_view : Result Statement TextFaultKind → Result line.Statement TextFaultKind
statement_view (Ok statement) = Ok (meaning_of statement)
statement_view (Err fault) = Err fault
