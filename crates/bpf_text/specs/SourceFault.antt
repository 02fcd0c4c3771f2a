-- Why a source has no words.
use Rattle.std.specs.Prelude.{ℕ, List, IsUtf8}
use Rattle.bpf_assembler.specs.Text.{IsFirstFault}
use Rattle.bpf_assembler.specs.declared.fault.TextFault.TheVariants.{Memory}
use Rattle.bpf_text.specs.declared.fault.SourceFault.{SourceFault}
use Rattle.bpf_text.specs.declared.fault.SourceFault.TheVariants.{NotUtf8, Text}

-- The source isn't UTF-8, or this is its text's first fault. (If an allocation fails, any source may be refused.)
abbrev pub IsSourceFault : List ℕ → SourceFault → Type 0
IsSourceFault source NotUtf8 = ¬ (IsUtf8 source)
IsSourceFault source (Text Memory) = Unit {0}
IsSourceFault source (Text fault) = IsUtf8 source × IsFirstFault source fault
