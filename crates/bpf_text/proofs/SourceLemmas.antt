-- Faults of a source in UTF-8.
use Rattle.std.proofs.Common.{◌≢◌, ℕ, List, refl}
use Rattle.std.specs.Prelude.{IsUtf8}
use Rattle.bpf_text.specs.SourceFault.{IsSourceFault}
use Rattle.bpf_assembler.specs.Text.{IsFirstFault}
use Rattle.bpf_text.specs.declared.fault.SourceFault.{SourceFault}
use Rattle.bpf_text.specs.declared.fault.SourceFault.TheVariants.{NotUtf8, Text}
use Rattle.bpf_assembler.specs.declared.fault.TextFault.{TextFault}
use Rattle.bpf_assembler.specs.declared.fault.TextFault.TheVariants.{InLine, Memory}

-- unless an allocation fails, such a source is refused for the first fault of its text
pub of_its_text : (P : SourceFault → Type 0) (source : List ℕ) (fault : SourceFault) → IsUtf8 source → IsSourceFault source fault
    → fault ≢ Text Memory
    → ((flaw : TextFault) → IsFirstFault source flaw → flaw ≢ Memory → P (Text flaw)) → P fault
of_its_text P source NotUtf8 valid is other each = absurd (is valid)
of_its_text P source (Text (InLine line flaw)) valid is other each = each (InLine line flaw) is.1 (λ e. cc)
of_its_text P source (Text Memory) valid is other each = absurd (other refl)
