-- The refusals of a county's files.
use Rattle.std.specs.Prelude.{ℕ, codes}
use Rattle.refusals.specs.Refusal.{RefusalParts, at_file_line, memory, refused}
use Rattle.tl_records.specs.LineFaultKind as line_fault_kind
use Rattle.tl_segments.specs.CountyFile.{record_type}
use Rattle.tl_segments.specs.declared.fault.CountyFile.{CountyFile}
use Rattle.tl_segments.specs.declared.fault.CountyFile.TheVariants.{Rt2, Rt4, Rt6}
use Rattle.tl_segments.specs.declared.fault.LoadFault.{LoadFault}
use Rattle.tl_segments.specs.declared.fault.LoadFault.TheVariants.{Line, TooManyNames, TooManyRanges, TooManyPoints, RepeatedSequence, Memory}

-- a refusal at a line of a county's file
abbrev pub in_file : CountyFile → ℕ → RefusalParts → RefusalParts
in_file file line refusal = at_file_line (record_type file) line refusal

abbrev pub refusal : LoadFault → RefusalParts
refusal (Line file fault) = in_file file fault.line (line_fault_kind.refusal fault.flaw)
refusal (TooManyNames line) = in_file Rt4 line (refused 6 (codes "TooManyNames"))
refusal (TooManyRanges line) = in_file Rt6 line (refused 7 (codes "TooManyRanges"))
refusal (RepeatedSequence line) = in_file Rt2 line (refused 121 (codes "RepeatedSequence"))
refusal (TooManyPoints line) = in_file Rt2 line (refused 122 (codes "TooManyPoints"))
refusal Memory = memory
