-- Properties of a helper function that follow from its group.
use Rattle.std.specs.Prelude.{Bool, true, false}
use Rattle.bpf_helpers.specs.declared.signature.FrameUse.{FrameUse}
use Rattle.bpf_helpers.specs.declared.signature.FrameUse.TheVariants.{Nothing, Writes, Reads}
use Rattle.bpf_helpers.specs.declared.signature.Group.{Group}
use Rattle.bpf_helpers.specs.declared.signature.Group.TheVariants.{ReadsRecord, ReadsSegment, ComparesFrame, CopiesIntoFrame, SetsScore}

-- what a call does with the frame
abbrev pub frame_use : Group → FrameUse
frame_use ReadsRecord = Nothing
frame_use ReadsSegment = Nothing
frame_use ComparesFrame = Reads
frame_use CopiesIntoFrame = Writes
frame_use SetsScore = Nothing

-- a call reads nothing of the segment except its type 1 record
abbrev pub reads_record_alone : Group → Bool
reads_record_alone ReadsRecord = true
reads_record_alone ReadsSegment = false
reads_record_alone ComparesFrame = false
reads_record_alone CopiesIntoFrame = false
reads_record_alone SetsScore = true
