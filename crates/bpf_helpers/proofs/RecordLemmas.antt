-- Calls that read nothing of a segment except its type 1 record.
use Rattle.std.proofs.Common.{◌≡◌, ℕ, List, IsTrue, refl, ap, ◌∙◌}
use Rattle.std.proofs.lemmas.Bool.{false≢true}
use Rattle.tl_segments.specs.Segment.{SegmentParts}
use Rattle.bpf_helpers.specs.Call.{Meaning, answers, call, does, meaning, group_of}
use Rattle.bpf_helpers.specs.Call.Meaning.{ReadsRecord, SetsScore}
use Rattle.bpf_helpers.specs.Helper.{reads_record_alone}
use Rattle.bpf_helpers.specs.Group as group
use Rattle.bpf_helpers.specs.declared.helper.Helper.{Helper}
use Rattle.bpf_helpers.proofs.CallLemmas.{group-is}

does_alike : (m : Meaning) (segment other : SegmentParts) (arguments bytes : List ℕ) (score : ℕ)
    → IsTrue (group.reads_record_alone (group_of m)) → segment.bytes ≡ other.bytes
    → does m segment arguments bytes score ≡ does m other arguments bytes score
does_alike (ReadsRecord computed) segment other arguments bytes score alone same =
    ap (λ (line : List ℕ). answers score (computed line arguments)) same
does_alike (SetsScore set) segment other arguments bytes score alone same = refl
does_alike otherwise segment other arguments bytes score alone same = absurd (false≢true alone)

pub calls_alike : (helper : Helper) (segment other : SegmentParts) (arguments bytes : List ℕ) (score : ℕ) → IsTrue (reads_record_alone helper)
    → segment.bytes ≡ other.bytes → call helper segment arguments bytes score ≡ call helper other arguments bytes score
calls_alike helper segment other arguments bytes score alone =
    does_alike (meaning helper) segment other arguments bytes score (ap group.reads_record_alone (group-is helper) ∙ alone)
