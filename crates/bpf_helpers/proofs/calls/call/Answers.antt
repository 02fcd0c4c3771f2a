-- What a call writes into the frame.
use Rattle.std.proofs.Common.{◌≡◌, ◌≤◌, ◌+◌, slice_get, length, arith}
use Rattle.tl_segments.specs.Segment.{names_of}
use Rattle.bpf_helpers.specs.Call.{first, second, third}
use Rattle.bpf_helpers.proofs.WriteLemmas.{put_mid-first_bytes}
use Rattle.bpf_helpers.proofs.calls.call.Goals as goal

pub returns-in-NameCopy-clause-frame : goal.returns-in-NameCopy-clause-frame
returns-in-NameCopy-clause-frame g c =
    let within : second c.args.arguments + third c.args.arguments ≤ length c.args.frame.now =
    let long : length c.args.frame.now ≡ 512 = omega arith in
    rw long (let within = c.requires.within in rw c.in-NameCopy.is at within) in
    rw c.in-NameCopy.is
    (put_mid-first_bytes c.args.frame.now (slice_get (names_of c.args.segment.now) (first c.args.arguments)) (second c.args.arguments)
    (third c.args.arguments) within c.name_copy.auto.bytes c.name_copy.ensures.bytes)
