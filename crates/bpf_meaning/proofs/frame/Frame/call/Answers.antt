-- The helper function reads written bytes, and the bytes that it writes are marked.
use Rattle.std.proofs.Common.{◌≡◌, ℕ, ◌+◌, ◌-◌, ◌≤◌, List, None, length, take, drop, sym, ap, ◌∙◌, subst, arith}
use Rattle.std.proofs.lemmas.List.{length-take, length-drop}
use Rattle.bpf_insn.specs.declared.memory.TheConstants.{FRAME_LENGTH}
use Rattle.bpf_helpers.specs.Call.{Called, LieWithin, bytes_read, call, second, third, written_length}
use Rattle.bpf_helpers.specs.Helper.{signature}
use Rattle.bpf_helpers.specs.Group.{frame_use}
use Rattle.bpf_helpers.specs.declared.signature.FrameUse.{FrameUse}
use Rattle.bpf_helpers.specs.declared.signature.FrameUse.TheVariants.{Writes}
use Rattle.bpf_helpers.specs.declared.signature.Signature.{Signature}
use Rattle.bpf_helpers.proofs.CallLemmas.{written-length, written-nothing}
use Rattle.bpf_insn.specs.Frame.{FrameContents, overwrite_slots}
use Rattle.bpf_meaning.specs.Memory.{write_bytes, written_bytes}
use Rattle.bpf_meaning.proofs.MemoryLemmas.{call_writes, call_writes_nothing, read_alike}
use Rattle.bpf_meaning.proofs.frame.Frame.call.Goals as goal

-- a call that reads the same does the same
alike : (f : List ℕ → Called) (frame : FrameContents) (at : ℕ) (read bytes : List ℕ) (new : FrameContents) → read ≡ bytes
    → new ≡ write_bytes frame at (f read).written → new ≡ write_bytes frame at (f bytes).written
alike f frame at read bytes new same is = subst (λ (b : List ℕ). new ≡ write_bytes frame at (f b).written) same is

pub returns-in-Writes-clause-frame : goal.returns-in-Writes-clause-frame
returns-in-Writes-clause-frame g c =
    let arguments = c.args.arguments in
    let uses : c.frame_use.result ≡ frame_use (signature c.args.helper).group =
    c.frame_use.ensures ∙ ap (λ (s : Signature). frame_use s.group) c.signature.ensures in
    let use_is : frame_use (signature c.args.helper).group ≡ Writes = sym uses ∙ c.in-Writes.is in
    let read = bytes_read (frame_use (signature c.args.helper).group) arguments c.self.inside.bytes in
    let same = read_alike c.self.inside.marks c.self.inside.bytes (omega arith) (frame_use (signature c.args.helper).group) arguments
    c.self.view_is c.requires.written in
    let does = λ (b : List ℕ). call c.args.helper c.args.segment.now arguments b c.args.score.now in
    let long : length (does read).written ≡ third arguments =
    written-length c.args.helper c.args.segment.now arguments read c.args.score.now c.bytes-bytes.ensures.whole c.requires.meets
    ∙ ap (λ (u : FrameUse). written_length u arguments) use_is in
    let within : second arguments + third arguments ≤ FRAME_LENGTH =
    subst (λ (u : FrameUse). LieWithin u arguments) use_is c.requires.meets.within in
    let part : length (take (second arguments + third arguments - second arguments) (drop (second arguments) c.self.inside.marks)) ≡ length
    (does read).written =
    simp (length-take, length-drop) (omega arith) in
    alike does c.args.self.now (second arguments) read
    (written_bytes (bytes_read (frame_use (signature c.args.helper).group) arguments c.args.self.now.bytes)) _ same
    (c.clear_slots.ensures
    ∙ ap (λ (frame : FrameContents). let new : FrameContents = record frame
    { slots = overwrite_slots None frame.slots (second arguments) (third arguments) } in new)
    (call_writes c.self.inside.marks c.self.inside.bytes (omega arith) (second arguments)
    (second arguments + third arguments - second arguments)
    (does read).written (omega arith) part c.self.view_is c.call-answer.ensures.frame (c.fill.ensures.after (λ y e. e)))
    ∙ ap (λ (count : ℕ). let new : FrameContents = record (write_bytes c.args.self.now (second arguments) (does read).written)
    { slots = overwrite_slots None c.args.self.now.slots (second arguments) count } in new) (sym long))

pub returns-in_default : goal.returns-in_default
returns-in_default g c =
    let arguments = c.args.arguments in
    let read = bytes_read (frame_use (signature c.args.helper).group) arguments c.self.inside.bytes in
    let same = read_alike c.self.inside.marks c.self.inside.bytes (omega arith) (frame_use (signature c.args.helper).group) arguments
    c.self.view_is c.requires.written in
    let does = λ (b : List ℕ). call c.args.helper c.args.segment.now arguments b c.args.score.now in
    let uses : c.frame_use.result ≡ frame_use (signature c.args.helper).group =
    c.frame_use.ensures ∙ ap (λ (s : Signature). frame_use s.group) c.signature.ensures in
    let none = written-nothing c.args.helper c.args.segment.now arguments read c.args.score.now
    (λ is. c.in_default.not-Writes (uses ∙ is)) in
    record {
      answer = c.call-answer.ensures.answer ∙ ap (λ (b : List ℕ). (does b).answer) same;
      frame =
          alike does c.args.self.now (second arguments) read
          (written_bytes (bytes_read (frame_use (signature c.args.helper).group) arguments c.args.self.now.bytes)) _ same
          (call_writes_nothing c.self.inside.marks c.self.inside.bytes (second arguments) c.self.view_is none c.call-answer.ensures.frame);
      score = c.call-answer.ensures.score ∙ ap (λ (b : List ℕ). (does b).score) same;
    }
