use Rattle.std.proofs.Common.{◌≡◌, ℕ, List, ◌++◌, Result, Ok, Err, OnOk, is_ok, if◌then◌else◌, option_to_list, ap, sym, subst, ◌∙◌}
use Rattle.bpf_insn.specs.Word.{IsWritten}
use Rattle.bpf_insn.proofs.EncoderLemmas.{appends_one, writes_one, writes_two}
use Rattle.bpf_insn.proofs.encoder.write_instruction.Goals as goal

-- what was appended, if it was
appended : {T E : Type 0} {P : Type 0} (result : Result T E) (new grown old : List ℕ) → new ≡ (if is_ok result then grown else old)
    → (new ≡ grown → P) → OnOk result P
appended (Ok x) new grown old is holds = holds is
appended (Err e) new grown old is holds = tt

pub returns-in-None : goal.returns-in-None
returns-in-None g c =
    writes_one c.args.instruction c.args.bytes.now.items _ (sym (ap option_to_list c.in-None.is) ∙ c.spelling-second.ensures.further)
    (appends_one _ c.args.bytes.now.items (subst (λ word. IsWritten word c.bytes.result) c.spelling-second.ensures.first c.bytes.ensures)
    c.in_ok-extend_from_slice.ensures.items)

pub returns-in-Some : goal.returns-in-Some
returns-in-Some g c =
    appended c.extend_from_slice-in-Some.result c.extend_from_slice-in-Some.new.self.items
    (c.extend_from_slice.new.self.items ++ c.bytes-in-Some.result) c.extend_from_slice.new.self.items
    c.extend_from_slice-in-Some.ensures.items
    (λ grown. writes_two c.args.instruction _ c.args.bytes.now.items c.extend_from_slice.new.self.items _
    (sym (ap option_to_list c.in-Some.is) ∙ c.spelling-second.ensures.further)
    (appends_one _ c.args.bytes.now.items (subst (λ word. IsWritten word c.bytes.result) c.spelling-second.ensures.first c.bytes.ensures)
    c.in_ok-extend_from_slice.ensures.items)
    (appends_one _ _ c.bytes-in-Some.ensures grown))
