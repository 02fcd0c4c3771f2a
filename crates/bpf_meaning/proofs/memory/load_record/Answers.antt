use Rattle.std.proofs.Common.{◌≡◌, ℕ, ◌+◌, ◌-◌, length, map, IsTrue, Result, Ok, ap, subst, ◌∙◌, arith}
use Rattle.std.proofs.lemmas.List.{length-map}
use Rattle.std.proofs.lemmas.Int.{to_z-of_z}
use Rattle.bpf_insn.specs.declared.value.Value.{Value}
use Rattle.bpf_insn.specs.declared.value.Value.TheVariants.{Number}
use Rattle.bpf_insn.specs.Frame.{Byte, number_of}
use Rattle.bpf_meaning.specs.Effect.{lie_within}
use Rattle.bpf_meaning.specs.declared.cause.Cause.{Cause}
use Rattle.bpf_meaning.proofs.StepLemmas.{load_inside, part_of_record}
use Rattle.bpf_meaning.proofs.memory.load_record.Goals as goal

pub returns : goal.returns
returns c =
    let fits = c.ranges.offset in
    let inside = simp to_z-of_z at c.in-Some.ensures in
    let long : length c.args.bytes.now ≡ length (map Byte c.args.bytes.now) = simp length-map in
    let part = part_of_record c.args.bytes.now c.in-Some.at c.load_length-count.result
    (c.in-Some.at + c.load_length-count.result - c.in-Some.at) (omega arith) in
    ap (λ (n : ℕ). let r : Result Value Cause = Ok (Number n) in r) c.extend.ensures
    ∙ load_inside c.args.format (map Byte c.args.bytes.now) c.args.offset (record {
      at = c.in-Some.at;
      place = inside.1;
      count = c.load_length-count.result;
      is = c.load_length-count.ensures.value;
      inside = subst (λ (n : ℕ). IsTrue (lie_within c.args.offset c.load_length-count.result n)) long inside.0;
      number = c.little_endian-number.ensures ∙ ap number_of part;
    })
