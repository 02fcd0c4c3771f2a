use Rattle.std.proofs.Common.{rules, ◌≡◌, ◌≤◌, ◌<◌, ◌+◌, ◌*◌, ◌∙◌, ap, length, slice_range, None, Some, MatchOption}
use Rattle.std.proofs.lemmas.List.{take_rest}
use Rattle.bpf_insn.specs.Word.{word_of}
use Rattle.bpf_insn.proofs.DecoderLemmas.{next_of, reads, refuses}
use Rattle.bpf_insn.proofs.decoder.read_instruction.Goals as goal

pub returns-clause-ok : goal.returns-clause-ok
returns-clause-ok c =
    let read : MatchOption c.get.result (c.map-next.result ≡ None) (λ x. c.map-next.result ≡ Some (word_of x.now)) = search rules in
    let got : MatchOption c.get.result (length c.args.bytes.now < (c.args.place + 1) * 8 + 8)
    (λ x. ((c.args.place + 1) * 8 + 8 ≤ length c.args.bytes.now)
    × (x.now ≡ slice_range c.args.bytes.now ((c.args.place + 1) * 8) ((c.args.place + 1) * 8 + 8))) = search rules in
    reads c.args.bytes.now c.instruction.result c.requires
    (c.read-first.ensures ∙ ap word_of (take_rest c.args.bytes.now (c.args.place * 8)))
    (next_of c.args.bytes.now c.args.place c.get.result _ c.requires read got) c.instruction.ensures.ok

pub returns-clause-err : goal.returns-clause-err
returns-clause-err c =
    let read : MatchOption c.get.result (c.map-next.result ≡ None) (λ x. c.map-next.result ≡ Some (word_of x.now)) = search rules in
    let got : MatchOption c.get.result (length c.args.bytes.now < (c.args.place + 1) * 8 + 8)
    (λ x. ((c.args.place + 1) * 8 + 8 ≤ length c.args.bytes.now)
    × (x.now ≡ slice_range c.args.bytes.now ((c.args.place + 1) * 8) ((c.args.place + 1) * 8 + 8))) = search rules in
    refuses c.args.bytes.now c.instruction.result c.requires
    (c.read-first.ensures ∙ ap word_of (take_rest c.args.bytes.now (c.args.place * 8)))
    (next_of c.args.bytes.now c.args.place c.get.result _ c.requires read got) c.instruction.ensures.err
