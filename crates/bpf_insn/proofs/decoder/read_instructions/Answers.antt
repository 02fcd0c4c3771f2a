use Rattle.std.proofs.Common.{◌≡◌, ◌+◌, ◌++◌, ◌∷◌, [], arith, refl, ◌∙◌, sym, ap}
use Rattle.bpf_insn.specs.Word.{first_words}
use Rattle.bpf_insn.specs.Code.{code_words}
use Rattle.bpf_insn.proofs.DecoderLemmas.{within, reads_one, finds_fault, push_fault}
use Rattle.bpf_insn.proofs.decoder.read_instructions.Goals as goal

pub loop-place-init : goal.loop-place-init
unfolding first_words
loop-place-init g c = record { words = sym (ap code_words c.in_ok-code.ensures); within = omega arith; count = refl }

pub returns-in-Err-clause-err : goal.returns-in-Err-clause-err
returns-in-Err-clause-err g c = (
  c.requires.whole,
  c.requires.within,
  finds_fault c.args.bytes.now c.loop-place.place c.loop-place.code c.in-Err.fault c.loop-place-test.true c.loop-place.invariant.words
      c.in-Err.ensures.err,
)

pub loop-place-preserved : goal.loop-place-preserved
loop-place-preserved g c =
    let next : first_words (c.loop-place.place + c.words-place.result) c.args.bytes.now ≡ code_words
    (c.loop-place.code ++ c.in-Ok.instruction ∷ []) =
    ap (λ n. first_words (c.loop-place.place + n) c.args.bytes.now) c.words-place.ensures
    ∙ reads_one c.args.bytes.now c.loop-place.place c.loop-place.code c.in-Ok.instruction c.loop-place-test.true
    c.loop-place.invariant.words c.in-Ok.ensures.ok in
    let fits = within c.args.bytes.now c.loop-place.place c.in-Ok.instruction c.loop-place-test.true c.in-Ok.ensures.ok in
    record { words = next ∙ sym (ap code_words c.in-Ok-push.ensures.result); within = omega (arith, c.words-place.ensures); count = refl }

pub returns-in-Err-push-clause-err : goal.returns-in-Err-push-clause-err
returns-in-Err-push-clause-err g c =
    push_fault c.args.bytes.now c.loop-place.place c.loop-place.code c.in-Ok.instruction c.loop-place-test.true c.loop-place.invariant.words
    c.in-Ok.ensures.ok c.in-Err-push.fault c.requires.within c.in-Err-push.ensures.result
