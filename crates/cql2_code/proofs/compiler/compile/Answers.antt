use Rattle.std.proofs.Common.{◌≡◌, ℕ, ◌-◌, true, List, [], ◌++◌, refl, sym, ap, ◌∙◌, subst}
use Rattle.std.proofs.lemmas.Result.{IfErr-weaker}
use Rattle.bpf_flow.specs.Flow.{IsForward}
use Rattle.bpf_insn.specs.Code.{word_count}
use Rattle.bpf_insn.specs.declared.instruction.Insn.{Insn}
use Rattle.bpf_verify.specs.Annotation.{HasGoodAnnotation}
use Rattle.cql2_code.specs.Chosen.{Chooses}
use Rattle.cql2_code.specs.declared.fault.CompileFault.TheVariants.{Memory, TooLong}
use Rattle.cql2_code.specs.Layout.{IsTooLong, MayBeRefused, answer_code, begun, chosen_code, program, score_code}
use Rattle.cql2_code.specs.Lowering.{asks_whether}
use Rattle.cql2_code.proofs.Compiled.{accepted, chooses, chosen_words, end_refused, end_written, forward, if_ok, program_written, question_refused}
use Rattle.cql2_code.proofs.Refused.{refused_by}
use Rattle.cql2_code.proofs.compiler.compile.Goals as goal

pub returns-in_err-prepend_answer-clause-err : goal.returns-in_err-prepend_answer-clause-err
returns-in_err-prepend_answer-clause-err g c =
    let score = c.args.score in
    let last = ap (λ (rest : List Insn). chosen_code score ++ (answer_code 0 ++ rest)) (sym c.new-code.ensures) in
    refused_by c.from_residual.result c.from_residual.ensures.1
    (end_refused score (asks_whether c.args.filter.now true) (chosen_code score) last c.in_err-prepend_answer.ensures)

pub returns-in_err-prepend_answer-2-clause-err : goal.returns-in_err-prepend_answer-2-clause-err
returns-in_err-prepend_answer-2-clause-err g c =
    let score = c.args.score in
    let first : c.prepend_answer.new.code ≡ answer_code 0 =
    c.in_ok-prepend_answer.ensures ∙ ap (λ (rest : List Insn). answer_code 0 ++ rest) c.new-code.ensures in
    refused_by c.from_residual-in_err-prepend_answer-2.result c.from_residual-in_err-prepend_answer-2.ensures.1
    (end_refused score (asks_whether c.args.filter.now true) (score_code score) (sym (end_written score first refl refl))
    c.in_err-prepend_answer-2.ensures)

pub returns-in_err-prepend_score-clause-err : goal.returns-in_err-prepend_score-clause-err
returns-in_err-prepend_score-clause-err g c =
    let score = c.args.score in
    let first : c.prepend_answer.new.code ≡ answer_code 0 =
    c.in_ok-prepend_answer.ensures ∙ ap (λ (rest : List Insn). answer_code 0 ++ rest) c.new-code.ensures in
    refused_by c.from_residual-in_err-prepend_score.result c.from_residual-in_err-prepend_score.ensures.1
    (end_refused score (asks_whether c.args.filter.now true) [] (sym (end_written score first c.in_ok-prepend_answer-2.ensures refl))
    c.in_err-prepend_score.ensures)

pub returns-in_err-prepend_filter-clause-err : goal.returns-in_err-prepend_filter-clause-err
returns-in_err-prepend_filter-clause-err g c =
    let score = c.args.score in
    let first : c.prepend_answer.new.code ≡ answer_code 0 =
    c.in_ok-prepend_answer.ensures ∙ ap (λ (rest : List Insn). answer_code 0 ++ rest) c.new-code.ensures in
    let end = end_written score first c.in_ok-prepend_answer-2.ensures c.in_ok-prepend_score.ensures in
    let skip : c.words.result - c.words-words.result ≡ word_count (chosen_code score) =
    ap (λ (n : ℕ). n - c.words-words.result) c.words.ensures.value
    ∙ ap (λ (n : ℕ). word_count c.prepend_score.new.code - n) c.words-words.ensures.value
    ∙ chosen_words score first end in
    refused_by c.from_residual-in_err-prepend_filter.result c.from_residual-in_err-prepend_filter.ensures.1
    (question_refused score end refl skip c.in_err-prepend_filter.ensures)

pub returns-in_err-prepend_beginning-clause-err : goal.returns-in_err-prepend_beginning-clause-err
returns-in_err-prepend_beginning-clause-err g c =
    let filter = c.args.filter.now in
    let score = c.args.score in
    let first : c.prepend_answer.new.code ≡ answer_code 0 =
    c.in_ok-prepend_answer.ensures ∙ ap (λ (rest : List Insn). answer_code 0 ++ rest) c.new-code.ensures in
    let end = end_written score first c.in_ok-prepend_answer-2.ensures c.in_ok-prepend_score.ensures in
    let skip : c.words.result - c.words-words.result ≡ word_count (chosen_code score) =
    ap (λ (n : ℕ). n - c.words-words.result) c.words.ensures.value
    ∙ ap (λ (n : ℕ). word_count c.prepend_score.new.code - n) c.words-words.ensures.value
    ∙ chosen_words score first end in
    let whole : begun c.prepend_filter.new.code ≡ program score (asks_whether filter true) =
    program_written score end refl skip c.in_ok-prepend_filter.ensures in
    refused_by c.from_residual-in_err-prepend_beginning.result c.from_residual-in_err-prepend_beginning.ensures.1
    (subst (λ (code : List Insn). MayBeRefused code c.in_err-prepend_beginning.field-0.0) whole c.in_err-prepend_beginning.ensures)

pub returns : goal.returns
returns g c =
    let filter = c.args.filter.now in
    let score = c.args.score in
    let first : c.prepend_answer.new.code ≡ answer_code 0 =
    c.in_ok-prepend_answer.ensures ∙ ap (λ (rest : List Insn). answer_code 0 ++ rest) c.new-code.ensures in
    let end = end_written score first c.in_ok-prepend_answer-2.ensures c.in_ok-prepend_score.ensures in
    let skip : c.words.result - c.words-words.result ≡ word_count (chosen_code score) =
    ap (λ (n : ℕ). n - c.words-words.result) c.words.ensures.value
    ∙ ap (λ (n : ℕ). word_count c.prepend_score.new.code - n) c.words-words.ensures.value
    ∙ chosen_words score first end in
    let whole : c.prepend_beginning.new.code ≡ program score (asks_whether filter true) =
    c.in_ok-prepend_beginning.ensures ∙ program_written score end refl skip c.in_ok-prepend_filter.ensures in
    record {
      chooses = if_ok (λ code. Chooses code filter score) c.into_code.result c.into_code.ensures.ok (chooses _ filter score whole);
      forward = if_ok IsForward c.into_code.result c.into_code.ensures.ok (forward _ filter score whole);
      accepted = if_ok HasGoodAnnotation c.into_code.result c.into_code.ensures.ok (accepted _ filter score whole);
      ok = if_ok (λ code. code ≡ program score (asks_whether filter true)) c.into_code.result c.into_code.ensures.ok whole;
      err = IfErr-weaker c.into_code.result (λ fault. fault ≡ Memory)
          (λ fault. fault ≡ TooLong → IsTooLong (program score (asks_whether filter true))) (λ fault is other. absurd (cc))
          c.into_code.ensures.err;
      too_long = λ long. absurd (c.into_code.ensures.fits (subst IsTooLong (sym whole) long));
    }
