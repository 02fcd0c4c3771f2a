use Rattle.std.proofs.Common.{ap, sym, ◌∙◌}
use Rattle.std.specs.Char.{is_ascii_digit}
use Rattle.std.specs.List.{list_all}
use Rattle.http_message.proofs.TargetLemmas.{id_not_digits, id_parsed, id_too_long, job_path}
use Rattle.http_message.proofs.target.job_id.Goals as goal
use Rattle.http_message.proofs.target.job_id.Goals.{then-text-gt-ID_LENGTH-via-then-text-gt-ID_LENGTH}
use Rattle.http_message.proofs.target.job_id.Goals.{then-text-gt-ID_LENGTH-via-else-text-gt-ID_LENGTH+then-not-are_digits}

pub returns-then-text-gt-ID_LENGTH : goal.returns-then-text-gt-ID_LENGTH
returns-then-text-gt-ID_LENGTH c =
    let strips = c.in_ok-text.ensures.cases in
    let is = job_path c.args.path.now c.in_ok-text.text.now (rw strips.2 strips.1.1) in
    elim c.then-text-gt-ID_LENGTH.branch [
      | then-text-gt-ID_LENGTH-via-then-text-gt-ID_LENGTH w ↦ sym (is ∙ id_too_long c.in_ok-text.text.now w.if-text-gt-ID_LENGTH.true)
      | then-text-gt-ID_LENGTH-via-else-text-gt-ID_LENGTH+then-not-are_digits w ↦
          sym (is ∙ id_not_digits c.in_ok-text.text.now (ap (list_all is_ascii_digit) (sym w.as_bytes.ensures.value) ∙ sym w.are_digits.ensures ∙ w.if-not-are_digits.true))
    ]

pub returns : goal.returns
returns c =
    let strips = c.in_ok-text.ensures.cases in
    let is = job_path c.args.path.now c.in_ok-text.text.now (rw strips.2 strips.1.1) in
    let short = c.if-text-gt-ID_LENGTH.false in
    c.ok.ensures.value ∙ id_parsed c.in_ok-text.text.now c.parse.result c.parse.ensures.value.0
    (ap (list_all is_ascii_digit) (sym c.as_bytes.ensures.value) ∙ sym c.are_digits.ensures ∙ c.if-not-are_digits.false) short ∙ sym is
