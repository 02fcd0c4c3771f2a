use Rattle.std.proofs.Common.{ℕ, List, subst}
use Rattle.cql2_text.specs.Spelled.{IsFilterText}
use Rattle.filters.proofs.FilterLemmas.{long_refused}
use Rattle.filters.proofs.JsonLemmas.{of_json_failure, of_json_text_failure}
use Rattle.filters.proofs.filter.read_json.Goals as goal

pub returns-then-json-gt-MAX_TEXT_LENGTH-clause-err : goal.returns-then-json-gt-MAX_TEXT_LENGTH-clause-err
returns-then-json-gt-MAX_TEXT_LENGTH-clause-err c =
    long_refused c.args.json.now c.args.options c.read_text.result c.if-json-gt-MAX_TEXT_LENGTH.true
    (c.read_text.ensures.too_long c.if-json-gt-MAX_TEXT_LENGTH.true)

pub returns-in-Err-clause-err : goal.returns-in-Err-clause-err
returns-in-Err-clause-err c =
    of_json_failure c.args.json.now c.args.options c.requires c.in-Err.fault c.of_json.result c.in-Err.ensures.only c.in-Err.ensures.err
    c.of_json.ensures

pub returns-in-Ok-read-clause-ok : goal.returns-in-Ok-read-clause-ok
returns-in-Ok-read-clause-ok c = (
  c.in-Ok.text,
  c.in-Ok.ensures.ok,
  subst (λ (text : List ℕ). IsFilterText text c.in-Ok-read.filter) c.as_slice.ensures.value c.in-Ok-read.ensures.ok,
)

pub returns-clause-err : goal.returns-clause-err
returns-clause-err c =
    of_json_text_failure c.args.json.now c.args.options c.requires c.in-Ok.text _ _ c.in-Err-read.fault c.failure_at.result
    c.as_slice.ensures.value c.as_slice-in-Err-read.ensures.value c.in-Ok.ensures.ok c.in-Err-read.ensures.err c.in-Err-read.ensures.reads
    c.failure_at.ensures
