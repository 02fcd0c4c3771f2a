use Rattle.std.proofs.Common.{◌≡◌, sym, rules}
use Rattle.cql2_text.proofs.ComparedLemmas.{compared-at, compared-in, same-compared, unit-read}
use Rattle.cql2_text.proofs.ScanLemmas.{expression-ends}
use Rattle.cql2_text.specs.declared.syntax_fault.SyntaxFault.TheVariants.{Memory}
use Rattle.cql2_text.proofs.numeric.compare.Goals as goal

pub returns-clause-ok : goal.returns-clause-ok
returns-clause-ok g c =
    let first = c.in_ok-first.ensures.ok in
    let second = c.in_ok-second.ensures.ok in
    let ends = expression-ends c.args.start.now _ _ first in
    let unit = unit-read c.args.start.now c.args.words.now _ _ _ _ c.scan-first_column.ensures.column c.scan-second_column.ensures.column
    c.or_else.ensures c.of-unit.ensures first second in
    compared-at _ _ _ _ _ _ _ _ _ (sym ends) unit first second c.comparison_of.ensures

pub returns-in_err-first-clause-reads : goal.returns-in_err-first-clause-reads
returns-in_err-first-clause-reads g c =
    λ after rest made spelled.
    let is = compared-in c.args.start.now after c.args.words.now rest c.args.comparison made c.scan-first_column.ensures.column
    c.scan-second_column.ensures.column c.or_else.ensures c.of-unit.ensures spelled in
    let memory : c.in_err-first.field-0.0 ≡ Memory = c.in_err-first.ensures.reads after is.first is.is_first in
    search rules

pub returns-in_err-second-clause-reads : goal.returns-in_err-second-clause-reads
returns-in_err-second-clause-reads g c =
    λ after rest made spelled.
    let is = compared-in c.args.start.now after c.args.words.now rest c.args.comparison made c.scan-first_column.ensures.column
    c.scan-second_column.ensures.column c.or_else.ensures c.of-unit.ensures spelled in
    let memory : c.in_err-second.field-0.0 ≡ Memory = c.in_err-second.ensures.reads rest is.second is.is_second in
    search rules

pub returns-clause-reads : goal.returns-clause-reads
returns-clause-reads g c =
    λ after rest made spelled.
    let is = compared-in c.args.start.now after c.args.words.now rest c.args.comparison made c.scan-first_column.ensures.column
    c.scan-second_column.ensures.column c.or_else.ensures c.of-unit.ensures spelled in
    let first = c.in_ok-first.ensures.reads after is.first is.is_first in
    let second = c.in_ok-second.ensures.reads rest is.second is.is_second in
    (second.0, rw (c.comparison_of.ensures, is.is) (same-compared _ _ _ _ _ first.1 second.1))
