use Rattle.std.proofs.Common.{◌≡◌, ◌+◌, ◌∷◌, ◌++◌, [], arith, rules, length, sym}
use Rattle.std.specs.Prelude.{Err}
use Rattle.std.proofs.lemmas.Bool.Decides.{nat_tests}
use Rattle.listing_lines.specs.SourceLines.{line_of, lines_in}
use Rattle.listing_lines.proofs.SourceLemmas.{has-lines, lines-more, lines-read, lines-refused, preceded-none, state}
use Rattle.listing_lines.proofs.source_lines.SourceLines.of.Goals as goal

pub loop-rest-init : goal.loop-rest-init
loop-rest-init c = record { before = []; read = sym (preceded-none (lines_in c.args.file.now)); few = omega arith }

pub loop-rest-preserved : goal.loop-rest-preserved
loop-rest-preserved c = record {
  before = c.loop-rest.invariant.before ++ (line_of c.in_ok-read.read ∷ []);
  read = lines-more c.args.file.now c.loop-rest.invariant.before (state c.loop-rest.rest.now (c.loop-rest.number + 1) c.loop-rest.last)
      c.first_line.result.1.now c.in_ok-read.read c.loop-rest.invariant.read
      (record { text = c.first_line.result.0.now; cut = c.first_line.ensures.cut; is = c.in_ok-read.ensures });
  few = omega (arith, c.loop-rest.invariant.few, c.first_line.ensures.shorter);
}

pub returns-in_err-read : goal.returns-in_err-read
returns-in_err-read c =
    let given : c.from_residual.result ≡ Err c.in_err-read.field-0.0 = search rules in
    rw given (lines-refused c.args.file.now c.loop-rest.invariant.before (state c.loop-rest.rest.now (c.loop-rest.number + 1) c.loop-rest.last)
    c.first_line.result.1.now c.in_err-read.field-0.0 c.loop-rest.invariant.read
    (record { text = c.first_line.result.0.now; cut = c.first_line.ensures.cut; is = c.in_err-read.ensures }))

pub returns : goal.returns
returns c =
    let test = c.loop-rest-test.ensures in
    let none : length c.loop-rest.rest.now ≡ 0 = grind (arith, nat_tests) in
    has-lines (lines_in c.args.file.now) c.loop-rest.invariant.before
    (lines-read c.args.file.now c.loop-rest.rest.now c.loop-rest.invariant.before (c.loop-rest.number + 1) c.loop-rest.last none c.loop-rest.invariant.read)
