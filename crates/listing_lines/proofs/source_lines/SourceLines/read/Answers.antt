use Rattle.std.proofs.Common.{◌≡◌, ◌∙◌, ◌+◌, arith, length, sym, ap, map}
use Rattle.std.proofs.lemmas.Bool.Decides.{nat_tests}
use Rattle.listing_lines.specs.SourceLines.{line_of, lines_or_none}
use Rattle.listing_lines.proofs.SourceLemmas.{lines-more-all, lines-read, lines-refused, state}
use Rattle.listing_lines.proofs.source_lines.SourceLines.read.Goals as goal

pub loop-rest-preserved : goal.loop-rest-preserved
loop-rest-preserved g c = record {
  read = rw c.in_ok-push_line.ensures (lines-more-all c.args.self.file.now c.loop-rest.lines.items
      (state c.loop-rest.rest.now (c.loop-rest.number + 1) c.loop-rest.last) c.first_line.result.1.now c.in-Ok.read c.loop-rest.invariant.read
      (record { text = c.first_line.result.0.now; cut = c.first_line.ensures.cut; is = c.in-Ok.ensures }));
  few = omega (arith, c.loop-rest.invariant.few, c.first_line.ensures.shorter);
}

pub returns-in_default : goal.returns-in_default
returns-in_default g c =
    ap (map line_of) c.new.ensures.items
    ∙ sym (ap lines_or_none (lines-refused c.args.self.file.now (map line_of c.loop-rest.lines.items)
    (state c.loop-rest.rest.now (c.loop-rest.number + 1) c.loop-rest.last) c.first_line.result.1.now c.in_default.field-0 c.loop-rest.invariant.read
    (record { text = c.first_line.result.0.now; cut = c.first_line.ensures.cut; is = c.in_default.ensures })))

pub returns : goal.returns
returns g c =
    let test = c.loop-rest-test.ensures in
    let none : length c.loop-rest.rest.now ≡ 0 = grind (arith, nat_tests) in
    sym (ap lines_or_none (lines-read c.args.self.file.now c.loop-rest.rest.now (map line_of c.loop-rest.lines.items) (c.loop-rest.number + 1)
    c.loop-rest.last none c.loop-rest.invariant.read))
