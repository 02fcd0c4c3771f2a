use Rattle.std.proofs.Common.{◌∙◌, ap}
use Rattle.listing_lines.specs.SourceLines.{line_in, line_of}
use Rattle.listing_lines.proofs.SourceLemmas.{valid_line-text, valid_line-not, order-fault, order-ok, order-missing}
use Rattle.listing_lines.proofs.source_lines.check.Goals as goal

pub returns-in_default : goal.returns-in_default
returns-in_default c = valid_line-not c.args.last c.args.line.now c.in_default.ensures.cases.0

pub returns-in-Some : goal.returns-in-Some
returns-in-Some c =
    valid_line-text c.args.last c.args.line.now c.in-Ok.ensures.cases.1
    ∙ order-fault c.args.last _ (line_of c.in-Some.read) (c.in-Some.ensures ∙ ap line_in c.in-Ok.ensures.cases.0) c.if-read-last.true

pub returns-in-Some-2 : goal.returns-in-Some-2
returns-in-Some-2 c =
    valid_line-text c.args.last c.args.line.now c.in-Ok.ensures.cases.1
    ∙ order-ok c.args.last _ (line_of c.in-Some.read) (c.in-Some.ensures ∙ ap line_in c.in-Ok.ensures.cases.0) c.if-read-last.false

pub returns-in-None : goal.returns-in-None
returns-in-None c =
    valid_line-text c.args.last c.args.line.now c.in-Ok.ensures.cases.1
    ∙ order-missing c.args.last _ (c.in-None.ensures ∙ ap line_in c.in-Ok.ensures.cases.0)
