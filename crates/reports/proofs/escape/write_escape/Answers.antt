use Rattle.std.proofs.Common.{ap, ◌∙◌, arith}
use Rattle.reports.specs.Escape.{escaped_byte}
use Rattle.reports.proofs.EscapeLemmas.{long_number, numbered_byte, short_number}
use Rattle.reports.proofs.escape.write_escape.Goals as goal

pub returns-in-9 : goal.returns-in-9
unfolding escaped_byte
returns-in-9 g c = rw (ap escaped_byte c.in-9.is) c.write_text.ensures

pub returns-in-10 : goal.returns-in-10
unfolding escaped_byte
returns-in-10 g c = rw (ap escaped_byte c.in-10.is) c.write_text-in-10.ensures

pub returns-in-13 : goal.returns-in-13
unfolding escaped_byte
returns-in-13 g c = rw (ap escaped_byte c.in-13.is) c.write_text-in-13.ensures

pub returns-in-0-to-15 : goal.returns-in-0-to-15
returns-in-0-to-15 g c =
    let is = numbered_byte c.args.control c.requires (omega arith) (omega arith) (omega arith)
    ∙ short_number c.args.control c.hex_digit-low.result (omega arith) c.hex_digit-low.ensures in
    rw is c.write_text-in-0-to-15.ensures

pub returns-in_default : goal.returns-in_default
returns-in_default g c =
    let is = numbered_byte c.args.control c.requires (omega arith) (omega arith) (omega arith)
    ∙ long_number c.args.control c.hex_digit-high.result c.hex_digit-low.result (omega arith) (omega arith) c.hex_digit-high.ensures
    c.hex_digit-low.ensures in
    rw is c.write_text-in_default.ensures
