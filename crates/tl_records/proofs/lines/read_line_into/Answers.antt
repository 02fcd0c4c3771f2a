use Rattle.std.proofs.Common.{refl, arith}
use Rattle.tl_records.proofs.ReadLemmas.{line_by_lf, line_short, line_whole}
use Rattle.tl_records.proofs.lines.read_line_into.Goals as goal

pub returns-in-LineFeed : goal.returns-in-LineFeed
returns-in-LineFeed g c =
    let content = c.read_content.new.content.items in
    let read = c.in-LineFeed.ensures in
    let without = c.strip_carriage_return.ensures in (
      read.0,
      omega arith,
      refl,
      line_by_lf _ _ content _ read.1 read.2 read.3 without,
      line_whole content _ read.1 without,
      line_short content _ read.2 without,
    )
