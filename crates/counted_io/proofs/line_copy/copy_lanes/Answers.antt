use Rattle.std.proofs.Common.{◌∙◌, sym}
use Rattle.std.proofs.lemmas.Bool.{eqb-true}
use Rattle.counted_io.proofs.CopyLemmas.{no_line_feed_in}
use Rattle.counted_io.proofs.line_copy.copy_lanes.Goals as goal

pub returns-clause-no_line_feed : goal.returns-clause-no_line_feed
returns-clause-no_line_feed c is = no_line_feed_in c.args.from.now c.args.at 32 c.requires.within (sym c.line_feeds.ensures ∙ eqb-true c.line_feeds.result 0 is)
