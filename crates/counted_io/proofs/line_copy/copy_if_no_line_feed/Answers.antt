use Rattle.std.proofs.Common.{◌+◌, ◌-◌, ◌≤◌, length, ◌∙◌, arith}
use Rattle.counted_io.proofs.CopyLemmas.{all_copied, copied_more, no_line_feed_at_all, no_line_feed_up_to}
use Rattle.counted_io.proofs.line_copy.copy_if_no_line_feed.Goals as goal

pub loop-at-preserved : goal.loop-at-preserved
loop-at-preserved c =
    let from = c.args.from.now in
    let loop = c.loop-at.invariant in
    let within : c.loop-at.at + 32 ≤ length from = omega (arith, c.loop-at-test.true) in
    record {
      len = c.copy_lanes.ensures.length ∙ loop.len;
      within = within;
      copied = rw (c.copy_lanes.ensures.copied) (copied_more from c.loop-at.to c.loop-at.at loop.len within loop.copied);
      no_line_feed = no_line_feed_up_to from c.loop-at.at within loop.no_line_feed (c.copy_lanes.ensures.no_line_feed c.if-not-copy_lanes.false);
    }

pub returns-clause-copied : goal.returns-clause-copied
returns-clause-copied c is =
    let from = c.args.from.now in
    let loop = c.loop-at.invariant in
    c.copy_lanes-2.ensures.copied
    ∙ all_copied from c.loop-at.to (length from - 32) c.loop-at.at loop.len (omega (arith, c.requires.long)) c.loop-at-test.false loop.copied

pub returns-clause-no_line_feed : goal.returns-clause-no_line_feed
returns-clause-no_line_feed c is =
    let from = c.args.from.now in
    no_line_feed_at_all from (length from - 32) c.loop-at.at (omega (arith, c.requires.long)) c.loop-at-test.false
    c.loop-at.invariant.no_line_feed (c.copy_lanes-2.ensures.no_line_feed is)
