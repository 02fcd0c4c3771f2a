use Rattle.std.proofs.Common.{◌∙◌, string_bytes}
use Rattle.geocode.proofs.Latin1Lemmas.{one-more-byte}
use Rattle.geocode.proofs.latin_1.push_utf8.Goals as goal

pub loop-byte-preserved : goal.loop-byte-preserved
loop-byte-preserved g c =
    c.in_ok-push.ensures.bytes
    ∙ rw (c.loop-byte.invariant, c.from.ensures)
    (one-more-byte c.args.bytes.now (string_bytes c.args.text.now) c.loop-byte.byte-index c.loop-byte-test.true)
