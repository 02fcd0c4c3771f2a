use Rattle.std.proofs.Common.{◌+◌, ◌<◌, ◌≤◌, ◌++◌, ◌∙◌, length, take, refl, ap, subst, arith, length-take-le}
use Rattle.std.proofs.BufReadLemmas.{Consumes_shown}
use Rattle.std.proofs.lemmas.Bool.Decides.{nat_tests}
use Rattle.std.specs.Io.BufRead.{FillKeeps}
use Rattle.std.specs.Io.KnownBytes.{Consumes}
use Rattle.counted_io.proofs.BufferLemmas.{at_line_feed, grown_short, without_line_feed, whole_taken}
use Rattle.counted_io.proofs.buffered.Buffered.read_from_buffer.Goals as goal

pub returns-then-count-room-clause-buffer : goal.returns-then-count-room-clause-buffer
returns-then-count-room-clause-buffer g c =
    let buffer = c.in-Ok.buffer.now in
    let count = c.min.result in
    let rested = c.fill_buf.follows.lender-at-none in
    let filled = subst (FillKeeps _ (g.B.Read.remaining rested) (g.B.BufRead.consumable_len rested)) c.in-Ok.is
    c.fill_buf.follows.holds-at-none in
    let within : count ≤ length buffer = omega (arith, c.min.ensures) in
    let long = length-take-le count buffer within in
    let taken = Consumes_shown _ _ _ _ buffer (length (take count buffer))
    (omega arith) c.in-Ok.ensures.front c.in-Ok.ensures.end filled.0 filled.1 c.consume-then-count-room.ensures.bytes in (
      refl,
      take count buffer,
      without_line_feed (take count buffer) c.in_default.ensures,
      omega (arith, c.min.ensures, length-take-le c.args.length_so_far c.args.content.now.items c.requires.within),
      whole_taken _ _ buffer count within taken.0,
    )

pub returns-then-copy_if_same_length-clause-buffer : goal.returns-then-copy_if_same_length-clause-buffer
returns-then-copy_if_same_length-clause-buffer g c =
    let buffer = c.in-Ok.buffer.now in
    let content = c.copy_if_same_length.new.content.items in
    let rested = c.fill_buf.follows.lender-at-none in
    let filled = subst (FillKeeps _ (g.B.Read.remaining rested) (g.B.BufRead.consumable_len rested)) c.in-Ok.is
    c.fill_buf.follows.holds-at-none in
    let line = c.copy_if_same_length.ensures.line c.if-copy_if_same_length.true in
    let short : length content ≤ 230 = omega arith in
    let taken = Consumes_shown _ _ _ _ buffer (c.len.result + 1) (omega (arith, line.0.shown, c.len.ensures.value)) c.in-Ok.ensures.front c.in-Ok.ensures.end
    filled.0 filled.1 c.consume.ensures.bytes in
    let ends = ap (λ count. take (count + 1) buffer) c.len.ensures.value ∙ line.0.ends in
    (refl, content, (rw (line.1) refl, line.0.no_line_feed, short), subst (Consumes _ _) ends taken.0)

pub returns-in_default-clause-buffer : goal.returns-in_default-clause-buffer
returns-in_default-clause-buffer g c =
    let buffer = c.in-Ok.buffer.now in
    let count = c.min.result in
    let rested = c.fill_buf.follows.lender-at-none in
    let filled = subst (FillKeeps _ (g.B.Read.remaining rested) (g.B.BufRead.consumable_len rested)) c.in-Ok.is
    c.fill_buf.follows.holds-at-none in
    let within : count ≤ length buffer = omega (arith, c.min.ensures) in
    let long = length-take-le count buffer within in
    let taken = Consumes_shown _ _ _ _ buffer (length (take count buffer))
    (omega arith) c.in-Ok.ensures.front c.in-Ok.ensures.end filled.0 filled.1 c.consume-in_default.ensures.bytes in
    let grown = c.replace_tail.ensures ∙ ap (λ before. before ++ take count buffer) c.copy_if_same_length.ensures.length_so_far in
    let some : 0 < length (take count buffer) = grind (arith, nat_tests) in (
      refl,
      take count buffer,
      (
        grown,
        without_line_feed (take count buffer) c.in_default.ensures,
        grown_short c.args.length_so_far c.args.content.now.items _ _ c.requires.within (omega (arith, c.min.ensures, c.requires.short)) grown,
      ),
      some,
      whole_taken _ _ buffer count within taken.0,
    )

pub returns-clause-buffer : goal.returns-clause-buffer
returns-clause-buffer g c =
    let buffer = c.in-Ok.buffer.now in
    let count = c.min.result in
    let place = c.in-Some.length in
    let rested = c.fill_buf.follows.lender-at-none in
    let filled = subst (FillKeeps _ (g.B.Read.remaining rested) (g.B.BufRead.consumable_len rested)) c.in-Ok.is
    c.fill_buf.follows.holds-at-none in
    let within : count ≤ length buffer = omega (arith, c.min.ensures) in
    let long = length-take-le count buffer within in
    let found = at_line_feed buffer count place within c.in-Some.ensures in
    let taken = Consumes_shown _ _ _ _ buffer (place + 1) (omega arith) c.in-Ok.ensures.front c.in-Ok.ensures.end filled.0 filled.1
    c.consume-2.ensures.bytes in
    let part = length-take-le place (take count buffer) (omega arith) in
    let grown = c.replace_tail-2.ensures ∙ ap (λ before. before ++ take place (take count buffer)) c.copy_if_same_length.ensures.length_so_far in
    let short = grown_short c.args.length_so_far c.args.content.now.items _ _ c.requires.within (omega (arith, c.min.ensures, c.requires.short)) grown in
    (refl, take place (take count buffer), (grown, found.before, short), subst (Consumes _ _) found.taken taken.0)
