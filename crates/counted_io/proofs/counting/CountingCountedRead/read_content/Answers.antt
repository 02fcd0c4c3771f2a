use Rattle.std.proofs.Common.{◌≡◌, ◌≢◌, [], ◌∷◌, ◌++◌, length, length-append, ◌∙◌, arith}
use Rattle.std.proofs.lemmas.Bool.Decides.{nat_tests}
use Rattle.counted_io.proofs.ContentLemmas.{one_more}
use Rattle.counted_io.proofs.counting.CountingCountedRead.read_content.Goals as goal

pub returns-then-is_full-clause-content : goal.returns-then-is_full-clause-content
returns-then-is_full-clause-content g c =
    let content = c.loop-byte.content.items in
    let byte = c.in-Ok-Some.byte in
    let so_far = c.loop-byte.invariant.0 in
    let read = rw c.in-Ok-Some.field-0-is at c.in-Ok-Some.ensures.read in
    let other : byte ≢ 10 = omega arith in
    let full : length content ≡ 230 = grind (arith, nat_tests) in
    let more = one_more content _ _ _ so_far.no_line_feed so_far.taken other read.1 in
    (read.0 ∙ so_far.same, content ++ byte ∷ [], more.0, omega (arith, length-append content (byte ∷ [])), more.1)
