use Rattle.std.proofs.Common.{◌+◌, ◌<◌, length, drop, ap, ◌∙◌, arith}
use Rattle.std.proofs.lemmas.List.{drop-drop, length-drop, take_rest}
use Rattle.counted_io.proofs.KnownBytesLemmas.{Appends-further}
use Rattle.counted_io.proofs.writing.write_text.Goals as goal

pub loop-rest-preserved : goal.loop-rest-preserved
loop-rest-preserved g c =
    let i = c.loop-rest.invariant in
    let w = c.in-Ok.ensures in
    let n = c.in-Ok.count in
    let size = ap length i.2 ∙ length-drop i.0 c.args.text.now in
    let some : 0 < n = (let some = c.in-Ok.count-test.1 in omega arith) in (
      i.0 + n,
      omega arith,
      take_rest c.loop-rest.rest.now n ∙ ap (drop n) i.2 ∙ drop-drop n i.0 c.args.text.now,
      Appends-further _ _ _ c.args.text.now i.0 n i.3 (rw (i.2) at w.bytes),
      w.counts.0 some ∙ i.4,
    )
