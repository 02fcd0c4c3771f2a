use Rattle.std.proofs.Common.{◌≡◌, length, ap, ◌∙◌, arith}
use Rattle.std.proofs.lemmas.List.{length-map}
use Rattle.cql2.specs.declared.pattern.PatternPart.TheVariants.{Exactly}
use Rattle.cql2_code.proofs.PatternLemmas.{spelled}
use Rattle.cql2_code.proofs.pieces.prepend_are_required.Goals as goal

pub prepend_bytes-requires-clause-fits : goal.prepend_bytes-requires-clause-fits
prepend_bytes-requires-clause-fits g c =
    let bytes = c.in-Some.bytes.items in
    let count : length c.args.piece.now ≡ length bytes =
    ap length (spelled c.args.piece.now bytes c.in-Some.ensures.some) ∙ length-map bytes Exactly in
    omega (arith, ap length c.as_slice.ensures.value)
