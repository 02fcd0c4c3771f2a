use Rattle.std.proofs.Common.{◌≤◌, ◌++◌, [], ◌∷◌, List, get_or, length, map, sym, ap, ◌∙◌, arith}
use Rattle.std.proofs.lemmas.List.{map_push, take_all, take_more}
use Rattle.cql2.specs.declared.pattern.PatternPart.{PatternPart}
use Rattle.cql2.specs.declared.pattern.PatternPart.TheVariants.{Exactly}
use Rattle.cql2_code.specs.Lowering.{exact_bytes}
use Rattle.cql2_code.proofs.PatternLemmas.{exact_bytes-exactly, exact_bytes-other}
use Rattle.cql2_code.proofs.pieces.exact_bytes.Goals as goal

pub returns-in_default : goal.returns-in_default
returns-in_default c =
    let at = c.loop-byte.byte-index in
    let bytes = c.loop-byte.bytes.items in
    record {
      some = tt;
      none = exact_bytes-other c.args.piece.now bytes at c.loop-byte-test.true c.loop-byte.invariant.1 c.in_default.not-Exactly;
    }

pub loop-byte-preserved : goal.loop-byte-preserved
loop-byte-preserved c =
    let at = c.loop-byte.byte-index in
    let piece = c.args.piece.now in
    let bytes = c.loop-byte.bytes.items in (
      omega arith,
      take_more piece at (Exactly 0) c.loop-byte-test.true
          ∙ ap (λ (front : List PatternPart). front ++ (get_or piece at (Exactly 0) ∷ [])) c.loop-byte.invariant.1
          ∙ ap (λ (last : PatternPart). map Exactly bytes ++ (last ∷ [])) c.in-Exactly.is
          ∙ sym (map_push Exactly bytes c.in-Exactly.byte) ∙ ap (map Exactly) (sym c.push.ensures.items),
    )

pub returns : goal.returns
returns c =
    let all : length c.args.piece.now ≤ c.loop-byte.byte-index = omega arith in
    record {
      some =
          ap exact_bytes (sym (take_all c.loop-byte.byte-index c.args.piece.now all) ∙ c.loop-byte.invariant.1)
          ∙ exact_bytes-exactly c.loop-byte.bytes.items;
      none = tt;
    }
