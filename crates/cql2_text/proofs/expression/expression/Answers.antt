use Rattle.std.proofs.Common.{arith}
use Rattle.cql2_text.proofs.NumberLemmas.{exact-shallow, same-depth}
use Rattle.cql2_text.proofs.expression.expression.Goals as goal

pub returns-then-part-gt-MAX_DEPTH-clause-reads : goal.returns-then-part-gt-MAX_DEPTH-clause-reads
returns-then-part-gt-MAX_DEPTH-clause-reads g c =
    λ rest made is.
    let read = c.in_ok-part.ensures.reads rest made.expression is.longest is.spelled in
    absurd (omega (
      arith,
      c.in_ok-part.part.depth_is,
      c.if-part-gt-MAX_DEPTH.true,
      same-depth c.in_ok-part.part.expression made.expression read.1,
      exact-shallow made.expression made.is_exact,
    ))
