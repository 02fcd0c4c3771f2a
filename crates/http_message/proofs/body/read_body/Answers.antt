use Rattle.std.proofs.Common.{◌<◌, ◌++◌, ℕ, List, ap, arith, drop, length-append, refl, take, ◌∙◌}
use Rattle.std.proofs.lemmas.List.{length-drop, length-take, length-take-le, take-append-le}
use Rattle.std.proofs.lemmas.Result.{err_from_is_err_and}
use Rattle.http_message.proofs.BodyLemmas.{body_begins, body_ends, body_fails, body_out_of_memory, body_more, body_whole}
use Rattle.http_message.proofs.body.read_body.Goals as goal

pub loop-piece-init : goal.loop-piece-init
loop-piece-init g c = record {
  so_far = body_begins c.in_ok-extend_from_slice.ensures.items c.new-body.ensures.items c.min.ensures;
  room = refl;
}

pub returns-in-Ok-eq0 : goal.returns-in-Ok-eq0
returns-in-Ok-eq0 g c =
    body_ends _ c.loop-piece.invariant.so_far (omega arith)
    (record { consumed = c.in-Ok-eq0.ensures.bytes.0; failed = c.in-Ok-eq0.ensures.failures })
    (ap (λ (n : ℕ). take n c.read_counted.new.buf) c.in-Ok-eq0.field-0-test)
    (c.in-Ok-eq0.ensures.bytes.1 c.in-Ok-eq0.field-0-test
    (omega (arith, length-take c.min-most.result c.loop-piece.piece, c.min-most.ensures)))

pub loop-piece-preserved : goal.loop-piece-preserved
loop-piece-preserved g c =
    let given = c.read_counted.new.buf in
    let rest = drop c.min-most.result c.loop-piece.piece in
    let inside = c.in-Ok.ensures.bound.0 in
    let grown = c.in_ok-extend_from_slice-in-Ok.ensures.items
    ∙ ap (λ (xs : List ℕ). c.loop-piece.body.items ++ xs) (take-append-le c.in-Ok.count given rest inside) in
    record {
      so_far = body_more (take c.in-Ok.count given) c.loop-piece.invariant.so_far
          (record { consumed = c.in-Ok.ensures.bytes.0; failed = c.in-Ok.ensures.failures }) grown
          (omega (arith, length-take-le c.in-Ok.count given inside, length-take c.min-most.result c.loop-piece.piece, c.min-most.ensures));
      room = omega (
        arith,
        length-append given rest,
        length-drop c.min-most.result c.loop-piece.piece,
        length-take c.min-most.result c.loop-piece.piece,
        c.min-most.ensures,
      );
    }

pub returns-in_err-extend_from_slice-in-Ok : goal.returns-in_err-extend_from_slice-in-Ok
returns-in_err-extend_from_slice-in-Ok g c =
    let p = err_from_is_err_and c.from_residual-in_err-extend_from_slice-in-Ok.result
    c.from_residual-in_err-extend_from_slice-in-Ok.ensures.1 in
    let given = c.read_counted.new.buf in
    let long = length-take-le c.in-Ok.count given c.in-Ok.ensures.bound.0 in
    rw (p.1, p.2) (
    body_out_of_memory (take c.in-Ok.count given) c.loop-piece.invariant.so_far (omega arith)
    (record { consumed = c.in-Ok.ensures.bytes.0; failed = c.in-Ok.ensures.failures })
    (let some : 0 < c.in-Ok.count = grind (arith) in omega (arith, long))
    (omega (arith, long, c.in-Ok.ensures.bound.0, length-take c.min-most.result c.loop-piece.piece, c.min-most.ensures))
    )

pub returns-in-Err : goal.returns-in-Err
returns-in-Err g c =
    body_fails c.loop-piece.invariant.so_far (omega arith) c.in-Err.ensures.bytes c.in-Err.ensures.failures

pub returns : goal.returns
returns g c = body_whole _ _ c.loop-piece.body.items _ _ c.loop-piece.invariant.so_far (omega arith)
