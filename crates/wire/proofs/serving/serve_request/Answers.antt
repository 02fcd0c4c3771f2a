use Rattle.std.proofs.Common.{refl}
use Rattle.wire.specs.Reading.{decision_of}
use Rattle.wire.proofs.ServingLemmas.{answered, out_of_memory, returns_request_read, served, summarized}
use Rattle.wire.proofs.serving.serve_request.Goals as goal

pub returns-in-Err-Memory-clause-served : goal.returns-in-Err-Memory-clause-served
returns-in-Err-Memory-clause-served g c =
    served _ _ _ _ _
    (out_of_memory _ _ _ _ (rw c.in-Err-Memory.field-0-is at c.in-Err-Memory.ensures.err) refl c.write_out_of_memory-sent.ensures) _
    c.after_reply.ensures

pub returns-in-Err-Memory-clause-request_read : goal.returns-in-Err-Memory-clause-request_read
returns-in-Err-Memory-clause-request_read g c =
    returns_request_read _ _ _ _ _
    (out_of_memory _ _ _ _ (rw c.in-Err-Memory.field-0-is at c.in-Err-Memory.ensures.err) refl c.write_out_of_memory-sent.ensures) _
    c.after_reply.ensures

pub returns-in-Err-Memory-clause-summarized : goal.returns-in-Err-Memory-clause-summarized
returns-in-Err-Memory-clause-summarized g c =
    summarized _ _ _ _ _
    (out_of_memory _ _ _ _ (rw c.in-Err-Memory.field-0-is at c.in-Err-Memory.ensures.err) refl c.write_out_of_memory-sent.ensures) _
    c.after_reply.ensures

pub returns-clause-served : goal.returns-clause-served
returns-clause-served g c =
    served _ _ _ _ _
    (answered _ (decision_of c.in-Ok.decided.decision) _ _ _ _ c.request_read-request_read.ensures c.in-Ok.ensures.ok c.answer-sent.ensures) _
    c.after_reply-2.ensures

pub returns-clause-request_read : goal.returns-clause-request_read
returns-clause-request_read g c =
    returns_request_read _ _ _ _ _
    (answered _ (decision_of c.in-Ok.decided.decision) _ _ _ _ c.request_read-request_read.ensures c.in-Ok.ensures.ok c.answer-sent.ensures) _
    c.after_reply-2.ensures

pub returns-clause-summarized : goal.returns-clause-summarized
returns-clause-summarized g c =
    summarized _ _ _ _ _
    (answered _ (decision_of c.in-Ok.decided.decision) _ _ _ _ c.request_read-request_read.ensures c.in-Ok.ensures.ok c.answer-sent.ensures) _
    c.after_reply-2.ensures
