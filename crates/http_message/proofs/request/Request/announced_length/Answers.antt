use Rattle.std.proofs.Common.{[], ◌∷◌, ◌+◌, ◌++◌, ◌∙◌, ap, refl, sym}
use Rattle.std.specs.Prelude.{codes}
use Rattle.httparse.specs.Spans.{header_bytes}
use Rattle.http_message.specs.Reading.{RequestParts}
use Rattle.http_message.proofs.LengthLemmas.{found_first, found_none, found_one, found_twice, values_in-all, values_in-named, values_in-other, values_in-split}
use Rattle.http_message.proofs.request.Request.announced_length.Goals as goal
use Rattle.http_message.proofs.request.Request.announced_length.Goals.{then-is_named+else-is_some, else-is_named}

pub loop-header-init : goal.loop-header-init
loop-header-init c = refl

pub returns-then-is_some : goal.returns-then-is_some
returns-then-is_some c =
    let at = header_bytes c.self.inside.bytes.now in
    let headers = c.self.inside.headers.now in
    let index = c.loop-header.header-index in
    rw (values_in-split (codes "content-length") at headers (index + 1) _ (ap (λ (request : RequestParts). request.head.headers) c.self.view_is))
    (found_twice c.loop-header.found _ _ _ _ c.loop-header.invariant (sym c.if-is_some.ensures)
    (values_in-named (codes "content-length") at headers index _ c.loop-header-test.true (sym c.if-is_named.ensures)))

pub loop-header-preserved : goal.loop-header-preserved
loop-header-preserved c =
    let at = header_bytes c.self.inside.bytes.now in
    let headers = c.self.inside.headers.now in
    let index = c.loop-header.header-index in
    elim c.if-is_named.branch [
      | then-is_named+else-is_some w ↦
          found_first c.loop-header.found _ _ _ c.loop-header.invariant (sym w.if-is_some.ensures)
          (values_in-named (codes "content-length") at headers index _ c.loop-header-test.true (sym w.if-is_named.ensures)) w.of.ensures w.found-is
      | else-is_named w ↦
          rw (
            w.found-is,
            values_in-other (codes "content-length") at headers index _ c.loop-header-test.true (sym w.if-is_named.ensures),
          ) c.loop-header.invariant
    ]

pub returns-in-Some : goal.returns-in-Some
returns-in-Some c =
    rw (
      c.length_of.ensures,
      values_in-all (codes "content-length") (header_bytes c.self.inside.bytes.now) c.self.inside.headers.now c.loop-header.header-index _
          c.loop-header-test.false (ap (λ (request : RequestParts). request.head.headers) c.self.view_is),
    ) (found_one c.loop-header.found c.in-Some.value _ c.loop-header.invariant c.in-Some.is)

pub returns-in-None : goal.returns-in-None
returns-in-None c =
    rw (values_in-all (codes "content-length") (header_bytes c.self.inside.bytes.now) c.self.inside.headers.now c.loop-header.header-index _
    c.loop-header-test.false (ap (λ (request : RequestParts). request.head.headers) c.self.view_is))
    (found_none c.loop-header.found _ c.loop-header.invariant c.in-None.is)
