use Rattle.std.proofs.Common.{rules, tests, ◌∙◌}
use Rattle.std.proofs.lemmas.Iterator.{YieldsList-from_slice}
use Rattle.std.proofs.lemmas.Iterator.Search.{any_from_yields_List}
use Rattle.httparse.specs.Spans.{header_bytes}
use Rattle.http_message.specs.Length.{is_named}
use Rattle.http_message.proofs.LengthLemmas.{any_of}
use Rattle.http_message.proofs.request.Request.has_header.Goals as goal

pub returns : goal.returns
returns c =
    let name = c.args.name.now in
    let at = header_bytes c.self.inside.bytes.now in
    let headers = c.self.inside.headers.now in
    rw (← c.self.view_is)
    (any_from_yields_List (λ header. is_named name (at header)) _ _ _ c.any.ensures.ran (YieldsList-from_slice headers cc)
    (λ x b q k. search (rules, tests)) ∙ any_of (is_named name) at headers)
