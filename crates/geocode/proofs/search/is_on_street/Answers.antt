use Rattle.std.proofs.Common.{◌≡◌, is_some, get_or, ap, sym, ◌∙◌}
use Rattle.tl_segments.specs.FullName.{full_name_of}
use Rattle.geocode.specs.Street.{is_on_street, parts_of}
use Rattle.geocode.proofs.CandidateLemmas.{segment_at-read}
use Rattle.geocode.proofs.SearchLemmas.{is_some-option_map}
use Rattle.geocode.proofs.search.is_on_street.Goals as goal

pub returns : goal.returns
returns g c =
    let street = parts_of c.args.street in
    let segment = c.index-segments-n.result in
    let read = segment_at-read c.args.county.now.segments c.args.n segment c.requires
    (c.index-segments-n.is ∙ ap (λ segments. get_or segments c.args.n segment) c.segments.ensures.value) in
    let on : c.is_some.result ≡ is_on_street street segment =
    c.is_some.ensures ∙ sym (is_some-option_map full_name_of c.name_on.result) ∙ ap (λ name. is_some name) c.name_on.ensures.value in
    on ∙ ap (is_on_street street) (sym read)
