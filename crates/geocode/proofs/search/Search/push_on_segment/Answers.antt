use Rattle.std.proofs.Common.{◌≡◌, [], ◌++◌, None, get_or, refl, ap, sym, ◌∙◌, subst, OnOk, arith}
use Rattle.std.specs.Option.{option_map_or}
use Rattle.std.proofs.lemmas.List.{append-nil}
use Rattle.geocode.specs.Matches.{IsOnByName, matches_on_segment, matches_under}
use Rattle.geocode.specs.Street.{name_on, parts_of}
use Rattle.geocode.proofs.CandidateLemmas.{segment_at-read, tlid_at-read}
use Rattle.geocode.proofs.HitLemmas.{tlids-long}
use Rattle.geocode.proofs.search.Search.push_on_segment.Goals as goal

pub returns-in_default-clause-matches : goal.returns-in_default-clause-matches
returns-in_default-clause-matches g c = λ matches has.
    let street = parts_of c.args.self.street in
    let house = c.args.self.house in
    let index = c.args.county_index in
    let segment = c.index-segments-n.result in
    let read = segment_at-read c.args.county.now.segments c.args.n segment c.requires
    (c.index-segments-n.is ∙ ap (λ segments. get_or segments c.args.n segment) c.segments.ensures.value) in
    let none : name_on street segment ≡ None = sym c.in_default.ensures.value in
    subst (g.F.Findings.has c.args.found.now)
    (sym (append-nil matches)
    ∙ ap (λ name. matches
    ++ option_map_or (λ name. matches_under house (record { county = index; segment = segment; name = name })) name []) (sym none)
    ∙ ap (λ segment. matches ++ matches_on_segment street house index segment) (sym read)) has

pub returns-in_default-clause-by_name : goal.returns-in_default-clause-by_name
returns-in_default-clause-by_name g c =
    let segment = c.index-segments-n.result in
    subst (IsOnByName (parts_of c.args.self.street)) (sym (segment_at-read c.args.county.now.segments c.args.n segment c.requires
    (c.index-segments-n.is ∙ ap (λ segments. get_or segments c.args.n segment) c.segments.ensures.value))) c.name_on.ensures.by_name

pub bounds-tlids-n : goal.bounds-tlids-n
bounds-tlids-n g c = omega (arith, c.requires, tlids-long c.tlids.result.now c.args.county.now.segments c.tlids.ensures)

pub push_matches-requires : goal.push_matches-requires
push_matches-requires g c κs =
    let segment = c.index-segments-n.result in (
      (refl, tt),
      tlid_at-read c.tlids.result.now c.args.county.now.segments c.args.n segment c.tlids.ensures c.requires
          (c.index-segments-n.is ∙ ap (λ segments. get_or segments c.args.n segment) c.segments.ensures.value),
    )

pub returns-clause-matches : goal.returns-clause-matches
returns-clause-matches g c = λ matches has.
    let street = parts_of c.args.self.street in
    let house = c.args.self.house in
    let index = c.args.county_index in
    let segment = c.index-segments-n.result in
    let read = segment_at-read c.args.county.now.segments c.args.n segment c.requires
    (c.index-segments-n.is ∙ ap (λ segments. get_or segments c.args.n segment) c.segments.ensures.value) in
    let is = ap (λ name. matches
    ++ option_map_or (λ name. matches_under house (record { county = index; segment = segment; name = name })) name [])
    c.in-Some.ensures.value ∙ ap (λ segment. matches ++ matches_on_segment street house index segment) (sym read) in
    subst (λ all. OnOk c.push_matches.result (g.F.Findings.has c.push_matches.new.found all)) is (c.push_matches.ensures matches has)

pub returns-clause-by_name : goal.returns-clause-by_name
returns-clause-by_name g c =
    let segment = c.index-segments-n.result in
    subst (IsOnByName (parts_of c.args.self.street)) (sym (segment_at-read c.args.county.now.segments c.args.n segment c.requires
    (c.index-segments-n.is ∙ ap (λ segments. get_or segments c.args.n segment) c.segments.ensures.value))) c.name_on.ensures.by_name
