use Rattle.std.proofs.Common.{[], ◌++◌, refl, sym, ◌∙◌, subst, append_assoc}
use Rattle.std.proofs.lemmas.List.{append-nil}
use Rattle.geocode.specs.Candidates.{segment_at}
use Rattle.geocode.specs.Matches.{matches_on_segment}
use Rattle.geocode.specs.Street.{parts_of}
use Rattle.geocode.proofs.SearchLemmas.{searched-end, searched-next, searched-start}
use Rattle.geocode.proofs.search.Search.push_in_county.Goals as goal

pub loop-candidate-init : goal.loop-candidate-init
loop-candidate-init g c = (
  [],
  searched-start (parts_of c.args.self.street) c.args.self.house c.args.county_index c.args.county.now c.requires,
  λ matches has. subst (g.F.Findings.has c.args.found.now) (sym (append-nil matches)) has,
)

pub push_on_segment-requires : goal.push_on_segment-requires
push_on_segment-requires g c κs = (
  (refl, (refl, tt)),
  (searched-next (parts_of c.args.self.street) c.args.self.house c.args.county_index c.args.county.now c.loop-candidate.invariant.1
      (c.in-Some.ensures.next c.args.county.now.segments)).inside,
)

pub loop-candidate-smaller-in-Continue-1 : goal.loop-candidate-smaller-in-Continue-1
loop-candidate-smaller-in-Continue-1 g c =
    let walked = c.loop-candidate.invariant.1.matches in
    c.in-Some.ensures.fewer c.args.county.now.segments walked.rest walked.left

pub loop-candidate-smaller : goal.loop-candidate-smaller
loop-candidate-smaller g c =
    let walked = c.loop-candidate.invariant.1.matches in
    c.in-Some.ensures.fewer c.args.county.now.segments walked.rest walked.left

pub loop-candidate-preserved-in-Continue-1 : goal.loop-candidate-preserved-in-Continue-1
loop-candidate-preserved-in-Continue-1 g c =
    let street = parts_of c.args.self.street in
    let house = c.args.self.house in
    let county = c.args.county.now in
    let before = c.loop-candidate.invariant in
    let more = matches_on_segment street house c.args.county_index (segment_at county.segments c.in-Some.candidate.segment) in (
      before.0 ++ more,
      (searched-next street house c.args.county_index county before.1 (c.in-Some.ensures.next county.segments)).looked_at
          c.push_on_segment.ensures.by_name,
      λ matches has. subst (g.F.Findings.has c.push_on_segment.new.found) (append_assoc matches before.0 more)
          (c.in_ok-push_on_segment.ensures.matches (matches ++ before.0) (before.2 matches has)),
    )

pub loop-candidate-preserved : goal.loop-candidate-preserved
loop-candidate-preserved g c =
    let before = c.loop-candidate.invariant in (
      before.0,
      (searched-next (parts_of c.args.self.street) c.args.self.house c.args.county_index c.args.county.now before.1
          (c.in-Some.ensures.next c.args.county.now.segments)).skipped (sym c.covers.ensures ∙ c.if-covers.false),
      before.2,
    )

pub returns-clause-matches : goal.returns-clause-matches
returns-clause-matches g c = λ matches has.
    let before = c.loop-candidate.invariant in
    let end = searched-end (parts_of c.args.self.street) c.args.self.house c.args.county_index c.args.county.now before.1
    (c.in_default.ensures.next c.args.county.now.segments) in
    subst (λ more. g.F.Findings.has c.loop-candidate.found (matches ++ more)) end.0 (before.2 matches has)

pub returns-clause-hits : goal.returns-clause-hits
returns-clause-hits g c =
    (searched-end (parts_of c.args.self.street) c.args.self.house c.args.county_index c.args.county.now c.loop-candidate.invariant.1
    (c.in_default.ensures.next c.args.county.now.segments)).1
