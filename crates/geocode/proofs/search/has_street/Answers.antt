use Rattle.std.proofs.Common.{◌≡◌, ◌∷◌, [], Bool, true, false, if◌then◌else◌, ap, sym, ◌∙◌}
use Rattle.geocode.specs.Candidates.{segment_at}
use Rattle.geocode.specs.Street.{is_on_street, parts_of}
use Rattle.geocode.proofs.CandidateLemmas.{walked-end, walked-next}
use Rattle.geocode.proofs.SearchLemmas.{has_any, list_any-signs, sign_of, signs-walked}
use Rattle.geocode.proofs.search.has_street.Goals as goal

pub loop-candidate-init : goal.loop-candidate-init
loop-candidate-init g c = signs-walked (parts_of c.args.street) c.args.county.now.segments c.requires

pub is_on_street-requires : goal.is_on_street-requires
is_on_street-requires g c = (walked-next (sign_of (parts_of c.args.street)) c.args.county.now.segments c.loop-candidate.invariant
    (c.in-Some.ensures.next c.args.county.now.segments)).inside

pub loop-candidate-smaller : goal.loop-candidate-smaller
loop-candidate-smaller g c =
    let walked = c.loop-candidate.invariant in
    c.in-Some.ensures.fewer c.args.county.now.segments walked.rest walked.left

pub returns-then-is_on_street : goal.returns-then-is_on_street
returns-then-is_on_street g c =
    let street = parts_of c.args.street in
    let segments = c.args.county.now.segments in
    let on : is_on_street street (segment_at segments c.in-Some.candidate.segment) ≡ true =
    sym c.is_on_street.ensures ∙ c.if-is_on_street.true in
    let walked = (walked-next (sign_of street) segments c.loop-candidate.invariant (c.in-Some.ensures.next segments)).walked (true ∷ [])
    (ap (λ (on : Bool). if on then true ∷ [] else []) (sym on)) in
    ap has_any walked.so_far ∙ sym (list_any-signs street segments)

pub loop-candidate-preserved : goal.loop-candidate-preserved
loop-candidate-preserved g c =
    let street = parts_of c.args.street in
    let segments = c.args.county.now.segments in
    let other : is_on_street street (segment_at segments c.in-Some.candidate.segment) ≡ false =
    sym c.is_on_street.ensures ∙ c.if-is_on_street.false in
    (walked-next (sign_of street) segments c.loop-candidate.invariant (c.in-Some.ensures.next segments)).walked []
    (ap (λ (on : Bool). if on then true ∷ [] else []) (sym other))

pub returns : goal.returns
returns g c =
    ap has_any (walked-end (sign_of (parts_of c.args.street)) c.args.county.now.segments c.loop-candidate.invariant
    (c.in_default.ensures.next c.args.county.now.segments))
    ∙ sym (list_any-signs (parts_of c.args.street) c.args.county.now.segments)
