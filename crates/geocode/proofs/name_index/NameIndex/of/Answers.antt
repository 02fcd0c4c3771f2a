use Rattle.std.proofs.Common.{◌≡◌, ℕ, ◌+◌, ◌-◌, ◌<◌, drop, length, sym, subst, arith}
use Rattle.std.proofs.Math.Seq.{drop-length}
use Rattle.std.proofs.lemmas.List.Elements.{All-nil}
use Rattle.geocode.specs.NameIndex.{HasSpans, IsIndexFrom}
use Rattle.geocode.specs.Candidates.{segment_at}
use Rattle.geocode.specs.Span.{IncludesHits}
use Rattle.geocode.proofs.CandidateLemmas.{segment_at-read}
use Rattle.geocode.proofs.NameIndexLemmas.{IsIndexFrom-next}
use Rattle.geocode.proofs.name_index.NameIndex.of.Goals as goal

pub loop-n-init : goal.loop-n-init
loop-n-init g c =
    let segments = c.args.segments.now in (
      subst (IsIndexFrom c.in_ok-index.index (length segments)) (sym (drop-length segments)) c.in_ok-index.ensures.chains,
      subst (λ links. HasSpans links segments) (sym c.in_ok-index.ensures.links) (All-nil _),
    )

pub loop-n-preserved : goal.loop-n-preserved
loop-n-preserved g c =
    let segments = c.args.segments.now in
    let n = c.loop-n.n - 1 in
    let after : c.loop-n.n ≡ n + 1 = omega (arith, c.loop-n-test.true) in
    let inside : n < length segments = omega (arith, c.loop-n-test.true, c.loop-n.auto.n) in
    let included : IncludesHits c.of.result (segment_at segments n) =
    subst (IncludesHits c.of.result) (sym (segment_at-read segments n c.index-segments-n.result inside c.index-segments-n.is)) c.of.ensures in (
      IsIndexFrom-next c.loop-n.index c.add_segment.new.self n c.of.result segments (inside, c.index-segments-n.is)
          (subst (λ (n : ℕ). IsIndexFrom c.loop-n.index n (drop n segments)) after c.loop-n.invariant.0) c.in_ok-add_segment.ensures,
      c.in_ok-add_segment.ensures.spans segments included c.loop-n.invariant.1,
    )

pub returns : goal.returns
returns g c =
    let done : c.loop-n.n ≡ 0 = omega (arith, c.loop-n-test.false) in
    record {
      chains = subst (λ (n : ℕ). IsIndexFrom c.loop-n.index n (drop n c.args.segments.now)) done c.loop-n.invariant.0;
      spans = c.loop-n.invariant.1;
    }
