use Rattle.std.proofs.Common.{◌≡◌, ◌+◌, ◌<◌, ◌≤◌, [], length, take, false, Bool, List, ℕ, ap, sym, ◌∙◌, arith}
use Rattle.std.specs.List.{list_any}
use Rattle.std.proofs.lemmas.List.{take_all}
use Rattle.tl_segments.specs.Name.{name_equals}
use Rattle.tl_segments.specs.Segment.{names_of}
use Rattle.geocode.proofs.HitLemmas.{list_any-at, list_any-next, read-within}
use Rattle.geocode.proofs.street.has_name.Goals as goal
use Rattle.geocode.proofs.street.has_name.Goals.{in-Some+else-name_equals, in_default}

pub returns-then-name_equals : goal.returns-then-name_equals
returns-then-name_equals g c =
    sym (list_any-at (λ named. name_equals named c.args.name.now)
    (names_of c.args.segment.now) c.loop-n.n c.in-Some.named.now c.in-Some.ensures.value c.if-name_equals.ensures)

pub loop-n-preserved : goal.loop-n-preserved
loop-n-preserved g c =
    let names = names_of c.args.segment.now in
    let n = c.loop-n.n in
    let inside : n < length names = omega (arith, c.loop-n-test.true, c.names-n-end.ensures.value) in
    elim c.match-name.branch [
      | in-Some+else-name_equals w ↦ list_any-next (λ named. name_equals named c.args.name.now) names n w.in-Some.named.now
          w.in-Some.ensures.value w.if-name_equals.ensures c.loop-n.invariant
      | in_default w ↦ absurd (read-within names n [] inside w.in_default.ensures.value)
    ]

pub returns-after-name : goal.returns-after-name
returns-after-name g c =
    let test : List ℕ → Bool = λ named. name_equals named c.args.name.now in
    let names = names_of c.args.segment.now in
    let n = c.loop-n.n in
    let inside : n < length names = omega (arith, c.loop-n-test.true, c.names-n-end.ensures.value) in
    let last : length names ≤ n + 1 = omega (arith, c.names-n-end.ensures.value) in
    let none : list_any test (take (n + 1) names) ≡ false = elim c.match-name.branch [
      | in-Some+else-name_equals w ↦ list_any-next test names n w.in-Some.named.now w.in-Some.ensures.value w.if-name_equals.ensures
          c.loop-n.invariant
      | in_default w ↦ absurd (read-within names n [] inside w.in_default.ensures.value)
    ] in
    sym none ∙ ap (list_any test) (take_all (n + 1) names last)
