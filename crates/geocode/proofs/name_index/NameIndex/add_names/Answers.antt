use Rattle.std.proofs.Common.{◌+◌, ◌<◌, ◌≤◌, [], length, take, sym, subst, arith}
use Rattle.std.proofs.lemmas.List.{take_all}
use Rattle.tl_segments.specs.Segment.{names_of}
use Rattle.geocode.specs.NameHash.{key_of}
use Rattle.geocode.specs.NameIndex.{AddsNames, AddsTo}
use Rattle.geocode.proofs.HitLemmas.{read-within}
use Rattle.geocode.proofs.NameIndexLemmas.{AddsNames-next}
use Rattle.geocode.proofs.name_index.NameIndex.add_names.Goals as goal
use Rattle.geocode.proofs.name_index.NameIndex.add_names.Goals.{in-Some+in_ok-add, in_default}

pub loop-name-preserved : goal.loop-name-preserved
loop-name-preserved g c =
    let names = names_of c.args.segment.now in
    let n = c.loop-name.name in
    let inside : n < length names = omega (arith, c.loop-name-test.true, c.names-name-end.ensures.value) in
    elim c.match-name.branch [
      | in-Some+in_ok-add w ↦ subst (λ index. AddsNames c.args.self.now index c.args.n c.args.span (take (n + 1) names)) (sym w.self-is)
          (AddsNames-next c.args.self.now c.loop-name.self w.add.new.self c.args.n c.args.span names n w.in-Some.ensures.value (
            c.loop-name.invariant,
            subst (λ hash. AddsTo c.loop-name.self w.add.new.self (key_of c.loop-name.self.keys hash) c.args.n c.args.span) w.hash_of.ensures
                w.in_ok-add.ensures,
          ))
      | in_default w ↦ absurd (read-within names n [] inside w.in_default.ensures.value)
    ]

pub returns-after-name : goal.returns-after-name
returns-after-name g c =
    let names = names_of c.args.segment.now in
    let n = c.loop-name.name in
    let inside : n < length names = omega (arith, c.loop-name-test.true, c.names-name-end.ensures.value) in
    let last : length names ≤ n + 1 = omega (arith, c.names-name-end.ensures.value) in
    let all : AddsNames c.args.self.now c.match-name.self c.args.n c.args.span (take (n + 1) names) = elim c.match-name.branch [
      | in-Some+in_ok-add w ↦ subst (λ index. AddsNames c.args.self.now index c.args.n c.args.span (take (n + 1) names)) (sym w.self-is)
          (AddsNames-next c.args.self.now c.loop-name.self w.add.new.self c.args.n c.args.span names n w.in-Some.ensures.value (
            c.loop-name.invariant,
            subst (λ hash. AddsTo c.loop-name.self w.add.new.self (key_of c.loop-name.self.keys hash) c.args.n c.args.span) w.hash_of.ensures
                w.in_ok-add.ensures,
          ))
      | in_default w ↦ absurd (read-within names n [] inside w.in_default.ensures.value)
    ] in
    subst (AddsNames c.args.self.now c.match-name.self c.args.n c.args.span) (take_all (n + 1) names last) all
