use Rattle.std.proofs.Common.{◌+◌, ◌<◌, [], length, refl, sym, arith}
use Rattle.tl_segments.specs.FullName.{full_name_of}
use Rattle.tl_segments.specs.Segment.{names_of}
use Rattle.geocode.specs.Street.{parts_of}
use Rattle.geocode.proofs.HitLemmas.{read-within}
use Rattle.geocode.proofs.StreetLemmas.{NoneFits, fits-here, fits-later, fits-nowhere}
use Rattle.geocode.proofs.street.Street.first_fitting.Goals as goal
use Rattle.geocode.proofs.street.Street.first_fitting.Goals.{in-Some+else-fits, in_default, else-loop-n-test, then-loop-n-test+else-n-n-end}

pub loop-n-init : goal.loop-n-init
loop-n-init g c = record { full = refl; named = λ alone. refl }

pub returns-then-fits-clause-value : goal.returns-then-fits-clause-value
returns-then-fits-clause-value g c =
    sym (fits-here (parts_of c.args.self) c.args.segment.now c.loop-n.n (full_name_of c.in-Some.name) c.loop-n.invariant
    (record { full = c.in-Some.ensures.value; named = c.in-Some.ensures.name }) c.if-fits.ensures).0

pub returns-then-fits-clause-by_name : goal.returns-then-fits-clause-by_name
returns-then-fits-clause-by_name g c =
    (fits-here (parts_of c.args.self) c.args.segment.now c.loop-n.n (full_name_of c.in-Some.name) c.loop-n.invariant
    (record { full = c.in-Some.ensures.value; named = c.in-Some.ensures.name }) c.if-fits.ensures).1

pub loop-n-preserved : goal.loop-n-preserved
loop-n-preserved g c =
    let segment = c.args.segment.now in
    let n = c.loop-n.n in
    let inside : n < length (names_of segment) = omega (arith, c.loop-n-test.true, c.names-n-end.ensures.value) in
    elim c.match-full_name.branch [
      | in-Some+else-fits w ↦ fits-later (parts_of c.args.self) segment n (full_name_of w.in-Some.name) c.loop-n.invariant
          (record { full = w.in-Some.ensures.value; named = w.in-Some.ensures.name }) w.if-fits.ensures
      | in_default w ↦ absurd (read-within (names_of segment) n [] inside w.in_default.ensures.name)
    ]

pub returns-clause-value : goal.returns-clause-value
returns-clause-value g c =
    let segment = c.args.segment.now in
    let n = c.loop-n.n in
    let inside : n < length (names_of segment) = omega (arith, c.loop-n.auto.n-end, c.names-n-end.ensures.value) in
    elim c.loop-n-test.branch [
      | else-loop-n-test w ↦ absurd (omega (arith, w.loop-n-test.false, c.loop-n.auto.n-end))
      | then-loop-n-test+else-n-n-end w ↦ (
          let none : NoneFits (parts_of c.args.self) segment (n + 1) = elim w.match-full_name.branch [
            | in-Some+else-fits w' ↦ fits-later (parts_of c.args.self) segment n (full_name_of w'.in-Some.name) c.loop-n.invariant
                (record { full = w'.in-Some.ensures.value; named = w'.in-Some.ensures.name }) w'.if-fits.ensures
            | in_default w' ↦ absurd (read-within (names_of segment) n [] inside w'.in_default.ensures.name)
          ] in
          sym (fits-nowhere (parts_of c.args.self) segment (n + 1) none (omega (arith, c.names-n-end.ensures.value))).0)
    ]

pub returns-clause-by_name : goal.returns-clause-by_name
returns-clause-by_name g c =
    let segment = c.args.segment.now in
    let n = c.loop-n.n in
    let inside : n < length (names_of segment) = omega (arith, c.loop-n.auto.n-end, c.names-n-end.ensures.value) in
    elim c.loop-n-test.branch [
      | else-loop-n-test w ↦ absurd (omega (arith, w.loop-n-test.false, c.loop-n.auto.n-end))
      | then-loop-n-test+else-n-n-end w ↦ (
          let none : NoneFits (parts_of c.args.self) segment (n + 1) = elim w.match-full_name.branch [
            | in-Some+else-fits w' ↦ fits-later (parts_of c.args.self) segment n (full_name_of w'.in-Some.name) c.loop-n.invariant
                (record { full = w'.in-Some.ensures.value; named = w'.in-Some.ensures.name }) w'.if-fits.ensures
            | in_default w' ↦ absurd (read-within (names_of segment) n [] inside w'.in_default.ensures.name)
          ] in
          (fits-nowhere (parts_of c.args.self) segment (n + 1) none (omega (arith, c.names-n-end.ensures.value))).1)
    ]
