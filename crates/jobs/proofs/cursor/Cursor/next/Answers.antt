use Rattle.std.proofs.Common.{◌≡◌, ℕ, ◌+◌, ◌-◌, ◌≤◌, ◌∙◌, List, ◌∷◌, ◌++◌, arith, drop, length, sym, take}
use Rattle.tl_segments.specs.County.{CountyParts}
use Rattle.tl_segments.specs.Segment.{SegmentParts}
use Rattle.jobs.specs.Inside.{left_at}
use Rattle.jobs.specs.declared.cursor.Cursor.{Cursor}
use Rattle.jobs.proofs.SegmentLemmas.{cursor_moved, done_within, drop_found, left_skipped, left_taken}
use Rattle.jobs.proofs.cursor.Cursor.next.Goals as goal

-- the segments of a county up to `end` are the next ones after those before it
next_taken : (counties : List CountyParts) (old now : Cursor) {county : CountyParts} {segments : List SegmentParts} (end done : ℕ)
    → drop now.county counties ≡ county ∷ drop (now.county + 1) counties → segments ≡ county.segments → now.segment ≤ end
    → left_at counties now ≡ left_at counties old → left_at counties old
    ≡ take (end - now.segment) (drop now.segment segments) ++ left_at counties (record { done = done; county = now.county; segment = end })
next_taken counties old now end done here is after same =
    sym same ∙ rw is (left_taken counties now.done now.county now.segment _ here end done after)

pub overflow_add-self : goal.overflow_add-self
overflow_add-self g c =
    let now = c.loop-county.self in
    let here = drop_found _ _ _ _ c.in-Some.ensures.lookup.0 c.in-Some.ensures.lookup.1 in
    let next = next_taken c.args.counties.now c.args.self.now now (now.segment + c.min.result) 0 here
    c.segments-segments.ensures.value (omega arith) c.loop-county.invariant.0 in
    let within = done_within c.args.counties.now c.args.self.now (record { done = 0; county = now.county; segment = now.segment + c.min.result })
    _ c.requires.cursor next in
    let few = c.requires.cursor.few in
    let same = c.loop-county.invariant.1 in
    omega arith

pub returns-then-self-segments-clause-cursor : goal.returns-then-self-segments-clause-cursor
returns-then-self-segments-clause-cursor g c =
    let now = c.loop-county.self in
    let here = drop_found _ _ _ _ c.in-Some.ensures.lookup.0 c.in-Some.ensures.lookup.1 in
    let next = next_taken c.args.counties.now c.args.self.now now (now.segment + c.min.result) 0 here
    c.segments-segments.ensures.value (omega arith) c.loop-county.invariant.0 in
    let same = c.loop-county.invariant.1 in
    let end = now.segment + c.min.result in
    let seen = take (end - now.segment) (drop now.segment c.segments-segments.result.now) in
    cursor_moved c.args.counties.now c.args.self.now (record { done = now.done + length seen; county = now.county; segment = end }) seen
    c.requires.cursor next (omega arith)

pub returns-then-self-segments-clause-next : goal.returns-then-self-segments-clause-next
returns-then-self-segments-clause-next g c =
    let here = drop_found _ _ _ _ c.in-Some.ensures.lookup.0 c.in-Some.ensures.lookup.1 in
    next_taken c.args.counties.now c.args.self.now c.loop-county.self (c.loop-county.self.segment + c.min.result) 0 here
    c.segments-segments.ensures.value (omega arith) c.loop-county.invariant.0

pub loop-county-preserved : goal.loop-county-preserved
loop-county-preserved g c =
    let county = drop_found _ _ _ _ c.in-Some.ensures.lookup.0 c.in-Some.ensures.lookup.1 in
    let none = rw c.segments-segments.ensures.value at c.if-self-segments.false in (
      sym (left_skipped c.args.counties.now c.loop-county.self.done c.loop-county.self.county _ _ county none) ∙ c.loop-county.invariant.0,
      c.loop-county.invariant.1,
    )
