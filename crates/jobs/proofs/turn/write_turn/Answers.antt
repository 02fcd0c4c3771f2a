use Rattle.std.proofs.Common.{◌≡◌, ◌∙◌, length, refl, arith, sym, subst}
use Rattle.std.proofs.lemmas.Bool.Decides.{nat_tests}
use Rattle.std.proofs.lemmas.Result.{err_from_is_err_and}
use Rattle.jobs.specs.Segments.{Advances, segments_of}
use Rattle.jobs.proofs.SegmentLemmas.{none_turned, rows_stay, turn_needs_row, turn_of_rest, turn_whole, turned_more}
use Rattle.jobs.proofs.turn.write_turn.Goals as goal

pub loop-left-init : goal.loop-left-init
loop-left-init g c = record { cursor = c.requires; turned = none_turned _ _ _ _ c.requires }

pub returns-then-is_empty-clause-ok : goal.returns-then-is_empty-clause-ok
returns-then-is_empty-clause-ok g c =
    let is = sym c.is_empty.ensures ∙ c.if-is_empty.true in
    let none : length c.next-segments.result.now ≡ 0 = grind (arith, nat_tests, is) in
    let done : c.loop-left.cursor.done ≡ c.next-segments.new.self.done = omega (arith, c.next-segments.ensures.done) in
    subst (λ done. Advances c.args.verified.now.code (segments_of c.args.counties.now) c.args.from.done c.args.out.now.inner.items done
    c.loop-left.out.inner.items) done
    (turn_of_rest _ _ _ _ _ _ _ c.loop-left.invariant.turned c.requires.within (c.next-segments.ensures.end none))

pub returns-in_err-write_segments-clause-err : goal.returns-in_err-write_segments-clause-err
returns-in_err-write_segments-clause-err g c =
    let returned = err_from_is_err_and c.from_residual.result c.from_residual.ensures.1 in
    rw returned.1 (rows_stay _ _ _ _ _ _ _ c.loop-left.invariant.turned c.next-segments.new.self c.next-segments.result.now c.next-segments.ensures.next
    c.next-segments.ensures.few _ _ refl _ refl c.in_err-write_segments.ensures.written)

pub returns-in_err-write_segments-clause-needs_row : goal.returns-in_err-write_segments-clause-needs_row
returns-in_err-write_segments-clause-needs_row g c =
    let returned = err_from_is_err_and c.from_residual.result c.from_residual.ensures.1 in
    rw returned.1 (turn_needs_row _ _ _ _ _ _ _ c.loop-left.invariant.turned c.next-segments.new.self c.next-segments.result.now c.next-segments.ensures.next
    c.next-segments.ensures.few _ _ refl _ refl c.in_err-write_segments.ensures.written)

pub loop-left-preserved : goal.loop-left-preserved
loop-left-preserved g c = record {
  cursor = c.next-segments.ensures.cursor;
  turned = turned_more _ _ _ _ _ _ _ c.loop-left.invariant.turned c.next-segments.new.self c.next-segments.result.now c.next-segments.ensures.next c.next-segments.ensures.few
      _ _ refl _ refl c.next-segments.ensures.done c.in_ok-write_segments.ensures.written;
}

pub returns-clause-cursor : goal.returns-clause-cursor
returns-clause-cursor g c = c.loop-left.invariant.cursor

pub returns-clause-ok : goal.returns-clause-ok
returns-clause-ok g c =
    let none = c.loop-left-test.false in
    turn_whole _ _ _ _ _ _ _ c.loop-left.invariant.turned c.requires.within (omega arith)
