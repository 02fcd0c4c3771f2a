use Rattle.std.proofs.Common.{refl, ◌∙◌}
use Rattle.std.proofs.lemmas.Result.{err_from_is_err_and}
use Rattle.extract.proofs.ExtractLemmas.{nothing_so_far, one_segment_more, end_outcome, fault_outcome, write_outcome}
use Rattle.extract.proofs.extractor.write_selected.Goals as goal

pub loop-segment-init : goal.loop-segment-init
loop-segment-init g c = record { so_far = nothing_so_far _ _ _ _ _ _ _ refl refl; same = refl }

pub returns-in_err-next_segment : goal.returns-in_err-next_segment
returns-in_err-next_segment g c = record {
  outcome = λ old new serves.
      let returned = err_from_is_err_and c.from_residual.result c.from_residual.ensures.1 in
      rw (returned.1, returned.2) (fault_outcome c.loop-segment.invariant.so_far serves _
      (record { number = c.next_segment.new.number; segment = c.next_segment.new.segment; after = _; is = c.in_err-next_segment.ensures }));
  same = c.loop-segment.invariant.same;
}

pub returns-in_err-count : goal.returns-in_err-count
returns-in_err-count g c = record {
  outcome = λ old new serves.
      let next = rw c.in-Some.is at c.in_ok-next_segment.ensures in
      let returned = err_from_is_err_and c.from_residual-in_err-count.result c.from_residual-in_err-count.ensures.1 in
      rw (returned.1, returned.2) (write_outcome c.loop-segment.invariant.so_far serves
      (record { number = c.next_segment.new.number; segment = c.next_segment.new.segment; after = _; is = next }) _ _ _
      c.loop-segment.invariant.same c.in_err-count.ensures.written);
  same = c.in_err-count.ensures.same ∙ c.loop-segment.invariant.same;
}

pub loop-segment-preserved : goal.loop-segment-preserved
loop-segment-preserved g c =
    let next = rw c.in-Some.is at c.in_ok-next_segment.ensures in
    record {
      so_far = one_segment_more c.loop-segment.invariant.so_far
          (record { number = c.next_segment.new.number; segment = c.next_segment.new.segment; after = _; is = next }) _ _ _
          c.loop-segment.invariant.same c.in_ok-count.ensures.written;
      same = c.in_ok-count.ensures.same ∙ c.loop-segment.invariant.same;
    }

pub returns : goal.returns
returns g c = record {
  outcome = λ old new serves.
      let next = rw c.in_default.is at c.in_ok-next_segment.ensures in
      end_outcome c.loop-segment.invariant.so_far serves
      (record { number = c.next_segment.new.number; segment = c.next_segment.new.segment; after = _; is = next });
  same = c.loop-segment.invariant.same;
}
