use Rattle.std.proofs.Common.{IsTrue, subst, sym, arith}
use Rattle.tl_segments.specs.Marks.{is_marked, mark_place}
use Rattle.tl_segments.specs.declared.marks.Marks.{Marks}
use Rattle.tl_segments.proofs.MarkLemmas.{kept_beside, kept_in_longer}
use Rattle.tl_segments.proofs.marks.Marks.mark.Goals as goal
use Rattle.tl_segments.proofs.marks.Marks.mark.Goals.{then-place-len+in_ok-resize, else-place-len}

pub returns-clause-kept : goal.returns-clause-kept
returns-clause-kept g c = λ other is.
    let place = mark_place other in
    let grown : IsTrue (is_marked c.if-place-len.self other) = elim c.if-place-len.branch [
      | then-place-len+in_ok-resize w ↦
          subst (λ (marks : Marks _). IsTrue (is_marked marks other)) (sym w.self-is)
          (kept_in_longer c.args.self.now.marks.items w.resize.new.self.items 65536 place (λ k d inside within. w.resize.ensures.by_index.0 k d inside (omega (arith, within))) (omega arith) is)
      | else-place-len w ↦ subst (λ (marks : Marks _). IsTrue (is_marked marks other)) (sym w.self-is) is
    ] in
    kept_beside c.if-place-len.self.marks.items c.place_of-place.result place grown
