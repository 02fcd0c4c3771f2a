use Rattle.std.proofs.Common.{◌++◌, ◌∙◌, sym, ap, List, ℕ}
use Rattle.std.specs.String.{string_bytes}
use Rattle.listing_notes.specs.Notation.{mark_code}
use Rattle.listing_notes.proofs.LoopLemmas.{appended-twice, map-next}
use Rattle.listing_notes.proofs.notation.push_marks.Goals as goal

pub loop-mark-preserved : goal.loop-mark-preserved
loop-mark-preserved g c =
    appended-twice (string_bytes c.args.text.now) _ _ c.loop-mark.invariant
    (c.in_ok-push_str.ensures.bytes ∙ ap (λ (text : List ℕ). string_bytes c.loop-mark.text ++ text) c.mark_text.ensures)
    ∙ ap (λ (text : List ℕ). string_bytes c.args.text.now ++ text)
    (sym (map-next mark_code c.args.marks.now c.loop-mark.mark-index _ c.loop-mark-test.true))
