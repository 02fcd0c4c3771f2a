use Rattle.std.proofs.Common.{refl, ◌∙◌, sym, rules}
use Rattle.listing_notes.specs.Notation.{IsPart}
use Rattle.listing_notes.specs.Reads.{reads}
use Rattle.listing_notes.proofs.LoopLemmas.{parts-next, no-parts, All-next}
use Rattle.listing_notes.proofs.reads.parts_read.Goals as goal

pub loop-index-preserved : goal.loop-index-preserved
loop-index-preserved g c = record {
  value = rw (c.in_ok-push_if.ensures, c.reads.ensures, c.part_at-part.ensures.value, c.loop-index.invariant.value)
      (sym (parts-next (reads c.args.known.now c.args.insn) c.args.first c.loop-index.index _ refl));
  are = All-next IsPart c.loop-index.parts.items _ c.part_at-part.result _ c.loop-index.invariant.are c.part_at-part.ensures.is c.in_ok-push_if.ensures;
}

pub loop-index-init : goal.loop-index-init
loop-index-init g c = record {
  value = c.new-parts.ensures.items ∙ sym (no-parts (reads c.args.known.now c.args.insn) c.args.first);
  are = search rules;
}
