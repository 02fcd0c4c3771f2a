use Rattle.std.proofs.Common.{arith, subst, ◌≡◌, ◌∙◌, sym, rules, ℕ}
use Rattle.std.specs.Prelude.{filter}
use Rattle.listing_notes.specs.Reads.{parts_from}
use Rattle.listing_notes.specs.declared.reads.TheConstants.{PARTS}
use Rattle.listing_notes.specs.Facts.{is_shown}
use Rattle.listing_notes.specs.Notation.{IsPart}
use Rattle.listing_notes.proofs.LoopLemmas.{parts-next, no-parts, All-next}
use Rattle.listing_notes.proofs.facts.shown_parts.Goals as goal

pub loop-place-preserved : goal.loop-place-preserved
loop-place-preserved g c = record {
  value = rw (c.in_ok-push_if.ensures, c.is_shown.ensures, c.part_at-part.ensures.value, c.loop-place.invariant.value)
      (sym (parts-next (is_shown c.args.last.now c.args.known.now c.args.insn) 0 c.loop-place.place c.loop-place.place (omega arith)));
  are = All-next IsPart c.loop-place.parts.items _ c.part_at-part.result _ c.loop-place.invariant.are c.part_at-part.ensures.is c.in_ok-push_if.ensures;
}

pub loop-place-init : goal.loop-place-init
loop-place-init g c = record {
  value = c.new-parts.ensures.items ∙ sym (no-parts (is_shown c.args.last.now c.args.known.now c.args.insn) 0);
  are = search rules;
}

pub returns-clause-value : goal.returns-clause-value
returns-clause-value g c =
    let end : c.loop-place.place ≡ PARTS = omega arith in
    subst (λ (n : ℕ). c.loop-place.parts.items ≡ filter (is_shown c.args.last.now c.args.known.now c.args.insn) (parts_from 0 n)) end
    c.loop-place.invariant.value
