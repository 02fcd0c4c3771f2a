use Rattle.std.proofs.Common.{◌++◌, ◌∙◌, sym, ap, rules, List, ℕ}
use Rattle.std.specs.String.{string_bytes}
use Rattle.listing_notes.specs.Notation.{fact_text}
use Rattle.listing_notes.proofs.LoopLemmas.{appended-twice, comma-next, facts-next}
use Rattle.listing_notes.proofs.facts.push_facts.Goals as goal

pub loop-part-preserved : goal.loop-part-preserved
loop-part-preserved g c =
    let comma_is = c.in_ok-push_str.ensures.bytes ∙ ap (λ (text : List ℕ). string_bytes c.loop-part.text ++ text) c.loop-part.invariant.comma in
    let fact_is = appended-twice (string_bytes c.loop-part.text) _ _ comma_is c.in_ok-push_fact.ensures in
    record {
      text = appended-twice (string_bytes c.args.text.now) _ _ c.loop-part.invariant.text fact_is
          ∙ ap (λ (text : List ℕ). string_bytes c.args.text.now ++ text)
          (sym (facts-next (fact_text c.args.known.now) c.args.parts.now c.loop-part.part-index _ c.loop-part-test.true));
      utf8 = search rules;
      comma = comma-next c.args.parts.now c.loop-part.part-index c.loop-part-test.true;
    }
