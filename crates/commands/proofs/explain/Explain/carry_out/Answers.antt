use Rattle.std.proofs.Common.{refl, inl, ℕ, List, subst}
use Rattle.bpf_explain.specs.Explanation.{Explains, IsExplainFault}
use Rattle.commands.specs.Explain.{of_length}
use Rattle.commands.proofs.CarriedLemmas.{program_carried}
use Rattle.commands.proofs.ExplainLemmas.{explained_carried, fault_carried, holds_before}
use Rattle.commands.proofs.explain.Explain.carry_out.Goals as goal

pub returns-in-Err-clause-carried : goal.returns-in-Err-clause-carried
returns-in-Err-clause-carried g c =
    rw c.of_program.ensures (program_carried g.F.Files.opens c.args.self.program _ c.in-Err.fault (inl refl) c.in-Err.ensures.refused
    c.in-Err.ensures.fault c.in-Err.ensures.uses
    (λ fault is. of_length fault is refl refl))

pub returns-clause-carried : goal.returns-clause-carried
returns-clause-carried g c =
    rw c.refusal.ensures (fault_carried c.args.self c.in-Ok.ensures.uses c.in-Ok-read_lines_file.ensures.counts c.in-Ok.ensures.stay
    c.in-Ok-read_lines_file.places.items c.in-Err-explain.fault c.in-Ok-read_lines_file.ensures.hold
    (subst (λ (places : List ℕ). IsExplainFault places c.in-Err-explain.fault) c.as_slice-2.ensures.value c.in-Err-explain.ensures.err))

pub returns-in-Ok-explain-clause-carried : goal.returns-in-Ok-explain-clause-carried
returns-in-Ok-explain-clause-carried g c =
    explained_carried c.args.self c.in-Ok.ensures.uses c.in-Ok-read_lines_file.ensures.counts c.in-Ok.ensures.stay
    (record {
      program = c.in-Ok.program.items;
      is_program = c.in-Ok.ensures.known;
      places = c.in-Ok-read_lines_file.places.items;
      is_places = holds_before c.args.self.lines c.in-Ok-read_lines_file.places.items c.in-Ok.ensures.stay c.in-Ok-read_lines_file.ensures.hold;
    })
    c.in-Ok-explain.explanation.text.items c.in-Ok-explain.explanation.verdict c.write_explanation.result
    (subst (λ (program : List ℕ). Explains program c.in-Ok-read_lines_file.places.items c.in-Ok-explain.explanation.text.items
    c.in-Ok-explain.explanation.verdict) c.as_slice.ensures.value
    (subst (λ (places : List ℕ). Explains c.as_slice.result.now places c.in-Ok-explain.explanation.text.items
    c.in-Ok-explain.explanation.verdict) c.as_slice-2.ensures.value c.in-Ok-explain.ensures.explained))
    c.write_explanation.ensures
