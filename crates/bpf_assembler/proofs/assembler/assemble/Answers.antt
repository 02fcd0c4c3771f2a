use Rattle.std.proofs.Common.{ℕ, List, MatchResult, subst}
use Rattle.bpf_assembler.specs.Text.{Means, IsFirstFault}
use Rattle.bpf_assembler.proofs.StatementLemmas.{only-code, names-the-fault}
use Rattle.bpf_assembler.proofs.assembler.assemble.Goals as goal

pub returns-clause-only : goal.returns-clause-only
returns-clause-only g c = only-code c.args.text.now c.assemble_bytes.result
    (subst (λ (text : List ℕ). MatchResult c.assemble_bytes.result (Means text) (IsFirstFault text)) c.as_bytes.ensures.value
    c.assemble_bytes.ensures)

pub returns-clause-refused : goal.returns-clause-refused
returns-clause-refused g c = names-the-fault c.args.text.now c.assemble_bytes.result
    (subst (λ (text : List ℕ). MatchResult c.assemble_bytes.result (Means text) (IsFirstFault text)) c.as_bytes.ensures.value
    c.assemble_bytes.ensures)
