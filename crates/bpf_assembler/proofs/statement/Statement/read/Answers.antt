use Rattle.std.proofs.Common.{sym, ap, ◌∙◌}
use Rattle.bpf_assembler.specs.Statement.{statement_of}
use Rattle.bpf_assembler.proofs.OperandPairLemmas.{statement-of-instruction}
use Rattle.bpf_assembler.proofs.statement.Statement.read.Goals as goal

pub returns : goal.returns
returns c =
    let instruction = statement-of-instruction c.content_of-content.result.now (sym c.if-is_empty.ensures) c.if-content-last-eq58.false in
    c.instruction_of.ensures ∙ (sym instruction ∙ ap statement_of c.content_of-content.ensures)
