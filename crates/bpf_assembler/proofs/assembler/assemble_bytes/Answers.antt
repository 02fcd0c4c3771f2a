use Rattle.bpf_assembler.proofs.StatementLemmas.{means-by}
use Rattle.bpf_assembler.proofs.assembler.assemble_bytes.Goals as goal

pub returns-in-Ok : goal.returns-in-Ok
returns-in-Ok g c =
    let notes = c.in_ok-notes.ensures.notes in
    means-by c.args.text.now notes.statements _ c.in-Ok.code notes.has_statements
    (c.in_ok-builder.ensures notes.statements notes.noted) c.in-Ok.ensures.ok.0 c.in-Ok.ensures.ok.1.0
