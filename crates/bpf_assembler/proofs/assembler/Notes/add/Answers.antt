use Rattle.std.proofs.Common.{Result, Ok, refl, sym, ap, ◌∙◌}
use Rattle.bpf_assembler.specs.declared.statement.Statement.{Statement}
use Rattle.bpf_assembler.specs.declared.fault.TextFaultKind.{TextFaultKind}
use Rattle.bpf_assembler.specs.Statement as line
use Rattle.bpf_assembler.specs.View.{meaning_of}
use Rattle.bpf_assembler.specs.Notes.{places_in}
use Rattle.bpf_assembler.proofs.NoteLemmas.{noted-blank}
use Rattle.bpf_assembler.proofs.assembler.Notes.add.Goals as goal

pub returns-in-Ok-Blank-clause-noted : goal.returns-in-Ok-Blank-clause-noted
returns-in-Ok-Blank-clause-noted g c = λ before notes number.
    let means = sym c.in-Ok-Blank.ensures ∙ ap (λ (s : Statement). let r : Result line.Statement TextFaultKind = Ok (meaning_of s) in r)
    c.in-Ok-Blank.field-0-is in
    (line.Blank, means, refl, noted-blank c.args.self.now.items.items (places_in c.args.self.now.labels) c.args.self.now.words before notes)
