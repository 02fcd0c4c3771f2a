use Rattle.std.proofs.Common.{List, refl, sym, ◌∙◌}
use Rattle.std.proofs.lemmas.List.{at_drop_all}
use Rattle.command_tests.specs.Memory.{bytes_named}
use Rattle.command_tests.specs.declared.files.MemoryFile.{MemoryFile}
use Rattle.command_tests.proofs.MemoryLemmas.{named_here, named_later}
use Rattle.command_tests.proofs.files.file_named.Goals as goal

pub loop-file-init : goal.loop-file-init
loop-file-init c = refl

pub returns-then-eq : goal.returns-then-eq
returns-then-eq c =
    c.loop-file.invariant ∙ named_here c.args.files.now c.loop-file.file-index c.file-item.result c.args.name.now c.loop-file-test.true
    c.file-item.is (sym c.eq.ensures ∙ c.if-eq.true)

pub loop-file-preserved : goal.loop-file-preserved
loop-file-preserved c =
    c.loop-file.invariant ∙ named_later c.args.files.now c.loop-file.file-index c.file-item.result c.args.name.now c.loop-file-test.true
    c.file-item.is (sym c.eq.ensures ∙ c.if-eq.false)

pub returns : goal.returns
returns c =
    c.loop-file.invariant ∙ at_drop_all (λ (files : List MemoryFile). bytes_named files c.args.name.now) c.args.files.now
    c.loop-file.file-index c.loop-file-test.false
