use Rattle.std.proofs.Common.{◌∙◌}
use Rattle.named_files.proofs.FileLemmas.{read_fault, used, named_close}
use Rattle.named_files.proofs.files.read_file_prefix.Goals as goal

pub returns-in-Ok-clause-uses : goal.returns-in-Ok-clause-uses
returns-in-Ok-clause-uses g c =
    used c.args.name.now _ _ (c.close.ensures.opens ∙ c.in-Ok.ensures.opens.opens) c.in-Ok.ensures.known.failed c.in-Ok.ensures.opens.reads
    (named_close c.in-Ok.ensures.name c.close.ensures.reads) c.read_prefix-read.result c.read_prefix-read.ensures.reads

pub returns-in-Ok-clause-fault : goal.returns-in-Ok-clause-fault
returns-in-Ok-clause-fault g c =
    read_fault c.args.name.now (g.F.Files.disk c.args.files.now)
    (g.F.Files.disk c.close.new.self)
    (c.close.ensures.opens ∙ c.in-Ok.ensures.opens.opens) c.in-Ok.ensures.known.failed c.in-Ok.ensures.opens.reads
    (named_close c.in-Ok.ensures.name c.close.ensures.reads) g.F.Files.opens c.in-Ok.file.reader c.in-Ok.ensures.opened c.read_prefix-read.result
    c.read_prefix-read.ensures.reads
