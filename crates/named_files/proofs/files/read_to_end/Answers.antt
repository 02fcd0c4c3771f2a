use Rattle.std.proofs.Common.{◌∙◌, rules, sym, subst}
use Rattle.std.specs.Io.KnownBytes.{Consumes}
use Rattle.counted_io.proofs.KnownBytesLemmas.{Consumes-append}
use Rattle.named_files.proofs.ProgramLemmas.{read_whole}
use Rattle.named_files.proofs.files.read_to_end.Goals as goal

pub returns-in-Ok-eq0-clause-bytes : goal.returns-in-Ok-eq0-clause-bytes
returns-in-Ok-eq0-clause-bytes g c =
    read_whole c.loop.bytes.items c.read_counted.new.buf _ _ _ _ c.loop.invariant.read c.in-Ok-eq0.ensures.bytes c.in-Ok-eq0.field-0-test
    (search rules)

pub loop-preserved : goal.loop-preserved
loop-preserved g c = record {
  read = subst (Consumes _ _) (sym c.in_ok-extend_from_slice-in-Ok.ensures.items)
      (Consumes-append _ _ _ _ _ c.loop.invariant.read c.in-Ok.ensures.bytes.0);
  reads = c.in-Ok.ensures.failures ∙ c.loop.invariant.reads;
}
