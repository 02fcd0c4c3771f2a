use Rattle.std.proofs.Common.{◌∙◌, arith, rules}
use Rattle.counted_io.proofs.KnownBytesLemmas.{Consumes-append}
use Rattle.named_files.proofs.ProgramLemmas.{prefix_full, prefix_whole, read_whole}
use Rattle.named_files.proofs.files.read_prefix.Goals as goal

pub returns-in-Ok-eq0-clause-prefix : goal.returns-in-Ok-eq0-clause-prefix
returns-in-Ok-eq0-clause-prefix g c =
    prefix_whole c.args.limit c.loop.invariant.0 c.loop.prefix.items c.loop.invariant.2 _
    (read_whole c.loop.invariant.0 c.read_counted.new.buf _ _ _ _ c.loop.invariant.1 c.in-Ok-eq0.ensures.bytes c.in-Ok-eq0.field-0-test
    (search rules))

pub returns-then-len-limit-clause-prefix : goal.returns-then-len-limit-clause-prefix
returns-then-len-limit-clause-prefix g c =
    prefix_full c.args.limit _ _ (c.in_ok-append_up_to-in-Ok.ensures c.loop.invariant.0 c.loop.invariant.2) _ _
    (Consumes-append _ _ _ _ _ c.loop.invariant.1 c.in-Ok.ensures.bytes.0) (omega arith)

pub loop-preserved : goal.loop-preserved
loop-preserved g c = (
  _,
  Consumes-append _ _ _ _ _ c.loop.invariant.1 c.in-Ok.ensures.bytes.0,
  c.in_ok-append_up_to-in-Ok.ensures c.loop.invariant.0 c.loop.invariant.2,
  c.in-Ok.ensures.failures ∙ c.loop.invariant.3,
)
