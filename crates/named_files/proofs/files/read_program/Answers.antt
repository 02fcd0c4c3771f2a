use Rattle.std.proofs.Common.{◌∙◌, List, ℕ, Some, rules, subst, sym}
use Rattle.std.specs.Io.KnownBytes.{Keeps}
use Rattle.counted_io.proofs.KnownBytesLemmas.{Consumes-append}
use Rattle.named_files.proofs.ProgramLemmas.{read_whole, rest_more, too_long_as}
use Rattle.named_files.proofs.files.read_program.Goals as goal

pub returns-in-Ok-complete-clause-program : goal.returns-in-Ok-complete-clause-program
returns-in-Ok-complete-clause-program g c =
    let all = c.in-Ok-complete.ensures.ok c.loop.invariant.0 c.loop.invariant.2 in (
      subst (λ (bytes : List ℕ). Keeps (g.R.CountedRead.reader c.args.input.now).left (Some bytes)) (sym all.0)
          (read_whole c.loop.invariant.0 c.read_counted.new.buf _ _ _ _ c.loop.invariant.1 c.in-Ok-eq0.ensures.bytes
          c.in-Ok-eq0.field-0-test (search rules)),
      all.1,
    )

pub returns-in-Err-complete-clause-refused : goal.returns-in-Err-complete-clause-refused
returns-in-Err-complete-clause-refused g c =
    too_long_as _ (Some c.loop.invariant.0) c.in-Err-complete.fault
    (read_whole c.loop.invariant.0 c.read_counted.new.buf _ _ _ _ c.loop.invariant.1 c.in-Ok-eq0.ensures.bytes c.in-Ok-eq0.field-0-test
    (search rules))
    (c.in-Err-complete.ensures.err c.loop.invariant.0 c.loop.invariant.2 c.loop.invariant.3)

pub loop-preserved : goal.loop-preserved
loop-preserved g c = (
  _,
  Consumes-append _ _ _ _ _ c.loop.invariant.1 c.in-Ok.ensures.bytes.0,
  c.in_ok-append_up_to-in-Ok.ensures c.loop.invariant.0 c.loop.invariant.2,
  rest_more c.loop.invariant.0 c.read_counted.new.buf _ _ c.loop.invariant.3 c.in-Ok.ensures.bound.0,
  c.in-Ok.ensures.failures ∙ c.loop.invariant.4,
)
