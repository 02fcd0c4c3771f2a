use Rattle.std.proofs.Common.{arith}
use Rattle.std.specs.String.{string_bytes}
use Rattle.bpf_text.proofs.HexadecimalLemmas.{written-more, written-all}
use Rattle.bpf_text.proofs.disassembler.push_hexadecimal.Goals as goal

pub loop-remaining-preserved : goal.loop-remaining-preserved
loop-remaining-preserved g c = record {
  written = written-more (string_bytes c.loop-remaining.text) c.loop-remaining.remaining c.args.number c.loop-remaining-test.true c.in_ok-push_str.ensures.bytes
      c.digit.ensures c.loop-remaining.invariant.written;
  few = omega (arith, c.loop-remaining.invariant.few);
}

pub returns : goal.returns
returns g c = written-all (string_bytes c.loop-remaining.text) _ c.loop-remaining.remaining c.args.number
    (omega (arith, c.loop-remaining-test.false)) c.loop-remaining.invariant.written
