use Rattle.std.proofs.Common.{◌+◌, ap, drop, refl, arith, length, length-drop}
use Rattle.bpf_assembler.proofs.WordLemmas.{rest-from}
use Rattle.reports.proofs.EscapeLemmas.{control_at, escape_stopped, front_last, front_more, front_none, plain_stopped}
use Rattle.reports.proofs.escape.write_escaped.Goals as goal

pub loop-place-init : goal.loop-place-init
loop-place-init g c = record {
  wrote = rw c.as_bytes-rest.ensures.value (front_none c.args.text.now _);
  within = omega (arith, ap length c.as_bytes-rest.ensures.value);
}

pub returns-in-Err : goal.returns-in-Err
returns-in-Err g c =
    plain_stopped c.loop-place.invariant.wrote c.in-Some.place _ (drop (c.in-Some.place + 1) c.loop-place.rest.now) c.in-Some.ensures.value
    (grind arith) refl _ c.in-Err.fault c.in-Err.ensures

pub write_escape-requires : goal.write_escape-requires
write_escape-requires g c = control_at c.loop-place.rest.now c.in-Some.place c.in-Some.ensures.value

pub returns-in-Err-write_escape : goal.returns-in-Err-write_escape
returns-in-Err-write_escape g c =
    escape_stopped c.loop-place.invariant.wrote c.in-Some.place _ (drop (c.in-Some.place + 1) c.loop-place.rest.now) c.in-Some.ensures.value
    (grind arith) refl _ _ c.in-Ok.ensures c.in-Err-write_escape.fault c.in-Err-write_escape.ensures

pub loop-place-preserved : goal.loop-place-preserved
loop-place-preserved g c =
    let left = rest-from (c.in-Some.place + 1) c.loop-place.rest.now in
    record {
      wrote = front_more c.loop-place.invariant.wrote c.in-Some.place _ _ c.in-Some.ensures.value (grind arith) left _ _ c.in-Ok.ensures
          c.in-Ok-write_escape.ensures;
      within = omega (arith, ap length left, length-drop (c.in-Some.place + 1) c.loop-place.rest.now);
    }

pub returns : goal.returns
returns g c = front_last c.loop-place.invariant.wrote _ c.write_text-2.result c.in_default.ensures.value c.write_text-2.ensures
