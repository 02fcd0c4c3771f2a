use Rattle.std.proofs.Common.{arith}
use Rattle.bpf_meaning.proofs.SlotLemmas.{is_written-pointer_inside, slot_pointer-store_within, slot_pointer-write_within}
use Rattle.bpf_meaning.proofs.SlotLemmas.{slot_value-set, slot_value-set_apart}
use Rattle.bpf_meaning.proofs.laws.pointers_are_loaded.Goals as goal

pub returns : goal.returns
returns c = record {
  loaded = slot_value-set;
  bytes = λ frame slot pointer byte within inside. is_written-pointer_inside frame slot pointer byte within (omega arith) (omega arith);
  others = slot_value-set_apart;
  stored = slot_pointer-store_within;
  written = slot_pointer-write_within;
}
