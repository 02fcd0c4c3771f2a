use Rattle.bpf_meaning.proofs.SlotLemmas.{slot_value-store_number_apart, slot_value-store_slot, slot_value-write_bytes_apart}
use Rattle.bpf_meaning.proofs.laws.numbers_are_loaded.Goals as goal

pub returns : goal.returns
returns c = record {
  whole = slot_value-store_slot;
  stored = slot_value-store_number_apart;
  written = slot_value-write_bytes_apart;
}
