use Rattle.bpf_meaning.proofs.MemoryLemmas.{stored_is_loaded, before_unchanged, after_unchanged}
use Rattle.bpf_meaning.proofs.laws.stores_are_loaded.Goals as goal

pub returns : goal.returns
returns c = record { loaded = stored_is_loaded; before = before_unchanged; after = after_unchanged }
