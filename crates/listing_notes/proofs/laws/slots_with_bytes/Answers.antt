use Rattle.listing_notes.proofs.SlotLemmas.{one-of-bytes}
use Rattle.listing_notes.proofs.laws.slots_with_bytes.Goals as goal

pub returns : goal.returns
returns c = one-of-bytes
