use Rattle.listing_notes.proofs.NoteLemmas.{notes-injective}
use Rattle.listing_notes.proofs.laws.notes_determine_states.Goals as goal

pub returns : goal.returns
returns c = notes-injective
