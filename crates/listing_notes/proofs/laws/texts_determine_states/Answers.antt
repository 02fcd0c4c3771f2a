use Rattle.listing_notes.proofs.TextLemmas.{states-equal}
use Rattle.listing_notes.proofs.laws.texts_determine_states.Goals as goal

pub returns : goal.returns
returns c = states-equal
