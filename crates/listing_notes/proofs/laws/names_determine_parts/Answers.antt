use Rattle.listing_notes.proofs.TextLemmas.{names-differ}
use Rattle.listing_notes.proofs.laws.names_determine_parts.Goals as goal

pub returns : goal.returns
returns c = names-differ
