use Rattle.tl_segments.proofs.ValidLemmas.{are_segments, loaded_segments}
use Rattle.tl_segments.proofs.laws.lines_make_segments.Goals as goal

pub returns-clause-lines : goal.returns-clause-lines
returns-clause-lines c = are_segments

pub returns-clause-loaded : goal.returns-clause-loaded
returns-clause-loaded c = loaded_segments
