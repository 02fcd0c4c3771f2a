use Rattle.cql2_code.proofs.Compiled.{extract_of_segments, extract_of_lines}
use Rattle.cql2_code.proofs.laws.extracts_what_is_true.Goals as goal

pub returns-clause-lines : goal.returns-clause-lines
returns-clause-lines g c = extract_of_lines

pub returns-clause-loaded : goal.returns-clause-loaded
returns-clause-loaded g c = extract_of_segments
