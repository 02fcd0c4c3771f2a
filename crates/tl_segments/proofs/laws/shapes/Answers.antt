use Rattle.tl_segments.proofs.ShapeTableLemmas.{few_points, has_all_lines, parts_have_points}
use Rattle.tl_segments.proofs.laws.shapes.Goals as goal

pub returns-clause-few : goal.returns-clause-few
returns-clause-few c = few_points

pub returns-clause-parts : goal.returns-clause-parts
returns-clause-parts c = parts_have_points

pub returns-clause-lines : goal.returns-clause-lines
returns-clause-lines c = has_all_lines
