use Rattle.std.proofs.Common.{append_assoc}
use Rattle.filters.proofs.failure.noted_pieces.Goals as goal

pub returns : goal.returns
returns c = simp append_assoc
