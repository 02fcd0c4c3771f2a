use Rattle.std.proofs.Common.{◌≢◌, length, rules}
use Rattle.filters.proofs.PointedLemmas.{cut_reported}
use Rattle.filters.proofs.failure.pointed_pieces.Goals as goal

pub returns : goal.returns
returns c =
    let some : length c.args.pointer.now ≢ 0 = search rules in
    cut_reported c.args.flaw c.args.line.now c.args.pointer.now c.args.note.now c.requires some
