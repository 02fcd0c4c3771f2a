use Rattle.std.proofs.Common.{◌≡◌, ◌-◌, length, vec_len}
use Rattle.http_message.proofs.BodyLemmas.{IsBodySoFar}
use Rattle.http_message.proofs.body.read_body.Given as goal

abbrev pub invariant-loop-piece : goal.invariant-loop-piece
invariant-loop-piece g l = record {
  so_far : IsBodySoFar l.after_head l.length l.body.items (g.R.CountedRead.reader l.initial.input) (g.R.CountedRead.reader l.input);
  room : length l.piece ≡ 16384;
}

abbrev pub decreases-loop-piece : goal.decreases-loop-piece
decreases-loop-piece g l = l.length - vec_len l.body
