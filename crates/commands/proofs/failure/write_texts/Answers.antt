use Rattle.std.proofs.Common.{ℕ, List, Bor, Ok, Err, refl}
use Rattle.reports.proofs.PieceLemmas.{piece_stopped, piece_written, pieces_done}
use Rattle.commands.proofs.failure.write_texts.Goals as goal

abbrev bytes_of : Bor (List ℕ) → List ℕ
bytes_of text = text.now

pub loop-text-preserved : goal.loop-text-preserved
loop-text-preserved g c =
    piece_written bytes_of c.args.texts.now c.loop-text.text-index _ c.loop-text-test.true _ _ _ _ refl c.loop-text.invariant c.in-Ok.ensures

pub returns-in-Err : goal.returns-in-Err
returns-in-Err g c = (
  Err c.in-Err.field-0,
  piece_stopped bytes_of c.args.texts.now c.loop-text.text-index _ c.loop-text-test.true _ _ _ _ _ refl c.loop-text.invariant c.in-Err.ensures,
)

pub returns : goal.returns
returns g c = (
  Ok tt,
  pieces_done bytes_of c.args.texts.now c.loop-text.text-index (Ok tt) _ _ c.loop-text-test.false c.loop-text.invariant,
)
