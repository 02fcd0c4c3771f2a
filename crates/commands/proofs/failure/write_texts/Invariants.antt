use Rattle.std.proofs.Common.{Ok, take}
use Rattle.std.specs.List.{flat_map}
use Rattle.counted_io.specs.Writing.{WritesText}
use Rattle.commands.proofs.failure.write_texts.Given as goal

-- the texts so far are written
abbrev pub invariant-loop-text : goal.invariant-loop-text
invariant-loop-text g l =
    WritesText (flat_map (λ text. text.now) (take l.text-index l.texts)) (Ok tt)
    (g.E.CountedWrite.writer l.initial.errors) (g.E.CountedWrite.writer l.errors)
