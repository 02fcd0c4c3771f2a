use Rattle.std.proofs.Common.{◌≡◌, ◌+◌, ◌<◌, ◌^◌, length}
use Rattle.addresses.specs.InStep.{IsInStep}
use Rattle.addresses.specs.Reading.{reading_from}
use Rattle.addresses.specs.RecordText.{record_texts}
use Rattle.addresses.proofs.unread.Unread.next.Given as goal

abbrev pub invariant-loop-self : goal.invariant-loop-self
invariant-loop-self l =
    (l.fn.self ≡ reading_from l.self-inside.line (record_texts l.self-inside.text.now))
    × (l.self-inside.line + length l.self-inside.text.now < 2 ^ 64)
    × IsInStep l.self-inside.text.now l.self-inside.reader.value

abbrev pub decreases-loop-self : goal.decreases-loop-self
decreases-loop-self l = length l.self-inside.text.now
