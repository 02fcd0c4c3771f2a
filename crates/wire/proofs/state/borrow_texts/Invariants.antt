use Rattle.std.proofs.Common.{◌≡◌, map, take}
use Rattle.std.specs.String.{string_bytes}
use Rattle.wire.proofs.state.borrow_texts.Given as goal

-- the texts so far were borrowed
abbrev pub invariant-loop-text : goal.invariant-loop-text
invariant-loop-text g l = map (λ text. text.now) l.borrowed.items ≡ map string_bytes (take l.text-index l.texts)
