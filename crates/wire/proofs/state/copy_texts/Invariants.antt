use Rattle.std.proofs.Common.{◌≡◌, map, take}
use Rattle.std.specs.String.{string_bytes}
use Rattle.wire.proofs.state.copy_texts.Given as goal

-- the texts so far were copied
abbrev pub invariant-loop-text : goal.invariant-loop-text
invariant-loop-text g l = map string_bytes l.copies.items ≡ map (λ text. text.now) (take l.text-index l.texts)
