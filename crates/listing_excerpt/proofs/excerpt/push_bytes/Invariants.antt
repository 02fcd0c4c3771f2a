use Rattle.std.proofs.Common.{◌≡◌, ◌++◌, take}
use Rattle.std.specs.String.{string_bytes}
use Rattle.listing_excerpt.specs.Excerpt.{bytes_text}
use Rattle.listing_excerpt.proofs.excerpt.push_bytes.Given as goal

-- the bytes so far
abbrev pub invariant-loop-byte : goal.invariant-loop-byte
invariant-loop-byte g l = string_bytes l.text ≡ string_bytes l.initial.text ++ bytes_text (take l.byte-index l.bytes)
