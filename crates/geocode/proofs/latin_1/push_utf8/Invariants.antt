use Rattle.std.proofs.Common.{◌≡◌, ◌++◌, string_bytes, take}
use Rattle.geocode.specs.Latin1.{utf8_of}
use Rattle.geocode.proofs.latin_1.push_utf8.Given as goal

abbrev pub invariant-loop-byte : goal.invariant-loop-byte
invariant-loop-byte g l = string_bytes l.text ≡ string_bytes l.fn.text ++ utf8_of (take l.byte-index l.bytes)
