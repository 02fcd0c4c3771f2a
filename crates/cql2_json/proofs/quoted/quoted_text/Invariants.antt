use Rattle.std.proofs.Common.{◌≡◌, ◌∷◌, take}
use Rattle.std.specs.List.{flat_map}
use Rattle.cql2_json.specs.Quoted.{quoted_byte}
use Rattle.cql2_json.proofs.quoted.quoted_text.Given as goal

abbrev pub invariant-loop-byte : goal.invariant-loop-byte
invariant-loop-byte g l = l.literal.items ≡ l.quote ∷ flat_map (quoted_byte l.quote) (take l.byte-index l.byte-items)
