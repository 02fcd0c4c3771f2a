use Rattle.std.proofs.Common.{◌≡◌, false, take}
use Rattle.std.specs.List.{list_any}
use Rattle.cql2_json.specs.Quoted.{is_control}
use Rattle.cql2_json.proofs.quoted.is_printable.Given as goal

abbrev pub invariant-loop-byte : goal.invariant-loop-byte
invariant-loop-byte l = list_any is_control (take l.byte-index l.byte-items) ≡ false
