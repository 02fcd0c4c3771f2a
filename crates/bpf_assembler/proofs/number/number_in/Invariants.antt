use Rattle.std.proofs.Common.{◌≡◌, true, take}
use Rattle.std.specs.List.{list_all}
use Rattle.std.specs.Str.Parse.{digits_value}
use Rattle.bpf_assembler.specs.Number.{is_digit}
use Rattle.bpf_assembler.proofs.number.number_in.Given as goal

abbrev pub invariant-loop-byte : goal.invariant-loop-byte
invariant-loop-byte l = record {
  digits : list_all (is_digit l.radix) (take l.byte-index l.digits) ≡ true;
  value : l.number ≡ digits_value l.radix (take l.byte-index l.digits);
}
